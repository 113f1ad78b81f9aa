-- Rows of macroblocks that stand still in one frame, one below the other, have no edge that is filtered.
use Rattle.avc_deblock.proofs.FilteredPictures.{◌≡◌, ◌∙◌, ℕ, zero, suc, ◌+◌, ◌-◌, ◌<◌, ◌/◌, ◌%◌, Bool, true, false, ℤ, List, refl, sym, arith, slice_index_or, nat_lt, ◌&&◌}
use Rattle.avc_deblock.proofs.FilteredPictures.{Planes, MbInfo, filters_between, strength_of, luma_qp_of, chroma_qp_of, edge_by_info, edges_by_info, mb_by_info, row_by_info, no_info}
use Rattle.avc_deblock.proofs.FilteredPictures.{edge_block, low_block, edge_zero, quiet}
use Rattle.avc_deblock.specs.FilterInfo.{StandsStill, FirstStandStill}

module _ (frame column row : ℕ) (offset : ℤ) where
  still_strength : (p q : MbInfo) → StandsStill frame p → StandsStill frame q → (v : Bool) (n k : ℕ) → n < 4 → k < 4 → strength_of p q v n k ≡ 0
  still_strength p q hp hq v n k n_low k_low =
      let kp : ℕ = edge_block v ((n + 3) % 4) k in
      let kq : ℕ = edge_block v n k in
      let p_low : kp < 16 = low_block v ((n + 3) % 4) k (omega arith) k_low in
      let q_low : kq < 16 = low_block v n k n_low k_low in
      rw (hp.inter, hq.inter) (quiet p kp q kq (record {
        no_p_levels = hp.no_levels kp p_low;
        no_q_levels = hq.no_levels kq q_low;
        picture = hp.pictures_are (kp / 4) (omega arith) ∙ sym (hq.pictures_are (kq / 4) (omega arith));
        vector = hp.vectors_are kp p_low ∙ sym (hq.vectors_are kq q_low);
      }))

  edge_stays : (p q : MbInfo) → StandsStill frame p → StandsStill frame q → (v : Bool) (n : ℕ) → n < 4 → (s : Planes) → edge_by_info v column row n offset p q s ≡ s
  edge_stays p q hp hq v n low s =
      edge_zero v column row n (strength_of p q v n) (luma_qp_of p q) (chroma_qp_of offset p q) s (λ k k_low. still_strength p q hp hq v n k low k_low)

  module _ (p q : MbInfo) (hp : StandsStill frame p) (hq : StandsStill frame q) (v : Bool) where
    outer_stays : (o : Bool) (s : Planes) → edges_by_info v column row offset o false p q s ≡ s
    outer_stays true s = edge_stays p q hp hq v 0 (omega arith) s
    outer_stays false s = refl

    edges_stay : (o i : Bool) (s : Planes) → edges_by_info v column row offset o i p q s ≡ s
    edges_stay o false s = outer_stays o s
    edges_stay o true s =
        edge_stays q q hq hq v 3 (omega arith) _
        ∙ edge_stays q q hq hq v 2 (omega arith) _
        ∙ edge_stays q q hq hq v 1 (omega arith) _
        ∙ outer_stays o s

  mb_stays : (left above q : MbInfo) → StandsStill frame left → StandsStill frame above → StandsStill frame q → (s : Planes) →
      mb_by_info offset column row left above q s ≡ s
  mb_stays left above q hl ha hq s =
      edges_stay above q ha hq false (nat_lt 0 row && filters_between q above) (filters_between q q) _
      ∙ edges_stay left q hl hq true (nat_lt 0 column && filters_between q left) (filters_between q q) s

pub still_row : (offset : ℤ) (row : ℕ) (above info : List MbInfo) (frame : ℕ) (s : Planes) → (n : ℕ) → FirstStandStill frame n above → FirstStandStill frame n info →
    row_by_info offset row above info n s ≡ s
still_row offset row above info frame s zero ha hi = refl
still_row offset row above info frame s (suc n) ha hi =
    mb_stays frame n row offset (slice_index_or info (n - 1) no_info) (slice_index_or above n no_info) (slice_index_or info n no_info)
    (hi (n - 1) no_info (omega arith)) (ha n no_info (omega arith)) (hi n no_info (omega arith)) _
    ∙ still_row offset row above info frame s n (λ k other low. ha k other (omega arith)) (λ k other low. hi k other (omega arith))
