-- The three rows of macroblocks whose info is kept, with the info of one macroblock more.
use Rattle.std.proofs.Common.{◌≡◌, ◌∙◌, ℕ, ◌+◌, ◌-◌, ◌*◌, ◌<◌, ◌≤◌, List, [], ◌∷◌, ◌++◌, length, sym, ap, subst, arith, inl, inr, slice_index_or, slice_set}
use Rattle.std.proofs.Common.{get_or-set_other, get_or-set_same, length-set}
use Rattle.std.proofs.Math.Nat.{add-mul, mul-le-mul_right}
use Rattle.std.proofs.Math.Seq.{get_or-append_seam}
use Rattle.std.proofs.lemmas.Bool.{cases_lt}
use Rattle.std.proofs.lemmas.List.{length-append, get_or_append_left, get_or-replicate}
use Rattle.std.specs.Prelude.{Bool, true, Option, Some, map, slice_index}
use Rattle.avc_types.specs.Macroblock.{Mb, p_skip}
use Rattle.avc_neigh.specs.declared.neighbour_info.Motion.{Motion}
use Rattle.avc_neigh.specs.declared.neighbour_info.Motion.TheVariants.{Absent as absent, Inter as inter}
use Rattle.avc_motion.specs.Motion.{is_intra, still_blocks, vector_of, zero_vector}
use Rattle.avc_deblock.specs.Edges.{has_coefficients}
use Rattle.avc_deblock.specs.FilterInfo.{StandsStill, FirstStandStill}
use Rattle.avc_deblock.specs.declared.mb_info.MbInfo.{MbInfo}
use Rattle.avc_picture.specs.FilterRows.{AreFrom, AreLastRows, AreStillIn, StandStillIn}
use Rattle.avc_picture.specs.MacroblockInfo.{IsFilterInfo, number_of}
use Rattle.avc_picture.specs.declared.slice_context.SliceContext.{SliceContext}

rows_below : (width r row : ℕ) → r + 1 ≤ row → r * width + width ≤ row * width
rows_below width r row low = omega (arith, mul-le-mul_right width low, add-mul r 1 width)

module _ (info : List MbInfo) (f : MbInfo) (address n : ℕ) (kept : List MbInfo) (are : AreFrom info address n kept) where
  -- a row that it is not of
  of_earlier : address + n ≤ length info → AreFrom (info ++ f ∷ []) address n kept
  of_earlier within k other low =
      are k other low ∙ sym (get_or_append_left info (f ∷ []) other (address + k) (omega (arith, low, within)))

  -- its own row
  of_own : address + n ≡ length info → n < length kept → AreFrom (info ++ f ∷ []) address (n + 1) (slice_set kept n f)
  of_own count room k other low =
      elim (cases_lt k n) [
        | inl before ↦ get_or-set_other kept n k f other (omega (arith, before)) ∙ of_earlier (omega (arith, count)) k other before
        | inr here ↦
            let same : k ≡ n = omega (arith, here, low) in
            rw same (get_or-set_same kept n f other room ∙ sym (ap (λ i. slice_index_or (info ++ f ∷ []) i other) count ∙ get_or-append_seam info f [] other))
      ]

module _ {info : List MbInfo} {width column row : ℕ} {current last above : List MbInfo} (kept : AreLastRows info width column row current last above) (f : MbInfo) where
  abbrev more : List MbInfo
  more = info ++ f ∷ []

  own : AreFrom more (row * width) (column + 1) (slice_set current column f)
  own = of_own info f (row * width) column current kept.current_is (sym kept.count) (omega (arith, kept.narrow, kept.current_long))

  earlier : (r : ℕ) (xs : List MbInfo) → r + 1 ≤ row → AreFrom info (r * width) width xs → AreFrom more (r * width) width xs
  earlier r xs low are = of_earlier info f (r * width) width xs are (omega (arith, rows_below width r row low, kept.count))

  -- where it is not the last of its row
  pub inside_row : column + 1 < width → AreLastRows more width (column + 1) row (slice_set current column f) last above
  inside_row narrow = record {
    narrow = narrow;
    count = omega (arith, length-append info (f ∷ []), kept.count);
    current_long = length-set current column f ∙ kept.current_long;
    last_long = kept.last_long;
    above_long = kept.above_long;
    current_is = own;
    last_is = λ some. earlier (row - 1) last (omega (arith, some)) (kept.last_is some);
    above_is = λ some. earlier (row - 2) above (omega (arith, some)) (kept.above_is some);
  }

  -- where it is, the oldest row gives its place to the next
  pub row_ended : column + 1 ≡ width → AreLastRows more width 0 (row + 1) above (slice_set current column f) last
  row_ended end = record {
    narrow = omega (arith, kept.narrow);
    count = omega (arith, length-append info (f ∷ []), kept.count, end, add-mul row 1 width);
    current_long = kept.above_long;
    last_long = length-set current column f ∙ kept.current_long;
    above_long = kept.last_long;
    current_is = λ k other low. absurd (omega (arith, low));
    last_is = λ _.
        let same : row + 1 - 1 ≡ row = omega arith in
        rw same (subst (λ n. AreFrom more (row * width) n (slice_set current column f)) end own);
    above_is = λ some.
        let same : row + 1 - 2 ≡ row - 1 = omega arith in
        let one : 1 ≤ row = omega (arith, some) in
        rw same (earlier (row - 1) last (omega (arith, one)) (kept.last_is one));
  }

-- ---- whether rows stand still

-- what the filter is told of a skipped macroblock that stands still
still_told : {PAD : ℕ} (mb : Mb) (motion : List Motion) (s : SliceContext PAD) (f : MbInfo) → IsFilterInfo mb motion s f → mb.syntax ≡ p_skip → motion ≡ still_blocks
    → StandsStill (slice_index s.frame_numbers 0) f
still_told mb motion s f told skipped still = record {
  inter = told.intra_is ∙ ap is_intra skipped;
  no_levels = λ k low. told.coefficients_is k low ∙ ap (λ y. has_coefficients y k) skipped;
  pictures_are = λ q low.
      told.pictures_are q low
      ∙ ap (λ (m : List Motion). number_of s.frame_numbers (slice_index_or m (4 * q) absent)) still
      ∙ ap (number_of s.frame_numbers) (get_or-replicate 16 (4 * q) (inter 0 zero_vector) absent (omega arith));
  vectors_are = λ k low.
      ap (λ vs. slice_index_or vs k zero_vector) (told.vectors_are ∙ ap (map vector_of) still)
      ∙ get_or-replicate 16 k zero_vector zero_vector low;
}

-- one more of a row
module _ (frame n : ℕ) (kept : List MbInfo) (f : MbInfo) (room : n < length kept) (before : 0 < n → FirstStandStill frame n kept) (here : StandsStill frame f) where
  one_more : FirstStandStill frame (n + 1) (slice_set kept n f)
  one_more k other low =
      elim (cases_lt k n) [
        | inl less ↦ rw (get_or-set_other kept n k f other (omega (arith, less))) (before (omega (arith, less)) k other less)
        | inr past ↦
            let same : k ≡ n = omega (arith, past, low) in
            rw (same, get_or-set_same kept n f other room) here
      ]

module _ {width column : ℕ} {current_told last_told above_told told : Option ℕ} {current last above : List MbInfo} (kept : AreStillIn width column current_told last_told above_told current last above)
    (f : MbInfo) (room : column < length current) (here : StandStillIn told (column + 1) (slice_set current column f)) where
  pub still_inside : AreStillIn width (column + 1) told last_told above_told (slice_set current column f) last above
  still_inside = record { current_is = here; last_is = kept.last_is; above_is = kept.above_is }

  pub still_ended : column + 1 ≡ width → (other : Option ℕ) → AreStillIn width 0 other told last_told above (slice_set current column f) last
  still_ended end other = record {
    current_is = λ frame is k entry low. absurd (omega (arith, low));
    last_is = subst (λ n. StandStillIn told n (slice_set current column f)) end here;
    above_is = kept.last_is;
  }

module _ {PAD : ℕ} (mb : Mb) (motion : List Motion) (s : SliceContext PAD) (f : MbInfo) (of : IsFilterInfo mb motion s f) (stands_still : Bool) (skipped : stands_still ≡ true → mb.syntax ≡ p_skip)
    (still : stands_still ≡ true → motion ≡ still_blocks) (before told : Option ℕ) (n : ℕ) (kept : List MbInfo) (room : n < length kept) (are : StandStillIn before n kept)
    (stands : (frame : ℕ) → told ≡ Some frame → stands_still ≡ true) (in_frame : (frame : ℕ) → told ≡ Some frame → slice_index s.frame_numbers 0 ≡ frame)
    (those_before : (frame : ℕ) → told ≡ Some frame → 0 < n → before ≡ Some frame) where
  pub still_more : StandStillIn told (n + 1) (slice_set kept n f)
  still_more frame is =
      let does = stands frame is in
      one_more frame n kept f room (λ some. are frame (those_before frame is some))
      (subst (λ m. StandsStill m f) (in_frame frame is) (still_told mb motion s f of (skipped does) (still does)))
