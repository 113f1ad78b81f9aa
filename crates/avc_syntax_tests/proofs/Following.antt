-- One macroblock more, and any slice.
pub mod Common
unfoldable pub use Common.*
use Rattle.avc_make_headers.specs.HeaderWriting.{IsHeader}

-- ---- one macroblock more, and any slice

pub follow_more : (p : Bool) (n first last : ℕ) (ms : List Mb) (m : Mb) → FollowOn p n first last ms → Stands p n m.syntax → m.qp ≡ qp_of last m.syntax → FollowOn p n first m.qp (ms ++ m ∷ [])
unfolding FollowOn
follow_more p n first last [] m all stands is = (stands, is ∙ ap (λ q. qp_of q m.syntax) (sym all), refl)
follow_more p n first last (x ∷ ms) m all stands is = (all.0, all.1, follow_more p n x.qp last ms m all.2 stands is)

pub follow_any : (s : SliceStart) (before : List PicMb) (first last : ℕ) (ms : List Mb) → FollowOn s.is_p s.num_ref_idx_active first last ms → CanFollow s before first ms
unfolding FollowOn
follow_any s before first last [] all = tt
follow_any s before first last (m ∷ ms) all = (all.0 (context s before first) refl refl, all.1, follow_any s (before ++ placed s m ∷ []) m.qp last ms all.2)

pub follow_none : (p : Bool) (n first : ℕ) → FollowOn p n first first []
unfolding FollowOn
follow_none p n first = refl

-- a slice of QP_Y 26 can be written
pub coded : (c : CodedSlice) (p : Bool) (n last : ℕ) → IsHeader c.sps c.pps c.header → (p ≡ false → 1 ≤ length c.macroblocks) → length c.macroblocks ≤ 38 → is_p c.header ≡ p → c.header.num_ref_idx_active ≡ n
    → nat_abs (slice_qp c.pps c.header.slice_qp_delta) ≡ 26 → FollowOn p n 26 last c.macroblocks → IsCodedSlice c
coded c p n last header some few is_type is_count is_qp all = record {
  header = header;
  some = λ e. some (sym is_type ∙ e);
  few = omega (arith, few);
  follow =
      let all' = subst (λ q. FollowOn p n q last c.macroblocks) (sym is_qp) all in
      let all'' = subst (λ k. FollowOn p k (own_start c).qp last c.macroblocks) (sym is_count) all' in
      follow_any (own_start c) (earlier_mbs c) (own_start c).qp last c.macroblocks (subst (λ b. FollowOn b c.header.num_ref_idx_active (own_start c).qp last c.macroblocks) (sym is_type) all'');
}

-- ---- elements

pub whole : (b : Bool) (n : ℕ) → n ≡ elim b [ true ↦ 15 | false ↦ 0 ] → n ≡ elim (n == 0) [ true ↦ 0 | false ↦ 15 ]
whole true n is = rw is refl
whole false n is = rw is refl

pub taken : {A : Type 0} (n : ℕ) (xs : List A) → n ≤ length xs → length (take n xs) ≡ n
taken zero xs few = refl
taken (suc n) [] few = absurd (omega (arith, few))
taken (suc n) (x ∷ xs) few = ap suc (taken n xs (omega (arith, few)))

pub each_first : {A : Type 0} (P : A → Type 0) (n : ℕ) (xs : List A) → Each P xs → Each P (take n xs)
each_first P zero xs all = tt
each_first P (suc n) [] all = tt
each_first P (suc n) (x ∷ xs) all = (all.0, each_first P n xs all.1)

pub each_same : {A : Type 0} (P : A → Type 0) (x : A) → P x → (n : ℕ) → Each P (replicate n x)
each_same P x is zero = tt
each_same P x is (suc n) = (is, each_same P x is n)
