use Rattle.avc_transform.proofs.Residuals.{ℕ, ℤ, ◌≡◌, ◌+◌, ◌*◌, ◌^◌, ◌<◌, ◌∙◌, [], ◌∷◌, refl, pos, slice_index_or, to_z, of_z, w32, arith, below_four}
use Rattle.avc_transform.proofs.Residuals.{IsBelow, IsBelow-add, IsBelow-sub, IsBelow-more, cast_small, row_in_pairs, row_by_differences}
use Rattle.avc_transform.proofs.dc.hadamard_row.Goals as goal

-- two sums or differences, and what is made of both, pass through their bits
module _ {op f : ℤ → ℤ → ℤ} (grows : (m n : ℕ) (a b : ℤ) → IsBelow m a → IsBelow n b → IsBelow (m + n) (op a b))
    (each : (m n : ℕ) (a b : ℤ) → IsBelow m a → IsBelow n b → IsBelow (m + n) (f a b)) where
  small : {n : ℕ} {a b d e : ℤ} → IsBelow n a → IsBelow n b → IsBelow n d → IsBelow n e → IsBelow (4 * n) (op (f a b) (f d e))
  small p q r s = IsBelow-more _ _ _ (omega arith) (grows _ _ _ _ (each _ _ _ _ p q) (each _ _ _ _ r s))

  pair : {a b : ℤ} → IsBelow (2 ^ 14) a → IsBelow (2 ^ 14) b → to_z w32 (of_z w32 (f (to_z w32 (of_z w32 a)) (to_z w32 (of_z w32 b)))) ≡ f a b
  pair p q = rw (cast_small (omega arith) p, cast_small (omega arith) q) (cast_small (omega arith) (each _ _ _ _ p q))

  through : {a b d e : ℤ} → IsBelow (2 ^ 14) a → IsBelow (2 ^ 14) b → IsBelow (2 ^ 14) d → IsBelow (2 ^ 14) e →
      to_z w32 (of_z w32 (op (to_z w32 (of_z w32 (f (to_z w32 (of_z w32 a)) (to_z w32 (of_z w32 b))))) (to_z w32 (of_z w32 (f (to_z w32 (of_z w32 d)) (to_z w32 (of_z w32 e)))))))
      ≡ op (f a b) (f d e)
  through p q r s = rw (pair p q, pair r s) (cast_small (omega arith) (small p q r s))

at_each : (P : ℤ → Type 0) (a b d e : ℤ) → P a → P b → P d → P e → (x : ℕ) → x < 4 → P (slice_index_or (a ∷ b ∷ d ∷ e ∷ []) x (pos 0))
at_each P a b d e = below_four (λ x. P (slice_index_or (a ∷ b ∷ d ∷ e ∷ []) x (pos 0)))

pub returns : goal.returns
returns c =
    let r = c.requires in
    let row = λ (u : ℕ). slice_index_or (c.args.a ∷ c.args.b ∷ c.args.c ∷ c.args.d ∷ []) u (pos 0) in
    let sums = row_in_pairs row _ _ refl refl in
    let differences = row_by_differences row _ _ refl refl in
    let first = through IsBelow-add IsBelow-add r.small0 r.small1 r.small2 r.small3 in
    let second = through IsBelow-sub IsBelow-add r.small0 r.small1 r.small2 r.small3 in
    let third = through IsBelow-sub IsBelow-sub r.small0 r.small1 r.small2 r.small3 in
    let fourth = through IsBelow-add IsBelow-sub r.small0 r.small1 r.small2 r.small3 in
    record {
      values = below_four _ (first ∙ sums.0) (second ∙ sums.1) (third ∙ differences.0) (fourth ∙ differences.1);
      small = λ x n h p q s t.
          at_each (IsBelow (4 * n)) _ _ _ _
          (rw first (small IsBelow-add IsBelow-add p q s t)) (rw second (small IsBelow-sub IsBelow-add p q s t))
          (rw third (small IsBelow-sub IsBelow-sub p q s t)) (rw fourth (small IsBelow-add IsBelow-sub p q s t)) x h;
    }
