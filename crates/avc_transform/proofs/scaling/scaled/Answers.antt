use Rattle.avc_transform.proofs.Residuals.{ℕ, ℤ, ◌≡◌, ◌*◌, ◌^◌, ◌<◌, ◌*ℤ◌, arith, ap, ◌∙◌, to_z, of_z, w32, pos, slice_index, IsBelow, below_four}
use Rattle.avc_transform.proofs.Residuals.{IsBelow-more, cast_small, small_cast}
use Rattle.avc_transform.proofs.scaling.scaled.Goals as goal

scale_less : (s : ℕ) → s < 2 ^ 13 → s < 2 ^ 15
scale_less s h = omega (arith, h)

value_less : (l : ℤ) → IsBelow (2 ^ 12) l → IsBelow (2 ^ 16) (to_z w32 (of_z w32 l))
value_less l p = small_cast (omega arith) (IsBelow-more _ _ l (omega arith) p)

-- a level times a scale
module _ (l t : ℤ) (s : ℕ) (p : IsBelow (2 ^ 12) l) (h : s < 2 ^ 13) (value : t ≡ to_z w32 (of_z w32 l) *ℤ pos s)
    (small : (m n : ℕ) → IsBelow m (to_z w32 (of_z w32 l)) → s < n → IsBelow (m * n) t) where
  fits : IsBelow (2 ^ 25) t
  fits = small (2 ^ 12) (2 ^ 13) (small_cast (omega arith) p) h

  stored_below : IsBelow (2 ^ 25) (to_z w32 (of_z w32 t))
  stored_below = small_cast (omega arith) fits

  stored : to_z w32 (of_z w32 t) ≡ l *ℤ pos s
  stored = cast_small (omega arith) fits ∙ value ∙ ap (λ z. z *ℤ pos s) (cast_small (omega arith) p)

pub times-requires : goal.times-requires
times-requires c = record { value = value_less _ (c.requires.levels 0 (omega arith)); scale = scale_less _ (c.requires.scales 0 (omega arith)) }

pub times-requires-2 : goal.times-requires-2
times-requires-2 c = record { value = value_less _ (c.requires.levels 1 (omega arith)); scale = scale_less _ (c.requires.scales 1 (omega arith)) }

pub times-requires-3 : goal.times-requires-3
times-requires-3 c = record { value = value_less _ (c.requires.levels 2 (omega arith)); scale = scale_less _ (c.requires.scales 2 (omega arith)) }

pub times-requires-4 : goal.times-requires-4
times-requires-4 c = record { value = value_less _ (c.requires.levels 3 (omega arith)); scale = scale_less _ (c.requires.scales 3 (omega arith)) }

pub returns : goal.returns
returns c =
    let s = λ (k : ℕ). slice_index c.args.scales k in
    let p = c.requires.levels in
    let q = c.requires.scales in
    record {
      values = below_four _
          (stored _ _ (s 0) (p 0 (omega arith)) (q 0 (omega arith)) c.times.ensures.value c.times.ensures.small)
          (stored _ _ (s 1) (p 1 (omega arith)) (q 1 (omega arith)) c.times-2.ensures.value c.times-2.ensures.small)
          (stored _ _ (s 2) (p 2 (omega arith)) (q 2 (omega arith)) c.times-3.ensures.value c.times-3.ensures.small)
          (stored _ _ (s 3) (p 3 (omega arith)) (q 3 (omega arith)) c.times-4.ensures.value c.times-4.ensures.small);
      small = below_four _
          (stored_below _ _ (s 0) (p 0 (omega arith)) (q 0 (omega arith)) c.times.ensures.value c.times.ensures.small)
          (stored_below _ _ (s 1) (p 1 (omega arith)) (q 1 (omega arith)) c.times-2.ensures.value c.times-2.ensures.small)
          (stored_below _ _ (s 2) (p 2 (omega arith)) (q 2 (omega arith)) c.times-3.ensures.value c.times-3.ensures.small)
          (stored_below _ _ (s 3) (p 3 (omega arith)) (q 3 (omega arith)) c.times-4.ensures.value c.times-4.ensures.small);
    }
