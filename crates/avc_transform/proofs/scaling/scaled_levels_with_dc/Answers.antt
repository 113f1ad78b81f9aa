use Rattle.avc_transform.proofs.Residuals.{ℕ, ℤ, ◌≡◌, ◌+◌, ◌-◌, ◌<◌, ◌==◌, ◌^◌, ◌∙◌, sym, if◌then◌else◌, arith, nat_tests, w32, to_z-of_z, level}
use Rattle.avc_transform.proofs.Residuals.{ints, zigzag, below_four, level_stored, four_levels, AllBelow-more, cast_small, small_cast, level_back}
use Rattle.avc_transform.proofs.Residuals.{scaled_of, scaled_line, four_back, IsBelow-more}
use Rattle.avc_transform.proofs.scaling.scaled_levels_with_dc.Goals as goal

pub widened-requires : goal.widened-requires
widened-requires c =
    below_four _
    (record { low = omega (arith, ints); high = omega (arith, ints) })
    (level_stored _ (c.requires.small 1 (omega arith))) (level_stored _ (c.requires.small 2 (omega arith))) (level_stored _ (c.requires.small 8 (omega arith)))

pub widened-requires-2 : goal.widened-requires-2
widened-requires-2 c = four_levels c.args.levels.now c.requires.small 0 3 7 9 (omega arith) (omega arith) (omega arith) (omega arith)

pub widened-requires-3 : goal.widened-requires-3
widened-requires-3 c = four_levels c.args.levels.now c.requires.small 4 6 10 13 (omega arith) (omega arith) (omega arith) (omega arith)

pub widened-requires-4 : goal.widened-requires-4
widened-requires-4 c = four_levels c.args.levels.now c.requires.small 5 11 12 14 (omega arith) (omega arith) (omega arith) (omega arith)

pub scaled-ac-requires : goal.scaled-ac-requires
scaled-ac-requires c = record { levels = c.widened.ensures.small; scales = c.column_scales-scales.ensures.even_small }

pub scaled-requires : goal.scaled-requires
scaled-requires c = record { levels = c.widened-2.ensures.small; scales = c.column_scales-scales.ensures.odd_small }

pub scaled-requires-2 : goal.scaled-requires-2
scaled-requires-2 c = record { levels = c.widened-3.ensures.small; scales = c.column_scales-scales.ensures.even_small }

pub scaled-requires-3 : goal.scaled-requires-3
scaled-requires-3 c = record { levels = c.widened-4.ensures.small; scales = c.column_scales-scales.ensures.odd_small }

not_first : (x y : ℕ) (dc v : ℤ) → 0 < x → (if (x + y) == 0 then dc else v) ≡ v
not_first x y dc v some = grind (arith, nat_tests)

pub returns-clause-values : goal.returns-clause-values
returns-clause-values c =
    let qp = c.args.qp in
    let l = c.args.levels.now in
    let even = c.column_scales-scales.ensures.even in
    let odd = c.column_scales-scales.ensures.odd in
    let a = c.scaled-ac.ensures.values in
    let w = c.widened.ensures.values in
    let back = λ (n : ℕ) (h : n < 15). level_back (level l n) (c.requires.small n h) in
    let cast = λ (k : ℕ) (h : k < 4). cast_small (omega arith) (c.scaled-ac.ensures.small k h) in
    record {
      zeroth = below_four _
          (to_z-of_z w32 c.args.dc c.ranges.dc)
          (cast 1 (omega arith) ∙ scaled_of qp (level l 1) 0 1 (a 1 (omega arith)) (w 1 (omega arith) ∙ back 1 (omega arith)) (even 1 (omega arith)))
          (cast 2 (omega arith) ∙ scaled_of qp (level l 2) 0 2 (a 2 (omega arith)) (w 2 (omega arith) ∙ back 2 (omega arith)) (even 2 (omega arith)))
          (cast 3 (omega arith) ∙ scaled_of qp (level l 8) 0 3 (a 3 (omega arith)) (w 3 (omega arith) ∙ back 8 (omega arith)) (even 3 (omega arith)));
      first = λ k h. scaled_line qp 1 (λ k. level l (zigzag 1 k - 1)) _ _ _ c.scaled.ensures.values
          (four_back (λ k. level l (zigzag 1 k - 1)) _ _ c.widened-2.ensures.values (below_four _ (back 0 (omega arith)) (back 3 (omega arith)) (back 7 (omega arith)) (back 9 (omega arith)))) odd k h
          ∙ sym (not_first 1 k _ _ (omega arith));
      second = λ k h. scaled_line qp 2 (λ k. level l (zigzag 2 k - 1)) _ _ _ c.scaled-2.ensures.values
          (four_back (λ k. level l (zigzag 2 k - 1)) _ _ c.widened-3.ensures.values (below_four _ (back 4 (omega arith)) (back 6 (omega arith)) (back 10 (omega arith)) (back 13 (omega arith)))) even k h
          ∙ sym (not_first 2 k _ _ (omega arith));
      third = λ k h. scaled_line qp 3 (λ k. level l (zigzag 3 k - 1)) _ _ _ c.scaled-3.ensures.values
          (four_back (λ k. level l (zigzag 3 k - 1)) _ _ c.widened-4.ensures.values (below_four _ (back 5 (omega arith)) (back 11 (omega arith)) (back 12 (omega arith)) (back 14 (omega arith)))) odd k h
          ∙ sym (not_first 3 k _ _ (omega arith));
    }

pub returns-clause-small : goal.returns-clause-small
returns-clause-small c =
    let small = λ (k : ℕ) (h : k < 4). IsBelow-more _ (2 ^ 27) _ (omega arith) (small_cast (omega arith) (c.scaled-ac.ensures.small k h)) in
    record {
      zeroth = below_four _ (rw (to_z-of_z w32 c.args.dc c.ranges.dc) c.requires.dc) (small 1 (omega arith)) (small 2 (omega arith)) (small 3 (omega arith));
      first = AllBelow-more _ (omega arith) c.scaled.ensures.small;
      second = AllBelow-more _ (omega arith) c.scaled-2.ensures.small;
      third = AllBelow-more _ (omega arith) c.scaled-3.ensures.small;
    }
