use Rattle.avc_transform.proofs.Residuals.{ℕ, ◌<◌, arith, level, zigzag, below_four, level_back, four_levels, four_back}
use Rattle.avc_transform.proofs.scaling.in_columns.Goals as goal

pub widened-requires : goal.widened-requires
widened-requires c = four_levels c.args.levels.now c.requires 0 2 3 9 (omega arith) (omega arith) (omega arith) (omega arith)

pub widened-requires-2 : goal.widened-requires-2
widened-requires-2 c = four_levels c.args.levels.now c.requires 1 4 8 10 (omega arith) (omega arith) (omega arith) (omega arith)

pub widened-requires-3 : goal.widened-requires-3
widened-requires-3 c = four_levels c.args.levels.now c.requires 5 7 11 14 (omega arith) (omega arith) (omega arith) (omega arith)

pub widened-requires-4 : goal.widened-requires-4
widened-requires-4 c = four_levels c.args.levels.now c.requires 6 12 13 15 (omega arith) (omega arith) (omega arith) (omega arith)

pub returns : goal.returns
returns c =
    let l = c.args.levels.now in
    let back = λ (n : ℕ) (h : n < 16). level_back (level l n) (c.requires n h) in
    record {
      values = record {
        zeroth = four_back (λ y. level l (zigzag 0 y)) _ _ c.widened.ensures.values
            (below_four _ (back 0 (omega arith)) (back 2 (omega arith)) (back 3 (omega arith)) (back 9 (omega arith)));
        first = four_back (λ y. level l (zigzag 1 y)) _ _ c.widened-2.ensures.values
            (below_four _ (back 1 (omega arith)) (back 4 (omega arith)) (back 8 (omega arith)) (back 10 (omega arith)));
        second = four_back (λ y. level l (zigzag 2 y)) _ _ c.widened-3.ensures.values
            (below_four _ (back 5 (omega arith)) (back 7 (omega arith)) (back 11 (omega arith)) (back 14 (omega arith)));
        third = four_back (λ y. level l (zigzag 3 y)) _ _ c.widened-4.ensures.values
            (below_four _ (back 6 (omega arith)) (back 12 (omega arith)) (back 13 (omega arith)) (back 15 (omega arith)));
      };
      small = record { zeroth = c.widened.ensures.small; first = c.widened-2.ensures.small; second = c.widened-3.ensures.small; third = c.widened-4.ensures.small };
    }
