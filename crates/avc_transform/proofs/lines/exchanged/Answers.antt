use Rattle.avc_transform.proofs.Residuals.{ℕ, ◌<◌, arith, ◌∙◌, below_four, cast_small, still_small}
use Rattle.avc_transform.proofs.lines.exchanged.Goals as goal

pub returns-clause-values : goal.returns-clause-values
returns-clause-values c = λ f l.
    let z = λ (k : ℕ) (h : k < 4). cast_small (omega arith) (c.requires.zeroth k h) ∙ l.zeroth k h in
    let a = λ (k : ℕ) (h : k < 4). cast_small (omega arith) (c.requires.first k h) ∙ l.first k h in
    let b = λ (k : ℕ) (h : k < 4). cast_small (omega arith) (c.requires.second k h) ∙ l.second k h in
    let d = λ (k : ℕ) (h : k < 4). cast_small (omega arith) (c.requires.third k h) ∙ l.third k h in
    record {
      zeroth = below_four _ (z 0 (omega arith)) (a 0 (omega arith)) (b 0 (omega arith)) (d 0 (omega arith));
      first = below_four _ (z 1 (omega arith)) (a 1 (omega arith)) (b 1 (omega arith)) (d 1 (omega arith));
      second = below_four _ (z 2 (omega arith)) (a 2 (omega arith)) (b 2 (omega arith)) (d 2 (omega arith));
      third = below_four _ (z 3 (omega arith)) (a 3 (omega arith)) (b 3 (omega arith)) (d 3 (omega arith));
    }

pub returns-clause-small : goal.returns-clause-small
returns-clause-small c = λ n l.
    let z = λ (k : ℕ) (h : k < 4). still_small (omega arith) (c.requires.zeroth k h) (l.zeroth k h) in
    let a = λ (k : ℕ) (h : k < 4). still_small (omega arith) (c.requires.first k h) (l.first k h) in
    let b = λ (k : ℕ) (h : k < 4). still_small (omega arith) (c.requires.second k h) (l.second k h) in
    let d = λ (k : ℕ) (h : k < 4). still_small (omega arith) (c.requires.third k h) (l.third k h) in
    record {
      zeroth = below_four _ (z 0 (omega arith)) (a 0 (omega arith)) (b 0 (omega arith)) (d 0 (omega arith));
      first = below_four _ (z 1 (omega arith)) (a 1 (omega arith)) (b 1 (omega arith)) (d 1 (omega arith));
      second = below_four _ (z 2 (omega arith)) (a 2 (omega arith)) (b 2 (omega arith)) (d 2 (omega arith));
      third = below_four _ (z 3 (omega arith)) (a 3 (omega arith)) (b 3 (omega arith)) (d 3 (omega arith));
    }
