use Rattle.avc_transform.proofs.Residuals.{ℕ, ℤ, ◌+◌, ◌*◌, ◌^◌, ◌<◌, ◌>>ℤ◌, arith, ap, ◌∙◌, AllBelow-more, same_sum, same_difference}
use Rattle.avc_transform.proofs.inverse.inverse4.Goals as goal

pub halves-half1-requires : goal.halves-half1-requires
halves-half1-requires c = c.requires.first

pub halves-half3-requires : goal.halves-half3-requires
halves-half3-requires c = c.requires.third

pub sums-e0-requires : goal.sums-e0-requires
sums-e0-requires c = record { a = AllBelow-more _ (omega arith) c.requires.zeroth; b = AllBelow-more _ (omega arith) c.requires.second }

pub differences-e1-requires : goal.differences-e1-requires
differences-e1-requires c = record { a = AllBelow-more _ (omega arith) c.requires.zeroth; b = AllBelow-more _ (omega arith) c.requires.second }

pub differences-e2-requires : goal.differences-e2-requires
differences-e2-requires c = record {
  a = AllBelow-more _ (omega arith) (c.halves-half1.ensures.small (2 ^ 28) c.requires.first);
  b = AllBelow-more _ (omega arith) c.requires.third;
}

pub sums-e3-requires : goal.sums-e3-requires
sums-e3-requires c = record {
  a = AllBelow-more _ (omega arith) c.requires.first;
  b = AllBelow-more _ (omega arith) (c.halves-half3.ensures.small (2 ^ 28) c.requires.third);
}

pub sums-requires : goal.sums-requires
sums-requires c = record {
  a = AllBelow-more _ (omega arith) (c.sums-e0.ensures.small (2 ^ 29) (2 ^ 29) c.requires.zeroth c.requires.second);
  b = AllBelow-more _ (omega arith) (c.sums-e3.ensures.small (2 ^ 29) (2 ^ 28 + 1) c.requires.first (c.halves-half3.ensures.small (2 ^ 28) c.requires.third));
}

pub sums-requires-2 : goal.sums-requires-2
sums-requires-2 c = record {
  a = AllBelow-more _ (omega arith) (c.differences-e1.ensures.small (2 ^ 29) (2 ^ 29) c.requires.zeroth c.requires.second);
  b = AllBelow-more _ (omega arith) (c.differences-e2.ensures.small (2 ^ 28 + 1) (2 ^ 29) (c.halves-half1.ensures.small (2 ^ 28) c.requires.first) c.requires.third);
}

pub differences-requires : goal.differences-requires
differences-requires c = record {
  a = AllBelow-more _ (omega arith) (c.differences-e1.ensures.small (2 ^ 29) (2 ^ 29) c.requires.zeroth c.requires.second);
  b = AllBelow-more _ (omega arith) (c.differences-e2.ensures.small (2 ^ 28 + 1) (2 ^ 29) (c.halves-half1.ensures.small (2 ^ 28) c.requires.first) c.requires.third);
}

pub differences-requires-2 : goal.differences-requires-2
differences-requires-2 c = record {
  a = AllBelow-more _ (omega arith) (c.sums-e0.ensures.small (2 ^ 29) (2 ^ 29) c.requires.zeroth c.requires.second);
  b = AllBelow-more _ (omega arith) (c.sums-e3.ensures.small (2 ^ 29) (2 ^ 28 + 1) c.requires.first (c.halves-half3.ensures.small (2 ^ 28) c.requires.third));
}

pub returns-clause-values : goal.returns-clause-values
returns-clause-values c = λ f l.
    let half1 = λ (k : ℕ) (h : k < 4). c.halves-half1.ensures.values k h ∙ ap (λ (z : ℤ). z >>ℤ 1) (l.first k h) in
    let half3 = λ (k : ℕ) (h : k < 4). c.halves-half3.ensures.values k h ∙ ap (λ (z : ℤ). z >>ℤ 1) (l.third k h) in
    let e0 = λ (k : ℕ) (h : k < 4). c.sums-e0.ensures.values k h ∙ same_sum (l.zeroth k h) (l.second k h) in
    let e1 = λ (k : ℕ) (h : k < 4). c.differences-e1.ensures.values k h ∙ same_difference (l.zeroth k h) (l.second k h) in
    let e2 = λ (k : ℕ) (h : k < 4). c.differences-e2.ensures.values k h ∙ same_difference (half1 k h) (l.third k h) in
    let e3 = λ (k : ℕ) (h : k < 4). c.sums-e3.ensures.values k h ∙ same_sum (l.first k h) (half3 k h) in
    record {
      zeroth = λ k h. c.sums.ensures.values k h ∙ same_sum (e0 k h) (e3 k h);
      first = λ k h. c.sums-2.ensures.values k h ∙ same_sum (e1 k h) (e2 k h);
      second = λ k h. c.differences.ensures.values k h ∙ same_difference (e1 k h) (e2 k h);
      third = λ k h. c.differences-2.ensures.values k h ∙ same_difference (e0 k h) (e3 k h);
    }

pub returns-clause-small : goal.returns-clause-small
returns-clause-small c = λ n d.
    let half1 = c.halves-half1.ensures.small n d.first in
    let half3 = c.halves-half3.ensures.small n d.third in
    let e0 = c.sums-e0.ensures.small (2 * n) (2 * n) d.zeroth d.second in
    let e1 = c.differences-e1.ensures.small (2 * n) (2 * n) d.zeroth d.second in
    let e2 = c.differences-e2.ensures.small (n + 1) (2 * n) half1 d.third in
    let e3 = c.sums-e3.ensures.small (2 * n) (n + 1) d.first half3 in
    record {
      zeroth = AllBelow-more _ (omega arith) (c.sums.ensures.small (2 * n + 2 * n) (2 * n + (n + 1)) e0 e3);
      first = AllBelow-more _ (omega arith) (c.sums-2.ensures.small (2 * n + 2 * n) (n + 1 + 2 * n) e1 e2);
      second = AllBelow-more _ (omega arith) (c.differences.ensures.small (2 * n + 2 * n) (n + 1 + 2 * n) e1 e2);
      third = AllBelow-more _ (omega arith) (c.differences-2.ensures.small (2 * n + 2 * n) (2 * n + (n + 1)) e0 e3);
    }
