use Rattle.avc_transform.proofs.Residuals.{ℕ, ◌+◌, ◌^◌, ◌<◌, arith, ◌∙◌, AllBelow-more, same_sum, same_difference, row_in_pairs, row_by_differences}
use Rattle.avc_transform.proofs.dc.hadamard4.Goals as goal

pub sums-e0-requires : goal.sums-e0-requires
sums-e0-requires c = record { a = AllBelow-more _ (omega arith) c.requires.zeroth; b = AllBelow-more _ (omega arith) c.requires.first }

pub differences-e1-requires : goal.differences-e1-requires
differences-e1-requires c = record { a = AllBelow-more _ (omega arith) c.requires.zeroth; b = AllBelow-more _ (omega arith) c.requires.first }

pub sums-e2-requires : goal.sums-e2-requires
sums-e2-requires c = record { a = AllBelow-more _ (omega arith) c.requires.second; b = AllBelow-more _ (omega arith) c.requires.third }

pub differences-e3-requires : goal.differences-e3-requires
differences-e3-requires c = record { a = AllBelow-more _ (omega arith) c.requires.second; b = AllBelow-more _ (omega arith) c.requires.third }

pub sums-requires : goal.sums-requires
sums-requires c = record {
  a = c.sums-e0.ensures.small (2 ^ 29) (2 ^ 29) c.requires.zeroth c.requires.first;
  b = c.sums-e2.ensures.small (2 ^ 29) (2 ^ 29) c.requires.second c.requires.third;
}

pub differences-requires : goal.differences-requires
differences-requires c = record {
  a = c.sums-e0.ensures.small (2 ^ 29) (2 ^ 29) c.requires.zeroth c.requires.first;
  b = c.sums-e2.ensures.small (2 ^ 29) (2 ^ 29) c.requires.second c.requires.third;
}

pub differences-requires-2 : goal.differences-requires-2
differences-requires-2 c = record {
  a = c.differences-e1.ensures.small (2 ^ 29) (2 ^ 29) c.requires.zeroth c.requires.first;
  b = c.differences-e3.ensures.small (2 ^ 29) (2 ^ 29) c.requires.second c.requires.third;
}

pub sums-requires-2 : goal.sums-requires-2
sums-requires-2 c = record {
  a = c.differences-e1.ensures.small (2 ^ 29) (2 ^ 29) c.requires.zeroth c.requires.first;
  b = c.differences-e3.ensures.small (2 ^ 29) (2 ^ 29) c.requires.second c.requires.third;
}

pub returns : goal.returns
returns c = record {
  values = λ f l.
      let e0 = λ (k : ℕ) (h : k < 4). c.sums-e0.ensures.values k h ∙ same_sum (l.zeroth k h) (l.first k h) in
      let e1 = λ (k : ℕ) (h : k < 4). c.differences-e1.ensures.values k h ∙ same_difference (l.zeroth k h) (l.first k h) in
      let e2 = λ (k : ℕ) (h : k < 4). c.sums-e2.ensures.values k h ∙ same_sum (l.second k h) (l.third k h) in
      let e3 = λ (k : ℕ) (h : k < 4). c.differences-e3.ensures.values k h ∙ same_difference (l.second k h) (l.third k h) in
      let pairs = λ (k : ℕ) (h : k < 4). row_in_pairs (λ u. f u k) _ _ (e0 k h) (e2 k h) in
      let differences = λ (k : ℕ) (h : k < 4). row_by_differences (λ u. f u k) _ _ (e1 k h) (e3 k h) in
      record {
        zeroth = λ k h. c.sums.ensures.values k h ∙ (pairs k h).0;
        first = λ k h. c.differences.ensures.values k h ∙ (pairs k h).1;
        second = λ k h. c.differences-2.ensures.values k h ∙ (differences k h).0;
        third = λ k h. c.sums-2.ensures.values k h ∙ (differences k h).1;
      };
  small = λ n d.
      let e0 = c.sums-e0.ensures.small n n d.zeroth d.first in
      let e1 = c.differences-e1.ensures.small n n d.zeroth d.first in
      let e2 = c.sums-e2.ensures.small n n d.second d.third in
      let e3 = c.differences-e3.ensures.small n n d.second d.third in
      record {
        zeroth = AllBelow-more _ (omega arith) (c.sums.ensures.small (n + n) (n + n) e0 e2);
        first = AllBelow-more _ (omega arith) (c.differences.ensures.small (n + n) (n + n) e0 e2);
        second = AllBelow-more _ (omega arith) (c.differences-2.ensures.small (n + n) (n + n) e1 e3);
        third = AllBelow-more _ (omega arith) (c.sums-2.ensures.small (n + n) (n + n) e1 e3);
      };
}
