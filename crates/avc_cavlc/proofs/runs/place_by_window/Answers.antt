use Rattle.avc_cavlc.proofs.Levels.{◌≡◌, ◌+◌, ◌-◌, ◌++◌, ◌∷◌, ℤ, suc, pos, Ok, arith, length, take, drop, set, get_or, to_z, of_z, w16, ap, ◌∙◌}
use Rattle.avc_cavlc.proofs.Levels.{length-set, replicate, ints, drop-replicate, length-replicate, length-take-le, passed, run, total_coeff}
use Rattle.avc_cavlc.proofs.Levels.{run_coded, run_more, first_runs, open_first, open_more, done_more, no_coefficients, coefficient_more, small_none}
use Rattle.avc_cavlc.proofs.Levels.{small_more, value_at}
use Rattle.avc_cavlc.proofs.runs.place_by_window.Goals as goal

pub values-init : goal.values-init
values-init c =
    let values = take c.args.total c.args.values.now in
    let first = c.args.total + c.args.zeros in
    let wide : length c.args.values.now ≡ 16 = c.told-values in
    let long : length values ≡ c.args.total = length-take-le c.args.total c.args.values.now (omega arith) in
    let behind : drop first (replicate 16 (pos 0)) ≡ replicate (16 - first) (pos 0) = drop-replicate first 16 (pos 0) in
    let all : c.args.total ≡ c.args.total - 0 = omega arith in
    rw c.requires.zero (record {
      long = length-replicate 16 (pos 0);
      some = omega arith;
      place = omega arith;
      is_open = open_first first 16 c.requires.room;
      read = λ b _. rw (behind, ← all) (first_runs 16 values c.args.total c.args.zeros (passed b c.args.front) long (λ e. absurd (omega arith)));
      count = ap total_coeff behind ∙ no_coefficients (16 - first);
      small = λ i. small_none 16 i;
      few = omega arith;
    })

pub values-preserved : goal.values-preserved
values-preserved c =
    let values = take c.args.total c.args.values.now in
    let zeros = c.short_run-run.result.zeros in
    let n = c.args.total - 1 - c.values.k in
    let at = c.values.place - 1 in
    let next = at - zeros in
    let v = get_or c.args.values.now c.values.k (pos 0) in
    let done = drop c.values.place c.values.block in
    let value = value_at c.args.values.now c.args.total c.values.k c.told-values (omega arith) (omega arith) c.requires.size in
    let is = value.is in
    let back : to_z w16 (of_z w16 v) ≡ v = omega (arith, ints, is.most) in
    let left : c.args.total - c.values.k ≡ suc n = omega arith in
    let place : c.values.place ≡ suc at = omega (arith, c.values.invariant.place) in
    let gap : at ≡ next + zeros = omega (arith, c.short_run-run.ensures.most, c.values.invariant.place) in
    let behind : drop next (set c.values.block at v) ≡ replicate zeros (pos 0) ++ v ∷ done = done_more c.values.place at zeros next c.values.block v c.values.invariant.is_open place gap in
    let fewer : n ≡ c.args.total - (c.values.k + 1) = omega arith in
    rw back (record {
      long = omega (arith, length-set {A = ℤ}, c.values.invariant.long);
      some = omega arith;
      place = omega (arith, c.short_run-run.ensures.most, c.values.invariant.place);
      is_open = open_more c.values.place at zeros next c.values.block v c.values.invariant.is_open place gap;
      read = λ b window.
          let here = passed b c.values.length in
          let coded : run n c.values.zeros_left here ≡ Ok (zeros, passed b (c.values.length + c.short_run-run.result.length)) =
          ap (λ r. r here) (run_coded n c.values.zeros_left (omega arith) (omega arith)) ∙ rw c.from.ensures at (c.short_run-run.ensures.read b window (omega arith)) in
          rw (behind, ← fewer)
          (c.values.invariant.read b window ∙ run_more done (drop c.values.k values) (drop (c.values.k + 1) values) v n (c.args.total - c.values.k) c.values.zeros_left zeros here (passed b (c.values.length + c.short_run-run.result.length)) left value.here coded);
      count = ap total_coeff behind ∙ coefficient_more zeros v done is ∙ ap (λ k. k + 1) c.values.invariant.count;
      small = small_more c.values.block at v c.values.invariant.small is (omega (arith, c.values.invariant.is_open.within));
      few = omega (arith, c.values.invariant.few, c.short_run-run.ensures.short);
    })
