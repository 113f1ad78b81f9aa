use Rattle.avc_cavlc.proofs.Levels.{◌≡◌, refl, ◌≤◌, ◌+◌, ◌-◌, ◌++◌, ◌∷◌, ℤ, suc, pos, Ok, Err, arith, rules, length, take, drop, set, get_or, to_z}
use Rattle.avc_cavlc.proofs.Levels.{of_z, w16, ap, ◌∙◌, sym, length-set, replicate, reverse, ints, length-take-le}
use Rattle.avc_cavlc.proofs.Levels.{length-drop, take-append-drop, reader_bits, run, total_coeff}
use Rattle.avc_cavlc.proofs.Levels.{placed_others, run_coded, run_more, run_fault, no_runs, open_front, open_more, done_more}
use Rattle.avc_cavlc.proofs.Levels.{coefficient_more, front_none, small_more, value_at}
use Rattle.avc_cavlc.proofs.runs.place_runs.Goals.{then-values-test+else-k-total, else-values-test}
use Rattle.avc_cavlc.proofs.runs.place_runs.Goals as goal

pub values-init : goal.values-init
values-init c =
    let first = c.requires.placed in
    record {
      long = c.told-block;
      some = first.some;
      place = refl;
      is_open = record { within = omega (arith, first.room, c.told-block); front = first.open_front };
      read = refl;
      bytes = refl;
      count = first.placed_count;
      small = first.small;
    }

pub returns-in_err-zeros-clause-read : goal.returns-in_err-zeros-clause-read
returns-in_err-zeros-clause-read c =
    let values = take c.args.total c.args.values.now in
    let b = reader_bits c.values.reader in
    let n = c.args.total - 1 - c.values.k in
    let left : c.args.total - c.values.k ≡ suc n = omega arith in
    let cut : run n c.values.zeros_left b ≡ Err c.in_err-zeros.field-0.0 = ap (λ r. r b) (run_coded n c.values.zeros_left (omega arith) (omega arith)) ∙ c.in_err-zeros.ensures.read in
    let fault : placed_others values c.args.total c.args.first.count c.args.first.zeros_left c.args.block.now (reader_bits c.args.reader.now) ≡ Err c.in_err-zeros.field-0.0 =
    c.values.invariant.read
    ∙ run_fault (drop c.values.place c.values.block) (drop c.values.k values) n (c.args.total - c.values.k) c.values.zeros_left c.in_err-zeros.field-0.0 b left cut in
    search rules

pub values-preserved : goal.values-preserved
values-preserved c =
    let values = take c.args.total c.args.values.now in
    let b = reader_bits c.values.reader in
    let zeros = c.in_ok-zeros.zeros in
    let n = c.args.total - 1 - c.values.k in
    let at = c.values.place - 1 in
    let next = at - zeros in
    let v = get_or c.args.values.now c.values.k (pos 0) in
    let done = drop c.values.place c.values.block in
    let value = value_at c.args.values.now c.args.total c.values.k c.told-values (omega arith) (omega arith) c.requires.size in
    let is = value.is in
    let back : to_z w16 (of_z w16 v) ≡ v = omega (arith, ints, is.most) in
    let left : c.args.total - c.values.k ≡ suc n = omega arith in
    let place : c.values.place ≡ suc at = omega (arith, c.values.invariant.place) in
    let gap : at ≡ next + zeros = omega (arith, c.in_ok-zeros.ensures.most, c.values.invariant.place) in
    let behind : drop next (set c.values.block at v) ≡ replicate zeros (pos 0) ++ v ∷ done = done_more c.values.place at zeros next c.values.block v c.values.invariant.is_open place gap in
    let fewer : n ≡ c.args.total - (c.values.k + 1) = omega arith in
    let coded : run n c.values.zeros_left b ≡ Ok (zeros, reader_bits c.read_run_before.new.reader) =
    ap (λ r. r b) (run_coded n c.values.zeros_left (omega arith) (omega arith)) ∙ c.in_ok-zeros.ensures.read.0 in
    rw back (record {
      long = omega (arith, length-set {A = ℤ}, c.values.invariant.long);
      some = omega arith;
      place = omega (arith, c.in_ok-zeros.ensures.most, c.values.invariant.place);
      is_open = open_more c.values.place at zeros next c.values.block v c.values.invariant.is_open place gap;
      read = rw (behind, ← fewer)
          (c.values.invariant.read ∙ run_more done (drop c.values.k values) (drop (c.values.k + 1) values) v n (c.args.total - c.values.k) c.values.zeros_left zeros b (reader_bits c.read_run_before.new.reader) left value.here coded);
      bytes = c.in_ok-zeros.ensures.read.1 ∙ c.values.invariant.bytes;
      count = ap total_coeff behind ∙ coefficient_more zeros v done is ∙ ap (λ k. k + 1) c.values.invariant.count;
      small = small_more c.values.block at v c.values.invariant.small is (omega (arith, c.values.invariant.is_open.within));
    })

-- all zeros that are left stand before the last value, or none are left
none : (c : goal.After-place_others) → 2 ≤ c.args.total - c.values.k → c.values.zeros_left ≡ 0
none c more = elim c.values-test.branch [ then-values-test+else-k-total w ↦ absurd (omega arith) | else-values-test w ↦ omega arith ]

front : (c : goal.After-place_others) → take c.values.zeros_left c.place_others.new.block ≡ replicate c.values.zeros_left (pos 0)
front c =
    c.place_others.ensures.front ∙ open_front c.values.place c.values.zeros_left c.values.block c.values.invariant.is_open (omega (arith, c.values.invariant.place))

pub returns-clause-read : goal.returns-clause-read
returns-clause-read c =
    let values = take c.args.total c.args.values.now in
    let b = reader_bits c.values.reader in
    let wide : length c.args.values.now ≡ 16 = c.told-values in
    let long : length (drop c.values.k values) ≡ c.args.total - c.values.k = length-drop c.values.k values ∙ ap (λ n. n - c.values.k) (length-take-le c.args.total c.args.values.now (omega arith)) in
    let behind : drop c.values.zeros_left c.place_others.new.block ≡ reverse (drop c.values.k values) ++ drop c.values.place c.values.block =
    c.place_others.ensures.behind ∙ ap (λ k. reverse (drop c.values.k values) ++ drop k c.values.block) (sym c.values.invariant.place) in (
      rw (← behind, ← front c, take-append-drop c.values.zeros_left c.place_others.new.block) at
          (c.values.invariant.read ∙ no_runs (drop c.values.place c.values.block) (drop c.values.k values) (c.args.total - c.values.k) c.values.zeros_left b long (omega (arith, c.values.invariant.some)) (none c)),
      c.values.invariant.bytes,
    )

pub returns-clause-count : goal.returns-clause-count
returns-clause-count c =
    let place : total_coeff (drop (c.args.total - c.values.k + c.values.zeros_left) c.values.block) ≡ c.values.k = ap (λ k. total_coeff (drop k c.values.block)) (sym c.values.invariant.place) ∙ c.values.invariant.count in
    omega (arith, front_none c.values.zeros_left c.place_others.new.block (front c), c.place_others.ensures.count, place, c.values.invariant.some)
