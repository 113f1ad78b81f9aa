use Rattle.avc_annexb.proofs.Written.{◌+◌, ◌≡◌, arith, length, drop, take_rest, length-drop, lone_more, lone_pair}
use Rattle.avc_annexb.proofs.runs.run_length.Goals as goal

pub returns-then-zero-bytes-clause-lone : goal.returns-then-zero-bytes-clause-lone
returns-then-zero-bytes-clause-lone c =
    let first = rw (take_rest c.args.bytes.now c.loop-len.place) at c.in-Some.ensures in
    lone_more c.args.bytes.now c.loop-len.place c.in-Some.len c.loop-len.invariant.lone first.0.before

pub loop-len-preserved : goal.loop-len-preserved
loop-len-preserved c =
    let first = rw (take_rest c.args.bytes.now c.loop-len.place) at c.in-Some.ensures in
    record {
      lone = lone_pair c.args.bytes.now (c.loop-len.place + c.in-Some.len) (lone_more c.args.bytes.now c.loop-len.place c.in-Some.len c.loop-len.invariant.lone first.0.before)
          c.if-bytes-zero-eq0.false;
      within = omega (arith, first.0.high, length-drop c.loop-len.place c.args.bytes.now);
    }

pub returns-clause-lone : goal.returns-clause-lone
returns-clause-lone c =
    let left = drop c.loop-len.place c.args.bytes.now in
    let all : c.loop-len.place + length left ≡ length c.args.bytes.now = omega (arith, length-drop c.loop-len.place c.args.bytes.now) in
    rw (← all) (lone_more c.args.bytes.now c.loop-len.place (length left) c.loop-len.invariant.lone (rw (take_rest c.args.bytes.now c.loop-len.place) at c.in_default.ensures))
