use Rattle.avc_console.proofs.StartCodes.{◌+◌, ◌≡◌, ◌∙◌, sym, arith, drop, length, length-drop, none_further, none_with, take_rest}
use Rattle.avc_console.proofs.parts.part_end.Goals as goal

pub returns-then-may_end_start_code-clause-first : goal.returns-then-may_end_start_code-clause-first
returns-then-may_end_start_code-clause-first c =
    let first = rw (take_rest c.args.piece.now c.loop-len.place) at c.in-Some.ensures in
    λ place low high. none_further c.args.piece.now c.args.begin c.loop-len.place c.in-Some.len c.loop-len.invariant.none first.0.before place low (omega (arith, high))

pub loop-len-preserved : goal.loop-len-preserved
loop-len-preserved c =
    let first = rw (take_rest c.args.piece.now c.loop-len.place) at c.in-Some.ensures in
    record {
      low = omega (arith, c.loop-len.invariant.low);
      within = omega (arith, first.0.high, length-drop c.loop-len.place c.args.piece.now);
      none = none_with c.args.piece.now c.args.begin (c.loop-len.place + c.in-Some.len)
          (none_further c.args.piece.now c.args.begin c.loop-len.place c.in-Some.len c.loop-len.invariant.none first.0.before) (sym c.may_end_start_code.ensures ∙ c.if-may_end_start_code.false);
    }

pub returns-clause-first : goal.returns-clause-first
returns-clause-first c =
    let left = drop c.loop-len.place c.args.piece.now in
    let all : c.loop-len.place + length left ≡ length c.args.piece.now = omega (arith, length-drop c.loop-len.place c.args.piece.now) in
    λ place low high. none_further c.args.piece.now c.args.begin c.loop-len.place (length left) c.loop-len.invariant.none (rw (take_rest c.args.piece.now c.loop-len.place) at c.in_default.ensures) place low
    (omega (arith, high, all))
