use Rattle.avc_slice.proofs.ReadUnder.{common_steps, rules, arith, refl, ◌≡◌, ◌-◌, ◌+◌, ◌∙◌, starts, one_more, stops, overflows, no_code, no_item}
use Rattle.avc_slice.proofs.list.read_up_to.Goals as goal

pub loop-init : goal.loop-init
loop-init g c = record {
  within = omega arith;
  long = rw c.new-items.ensures refl;
  read = let all : c.args.room - 0 ≡ c.args.room = omega arith in rw c.new-items.ensures (starts _ _ _ _ _ _ _ all);
  bytes = refl;
}

pub returns-in_err-code : goal.returns-in_err-code
returns-in_err-code g c =
    let fault = no_code _ _ _ _ _ _ _ _ _ c.loop.invariant.read c.in_err-code.ensures.read in
    search rules

pub returns-then-code-ending : goal.returns-then-code-ending
returns-then-code-ending g c =
    (stops _ _ _ _ _ _ _ _ _ _ c.loop.invariant.read c.in_ok-code.ensures.read.0 c.if-code-ending.true, c.in_ok-code.ensures.read.1 ∙ c.loop.invariant.bytes)

pub returns-in_err-read_item : goal.returns-in_err-read_item
returns-in_err-read_item g c =
    let fault = no_item _ _ _ _ _ (c.args.room - c.loop.counter) (c.args.room - (c.loop.counter + 1)) _ _ _ _ _ (omega (arith, c.loop-test.true)) c.loop.invariant.read c.in_ok-code.ensures.read.0
    c.if-code-ending.false c.in_err-read_item.ensures.read in
    search rules

pub loop-preserved : goal.loop-preserved
loop-preserved g c = record {
  within = omega arith;
  long = grind (arith, common_steps);
  read = rw c.push.ensures (one_more _ _ _ _ _ (c.args.room - c.loop.counter) (c.args.room - (c.loop.counter + 1)) _ _ _ _ _ _ (omega (arith, c.loop-test.true))
      c.loop.invariant.read c.in_ok-code.ensures.read.0 c.if-code-ending.false c.in_ok-read_item.ensures.read.0);
  bytes = c.in_ok-read_item.ensures.read.1 ∙ c.in_ok-code.ensures.read.1 ∙ c.loop.invariant.bytes;
}

pub returns-in_err-code-2 : goal.returns-in_err-code-2
returns-in_err-code-2 g c =
    let fault = no_code _ _ _ _ _ _ _ _ _ c.loop.invariant.read c.in_err-code-2.ensures.read in
    search rules

pub returns-then-code-ending-2 : goal.returns-then-code-ending-2
returns-then-code-ending-2 g c =
    (stops _ _ _ _ _ _ _ _ _ _ c.loop.invariant.read c.in_ok-code-2.ensures.read.0 c.if-code-ending-2.true, c.in_ok-code-2.ensures.read.1 ∙ c.loop.invariant.bytes)

pub returns-else-code-ending-2 : goal.returns-else-code-ending-2
returns-else-code-ending-2 g c =
    overflows _ _ _ _ _ (c.args.room - c.loop.counter) _ _ _ _ (omega arith) c.loop.invariant.read c.in_ok-code-2.ensures.read.0 c.if-code-ending-2.false
