use Rattle.avc_picture.proofs.Slices.{◌≡◌, Err, ◌∙◌, arith, rules, ends-badly, ends-well, goes-further, same-area, usable-still, handed, has-room}
use Rattle.avc_picture.proofs.Slices.{at-end, at-fault, faulty, goes-on-from}
use Rattle.avc_picture.proofs.slice_decoding.decode_data.Goals as goal

pub returns-in_err-next_macroblock-clause-answer : goal.returns-in_err-next_macroblock-clause-answer
returns-in_err-next_macroblock-clause-answer g c = λ coded names s go.
    let far = c.macroblocks.invariant.goes_on coded names s go in
    let f = c.in_err-next_macroblock.field-0.0 in
    let e : c.from_residual.result ≡ Err f = search rules in
    rw e (ends-badly far 0 _ f c.macroblocks.macroblocks (omega (arith, c.macroblocks.invariant.reached)) (at-fault far.goes_on f c.in_err-next_macroblock.ensures))

pub decode-requires : goal.decode-requires
decode-requires g c =
    let out = has-room c.requires.some c.macroblocks.invariant.goes_on (rw (c.if-branch.true, ← c.mb.ensures) at c.in_ok-next_macroblock.ensures) in
    (omega arith, (omega arith, (out.0, (out.1, (usable-still _ c.macroblocks.invariant.size c.requires.usable, (c.macroblocks.invariant.copied, c.macroblocks.invariant.still))))))

pub macroblocks-smaller : goal.macroblocks-smaller
macroblocks-smaller g c =
    let out = has-room c.requires.some c.macroblocks.invariant.goes_on (rw (c.if-branch.true, ← c.mb.ensures) at c.in_ok-next_macroblock.ensures) in
    omega (arith, out.0, c.in_ok-decode.ensures.next, same-area c.in_ok-decode.ensures.size)

pub macroblocks-preserved : goal.macroblocks-preserved
macroblocks-preserved g c =
    let hands = rw (c.if-branch.true, ← c.mb.ensures) at c.in_ok-next_macroblock.ensures in
    let before = c.macroblocks.invariant in
    let out = has-room c.requires.some before.goes_on hands in
    let done = c.in_ok-decode.ensures in
    record {
      size = record { width = done.size.width ∙ before.size.width; height = done.size.height ∙ before.size.height };
      reached = omega (arith, done.next, before.reached);
      copied = done.copied;
      still = done.still;
      within = omega (arith, out.0, same-area done.size, before.reached);
      goes_on = λ coded names s go.
          let far = before.goes_on coded names s go in
          goes-further far (goes-on-from far.goes_on (handed far.goes_on hands) c.decode.new.self done.next (done.decoded coded names));
    }

pub returns-in_err-decode-clause-within : goal.returns-in_err-decode-clause-within
returns-in_err-decode-clause-within g c =
    let out = has-room c.requires.some c.macroblocks.invariant.goes_on (rw (c.if-branch.true, ← c.mb.ensures) at c.in_ok-next_macroblock.ensures) in
    omega (arith, out.0, same-area c.macroblocks.invariant.size, c.macroblocks.invariant.reached)

pub returns-in_err-decode-clause-answer : goal.returns-in_err-decode-clause-answer
returns-in_err-decode-clause-answer g c = λ coded names s go.
    let far = c.macroblocks.invariant.goes_on coded names s go in
    let out = handed far.goes_on (rw (c.if-branch.true, ← c.mb.ensures) at c.in_ok-next_macroblock.ensures) in
    let f = c.in_err-decode.field-0.0 in
    let e : c.from_residual-in_err-decode.result ≡ Err f = search rules in
    rw e (ends-badly far 1 _ f c.decode.new.self (omega (arith, c.macroblocks.invariant.reached)) (faulty far.goes_on out f c.decode.new.self (c.in_err-decode.ensures.decoded coded names)))

pub returns-clause-answer : goal.returns-clause-answer
returns-clause-answer g c = λ coded names s go.
    let far = c.macroblocks.invariant.goes_on coded names s go in
    ends-well far c.macroblocks.read c.macroblocks.invariant.reached (at-end far.goes_on (rw (c.if-branch.false) at c.in_ok-next_macroblock.ensures))
