use Rattle.avc_picture.proofs.Slices.{◌≡◌, Err, arith, rules, usable-pictures, answers-further, ends-badly, from-here, same-area, usable-still}
use Rattle.avc_picture.proofs.Slices.{faulty, goes-on-from, is-read, room}
use Rattle.avc_picture.proofs.StillRuns.{none_copied}
use Rattle.avc_picture.proofs.slice_decoding.decode_macroblocks.Goals as goal

pub decode-requires : goal.decode-requires
decode-requires g c =
    let h = c.requires.some.has_first in
    let m = c.args.macroblocks.now in
    let context = c.new-context.result in
    let knows = c.new-context.ensures in
    let go = h.goes_on context knows in
    let usable =
    usable-pictures m.canvas.width m.canvas.height c.args.frames.now c.args.slice.header.now c.requires.frames c.requires.weights c.args.places.now context.references knows.full knows.pictures in
    (omega arith, (omega arith, (room go h.first, (rw c.mb.ensures (is-read go h.first), (usable, (none_copied context.references m.canvas.width m.next c.new-run.result.copied m.canvas.planes c.new-run.ensures, λ some. absurd (omega (arith, some, c.new-run.ensures))))))))

pub returns-in_err-decode-clause-answer : goal.returns-in_err-decode-clause-answer
returns-in_err-decode-clause-answer g c = λ coded names s d h.
    let go = h.goes_on c.new-context.result c.new-context.ensures in
    let first = rw (← c.mb.ensures) at h.first in
    let f = c.in_err-decode.field-0.0 in
    let e : c.from_residual.result ≡ Err f = search rules in
    rw e (ends-badly (from-here go) 1 _ f c.decode.new.self (omega (arith, c.requires.read)) (faulty go first f c.decode.new.self (c.in_err-decode.ensures.decoded coded names)))

pub decode_data-requires : goal.decode_data-requires
decode_data-requires g c =
    let w = c.requires.some in
    let h = w.has_first in
    let m = c.args.macroblocks.now in
    let context = c.new-context.result in
    let knows = c.new-context.ensures in
    let go = h.goes_on context knows in
    let done = c.in_ok-decode.ensures in
    let inside = room go h.first in
    let area = same-area done.size in
    let far = goes-on-from go (rw (← c.mb.ensures) at h.first) c.decode.new.self done.next (done.decoded w.coded w.names) in
    let usable = usable-still _ done.size
    (usable-pictures m.canvas.width m.canvas.height c.args.frames.now c.args.slice.header.now c.requires.frames c.requires.weights c.args.places.now context.references knows.full knows.pictures) in
    (omega arith, (omega arith, (record { coded = w.coded; names = w.names; start = w.start; goes_on = far.goes_on }, (usable, (done.copied, (done.still, (omega (arith, done.next, c.requires.read), (omega (arith, inside, area, c.requires.read), omega (arith, area, c.requires.small)))))))))

pub returns-clause-answer : goal.returns-clause-answer
returns-clause-answer g c = λ coded names s d h.
    let done = c.in_ok-decode.ensures in
    let far = goes-on-from (h.goes_on c.new-context.result c.new-context.ensures) (rw (← c.mb.ensures) at h.first) c.decode.new.self done.next (done.decoded coded names) in
    answers-further far c.decode_data.result c.decode_data.new.read c.decode_data.new.macroblocks (c.decode_data.ensures.answer coded names s far.goes_on)
