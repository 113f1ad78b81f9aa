use Rattle.avc_picture.proofs.Slices.{refl, arith, none-of, refused-again, after-refusal, well-somewhere}
use Rattle.avc_picture.proofs.decoder.PictureDecoder.slice.Goals as goal

pub returns-in-Some : goal.returns-in-Some
returns-in-Some g c =
    let kept = rw c.in-Some.is at c.self.invariant in
    rw (c.with_newest-self-inside.ensures, ← c.self.view_is) (refl, refused-again c.args.slice.now kept)

pub decode_slice-decoded-requires : goal.decode_slice-decoded-requires
decode_slice-decoded-requires g c =
    let kept = c.self.invariant in
    let asked = rw (← c.self.view_is) at c.requires in
    let well = rw (← asked.frames) at (well-somewhere (none-of c.in_default.not-Some) kept) in
    let stored = rw (← asked.frames) at kept.of_frames in
    (omega arith, (omega arith, (kept.of_sps, (kept.of_pps, (asked.within, (stored, (kept.within, (kept.width, (kept.height, well)))))))))

pub number_after-self-inside-requires-clause-few : goal.number_after-self-inside-requires-clause-few
number_after-self-inside-requires-clause-few g c = (well-somewhere (none-of c.in_default.not-Some) c.self.invariant).well.few

pub invariant_of-self-in-Err : goal.invariant_of-self-in-Err
invariant_of-self-in-Err g c =
    let i = c.self.inside in
    let kept = rw (none-of c.in_default.not-Some) at c.self.invariant in
    let asked = rw (← c.self.view_is) at c.requires in
    let told = rw (asked.frames) at c.in-Err.ensures in
    rw (c.with_newest-self-inside-2.ensures)
    (after-refusal i.sps i.pps i.frames.items i.slices.items i.slice_count i.read c.decode_slice-decoded.new.read i.macroblocks c.decode_slice-decoded.new.macroblocks
    c.args.slice.now c.in-Err.fault kept told.size told.within told.state)
