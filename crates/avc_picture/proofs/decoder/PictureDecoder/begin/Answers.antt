use Rattle.avc_picture.proofs.Slices.{◌≡◌, ◌++◌, ap, ◌∙◌, kept-first}
use Rattle.avc_picture.proofs.decoder.PictureDecoder.begin.Goals as goal

pub invariant_of-result : goal.invariant_of-result
invariant_of-result g c =
    let fs = c.args.frames.now in
    let frames : c.with_all.result.items ≡ fs = c.with_all.ensures ∙ ap (λ xs. xs ++ fs) c.new-3.ensures in
    let made = c.in_ok-macroblocks.ensures in
    rw (c.copied.ensures, frames, c.new-2.ensures)
    (kept-first c.args.sps.now c.args.pps.now fs c.in_ok-macroblocks.macroblocks c.requires.sps c.requires.pps c.requires.frames made.holds made.next made.width made.height)
