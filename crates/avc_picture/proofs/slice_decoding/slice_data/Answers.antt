use Rattle.avc_picture.proofs.Slices.{ap, sym, ◌∙◌, arith, start_of, at}
use Rattle.avc_mbsyntax.specs.SliceData as mbs
use Rattle.avc_picture.proofs.slice_decoding.slice_data.Goals as goal

pub returns : goal.returns
returns c = λ frames number before long.
    let h = c.args.slice.now.header in
    let s = start_of (record { sps = c.args.sps.now; pps = c.args.pps.now; frames = frames }) h number in
    let made = c.new.ensures s before (sym c.is_p.ensures) (omega (arith, c.requires.header.active)) (sym c.slice_quantiser.ensures) (omega (arith, long, c.requires.within, c.size_in_mbs.ensures)) in
    (made.0, made.1 ∙ ap (mbs.slice_data s before) (c.at.ensures.bits ∙ ap (λ bytes. at bytes h.position) c.as_slice.ensures))
