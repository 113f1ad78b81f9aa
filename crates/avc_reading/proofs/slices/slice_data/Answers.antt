use Rattle.avc_reading.proofs.Read.{ap, sym, ◌∙◌, arith, start_of, at}
use Rattle.avc_mbsyntax.specs.SliceData as mbs
use Rattle.avc_reading.proofs.slices.slice_data.Goals as goal

pub returns : goal.returns
returns c = λ p long.
    let h = c.args.slice.now.header in
    let s = start_of p c.args.pps.now h in
    let made = c.new.ensures s p.mbs (sym c.is_p.ensures) (omega (arith, c.requires.active)) (sym c.slice_quantiser.ensures) long in
    (made.0, made.1 ∙ ap (mbs.slice_data s p.mbs) (c.at.ensures.bits ∙ ap (λ bytes. at bytes h.position) c.as_slice.ensures))
