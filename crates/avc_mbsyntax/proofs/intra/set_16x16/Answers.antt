use Rattle.avc_mbsyntax.proofs.SliceDataReading.{ap, sym, levels_in_16x16, I16x16}
use Rattle.avc_mbsyntax.proofs.intra.set_16x16.Goals as goal

pub returns-in-I16x16 : goal.returns-in-I16x16
returns-in-I16x16 c = ap (λ s. I16x16 c.args.mode c.args.chroma_mode c.args.luma_dc (levels_in_16x16 s)) (sym c.in-I16x16.is)
