use Rattle.avc_bits.proofs.Reading.{u_free, ue_free, se_free, te_free}
use Rattle.avc_bits.proofs.laws.no_codeword_begins_another.Goals as goal

pub returns : goal.returns
returns c = record { u = u_free; ue = ue_free; se = se_free; te = te_free }
