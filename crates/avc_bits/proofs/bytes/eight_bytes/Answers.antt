use Rattle.avc_bits.proofs.Reading.{arith, ◌∙◌, eight_from}
use Rattle.avc_bits.proofs.bytes.eight_bytes.Goals as goal

pub returns : goal.returns
returns c = c.from_be_bytes.ensures ∙ eight_from c.args.bytes.now c.args.first c.requires (λ k. omega (arith, c.type_inv.bytes k))
