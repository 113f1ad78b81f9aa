use Rattle.std.proofs.Common.{refl, rules}
use Rattle.avc_decoder.proofs.slices.answer_in.Goals as goal

pub returns : goal.returns
returns c = record { answer = search rules; read = search rules; header = search rules; unit = refl }
