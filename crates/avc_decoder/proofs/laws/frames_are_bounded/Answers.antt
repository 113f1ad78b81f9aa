use Rattle.avc_decoder.proofs.laws.frames_are_bounded.Goals as goal

pub returns : goal.returns
returns c = λ max m p count i. i.parts.few
