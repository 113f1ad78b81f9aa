use Rattle.avc_decoder.proofs.Events.{few_in, goes_on}
use Rattle.avc_decoder.proofs.stream.frames_are_few.Goals as goal

pub returns : goal.returns
returns c =
    let t = c.args.stream.now in
    few_in t (rw c.frames.ensures.value at (c.frames.ensures.few (goes_on t.sequence t.phase c.requires.stands))) c.are_few.ensures
