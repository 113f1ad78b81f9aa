use Rattle.avc_decoder.proofs.Events.{is_some, ap, arith, padded_planes_of, subsampled_of_size, closes_done, closes_short, closes_unmarked, sized_as}
use Rattle.std.proofs.Common.{inl, ◌∙◌}
use Rattle.avc_decoder.proofs.SpareMemory.{closed_with_fault, left_so}
use Rattle.avc_decoder.proofs.close.close_picture.Goals as goal

-- macroblocks are missing
pub returns-in-Err-clause-state : goal.returns-in-Err-clause-state
returns-in-Err-clause-state c =
    closes_short c.args.stream.now c.fail.new.stream c.args.current c.requires.picture
    c.in-Err.ensures.answer c.in_ok-fail-in-Err.ensures.state

pub new-requires : goal.new-requires
new-requires c = (omega arith, (omega arith, subsampled_of_size _ _ (padded_planes_of c.in-Ok.planes) c.in-Ok.ensures.sized))

pub close-requires : goal.close-requires
close-requires c = record {
  picture = λ going. ap is_some c.requires.picture.open_picture;
  sized = rw (← c.in_ok-shared.ensures) at (sized_as c.args.stream.now.sequence c.args.current
      (padded_planes_of c.in-Ok.planes) c.requires.picture c.in-Ok.ensures.sized);
}

pub returns-in_ok-show-in-Ok-close-clause-state : goal.returns-in_ok-show-in-Ok-close-clause-state
returns-in_ok-show-in-Ok-close-clause-state c =
    rw c.requires.rest
    (closes_done c.args.current c.in-Ok.planes c.in_ok-shared.shared c.in-Ok-close.out.items c.requires.picture c.in-Ok.ensures.answer
    c.in_ok-shared.ensures c.in-Ok-close.ensures.ok c.in_ok-show-in-Ok-close.ensures)

-- it could not be marked
pub returns-in_ok-fail-in-Err-Fault-clause-state : goal.returns-in_ok-fail-in-Err-Fault-clause-state
returns-in_ok-fail-in-Err-Fault-clause-state c =
    closes_unmarked c.args.stream.now c.fail-in-Err-Fault.new.stream c.close.new.self c.args.current c.in-Ok.planes
    c.in_ok-shared.shared c.requires.picture c.in-Ok.ensures.answer c.in_ok-shared.ensures c.in-Err-Fault.ensures.err
    c.in-Err-Fault.field-0-is c.in_ok-fail-in-Err-Fault.ensures.state

pub returns-in-Err-clause-memory : goal.returns-in-Err-clause-memory
returns-in-Err-clause-memory c =
    closed_with_fault c.args.current c.args.stream.now.phase c.args.stream.now.memory c.finish.new.memory c.fail.new.stream.memory
    c.requires.rest c.in-Err.ensures.memory c.in_ok-fail-in-Err.ensures.memory

pub returns-in_ok-show-in-Ok-close-clause-memory : goal.returns-in_ok-show-in-Ok-close-clause-memory
returns-in_ok-show-in-Ok-close-clause-memory c = inl c.in-Ok.ensures.memory

pub returns-in_ok-fail-in-Err-Fault-clause-memory : goal.returns-in_ok-fail-in-Err-Fault-clause-memory
returns-in_ok-fail-in-Err-Fault-clause-memory c =
    inl (left_so c.args.stream.now.phase c.finish.new.memory c.fail-in-Err-Fault.new.stream.memory c.requires.rest
    c.in_ok-fail-in-Err-Fault.ensures.memory ∙ c.in-Ok.ensures.memory)
