use Rattle.avc_decoder.proofs.Events.{refl, ◌∙◌, answered_faulty, answered_well}
use Rattle.std.proofs.Common.{inr}
use Rattle.avc_decoder.proofs.SpareMemory.{leaves_answered}
use Rattle.avc_decoder.proofs.slices.decode_slice.Goals as goal

pub returns-in-Ok-clause-state : goal.returns-in-Ok-clause-state
returns-in-Ok-clause-state c =
    let t = c.args.stream.now in
    let a = c.answer_if_open-answered in (
      answered_well t.sequence t.queue c.args.slice.now a.result t.phase a.new.phase t.read c.count_more-stream.result
          c.requires.can a.ensures c.in-Ok.is c.count_more-stream.ensures,
      refl,
    )

pub returns-in_ok-fail-in-Err-clause-state : goal.returns-in_ok-fail-in-Err-clause-state
returns-in_ok-fail-in-Err-clause-state c =
    let t = c.args.stream.now in
    let t' = c.fail.new.stream in
    let a = c.answer_if_open-answered in
    let w = c.in_ok-fail-in-Err.ensures.state in (
      answered_faulty t.sequence t'.sequence t.queue t'.queue c.args.slice.now a.result t.phase a.new.phase t'.phase
          t.read t'.read c.in-Err.fault c.requires.can c.requires.well a.ensures c.in-Err.is w.0
          (w.1 ∙ c.count_more-stream.ensures),
      w.2,
    )

pub returns-in_ok-fail-in-Err-clause-memory : goal.returns-in_ok-fail-in-Err-clause-memory
returns-in_ok-fail-in-Err-clause-memory c =
    let a = c.answer_if_open-answered in
    inr (leaves_answered c.args.stream.now.phase a.new.phase c.args.slice.now a.result c.args.stream.now.memory
    c.fail.new.stream.memory a.ensures c.in_ok-fail-in-Err.ensures.memory)
