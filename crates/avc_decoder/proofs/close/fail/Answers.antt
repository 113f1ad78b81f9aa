use Rattle.std.proofs.Common.{[], ◌∷◌, ap, append_assoc, ◌∙◌}
use Rattle.avc_decoder.specs.Events.{pictures}
use Rattle.avc_decoder.specs.QueueState.{with_events}
use Rattle.avc_decoder.specs.declared.event.Event.TheVariants.{Refused}
use Rattle.avc_decoder_core.specs.Pictures.{held_pictures}
use Rattle.avc_decoder_core.specs.SequenceState.{current_history}
use Rattle.avc_decoder.proofs.close.fail.Goals as goal

-- what was held, and then the refusal
pub returns-clause-state : goal.returns-clause-state
returns-clause-state c =
    let t = c.args.stream.now in
    let emptied = c.in_ok-empty.ensures.state in
    let refusal = Refused c.args.unit c.args.fault ∷ [] in (
      record {
        sequence = emptied.0.sequence;
        phase = emptied.0.phase;
        queue =
            c.in_ok-refuse.ensures ∙ ap (with_events refusal) emptied.0.queue
            ∙ ap (λ es. record t.queue { events = es }) (append_assoc t.queue.events (pictures (held_pictures t.sequence.output (current_history t.sequence))) refusal);
      },
      emptied.1,
      emptied.2,
    )
