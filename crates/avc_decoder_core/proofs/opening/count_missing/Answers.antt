use Rattle.avc_decoder_core.proofs.Sequences.{◌∷◌, ◌∙◌, ap, sym, order_count_state, with_all_missing, missing_frame, pasts, counted_at_once}
use Rattle.avc_decoder_core.proofs.Sequences.{no_number, next_number}
use Rattle.avc_decoder_core.proofs.opening.count_missing.Goals as goal

pub returns-then-first-max_frame_num : goal.returns-then-first-max_frame_num
returns-then-first-max_frame_num c history e =
    counted_at_once c.args.sps.now c.args.numbers c.max_frame_num-max_frame_num.result c.in-Some.first c.len.result c.missing_from.new.self history
    c.max_frame_num-max_frame_num.ensures c.len.ensures c.in-Some.ensures.numbers (c.missing_from.ensures (pasts history) e)

pub loop-frame_num-preserved : goal.loop-frame_num-preserved
loop-frame_num-preserved c history e =
    let sps = c.args.sps.now in
    let reached = c.loop-frame_num.invariant history e in
    let entry = missing_frame sps c.in-Some-next.frame_num in (
      entry ∷ reached.0,
      c.missing.ensures (pasts reached.0) reached.1,
      ap (λ l. with_all_missing sps l (entry ∷ reached.0)) c.next.ensures.rest
          ∙ ap (λ l. with_all_missing sps l reached.0) (sym (next_number c.loop-frame_num.numbers _ (sym c.in-Some-next.ensures.first))) ∙ reached.2,
    )

pub returns : goal.returns
returns c history e =
    let reached = c.loop-frame_num.invariant history e in
    reached.1
    ∙ ap (λ h. order_count_state (pasts h))
    (ap (λ l. with_all_missing c.args.sps.now l reached.0) (sym (no_number c.loop-frame_num.numbers (sym c.in_default-next.ensures.first))) ∙ reached.2)
