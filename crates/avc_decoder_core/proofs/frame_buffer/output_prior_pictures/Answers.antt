use Rattle.avc_decoder_core.proofs.Sequences.{◌∙◌, sym, has_operation_5, all_output}
use Rattle.avc_decoder_core.proofs.frame_buffer.output_prior_pictures.Goals as goal

pub returns-clause-ok : goal.returns-clause-ok
returns-clause-ok c =
    all_output (has_operation_5 c.args.header.now) c.args.dpb.now c.empty.new.self c.in_ok-out.out.items
    (sym c.has_operation_5.ensures ∙ c.if-not-has_operation_5.false) c.in_ok-out.ensures.ok
