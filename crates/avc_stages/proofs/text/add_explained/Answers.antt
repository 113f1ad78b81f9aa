use Rattle.std.proofs.Common.{true, false, ap, ◌++◌, ◌∙◌, string_bytes}
use Rattle.avc_stages.specs.Stages.{stage_of}
use Rattle.avc_stages.specs.Text.{counts_line, lines_along, motion_lines, stage_line}
use Rattle.avc_stages.proofs.Joining.{explained_joined}
use Rattle.avc_stages.proofs.text.add_explained.Goals as goal

pub returns : goal.returns
returns c =
    let e = c.args.explained.now in
    explained_joined _ _ _ _ _ _ (counts_line e.address e.counts) (stage_line e.motion (stage_of e.counts)) (motion_lines e.motion) (lines_along true e.edges.vertical) (lines_along false e.edges.horizontal)
    c.in_ok-add_counts.ensures (c.in_ok-add_stage.ensures ∙ ap (λ s. string_bytes c.add_counts.new.text ++ stage_line e.motion s) c.stage_of.ensures) c.in_ok-add_motion.ensures c.in_ok-add_edges.ensures c.in_ok-add_edges-2.ensures
