use Rattle.std.proofs.Common.{refl, sym, ap, ◌∙◌, ◌++◌, string_bytes}
use Rattle.avc_stages.specs.Text.{stage_words}
use Rattle.avc_stages.specs.declared.stage.Stage.TheVariants.{BeforeDeblocking}
use Rattle.avc_stages.proofs.Joining.{joined_two}
use Rattle.avc_stages.proofs.text.add_stage_words.Goals as goal

pub returns-in_ok-push_str-in-BeforeDeblocking-2 : goal.returns-in_ok-push_str-in-BeforeDeblocking-2
returns-in_ok-push_str-in-BeforeDeblocking-2 c =
    joined_two (stage_words c.args.motion.now BeforeDeblocking) _ _ _ _ _ c.in_ok-push_str-in-BeforeDeblocking.ensures.bytes
    (c.in_ok-push_str-in-BeforeDeblocking-2.ensures.bytes ∙ ap (λ l. string_bytes c.push_str-in-BeforeDeblocking.new.self ++ l) c.stages_before.ensures) refl
    ∙ ap (λ s. string_bytes c.args.text.now ++ stage_words c.args.motion.now s) (sym c.in-BeforeDeblocking.is)

pub returns-in_ok-push_str-in-Deblocking : goal.returns-in_ok-push_str-in-Deblocking
returns-in_ok-push_str-in-Deblocking c =
    c.in_ok-push_str-in-Deblocking.ensures.bytes ∙ ap (λ s. string_bytes c.args.text.now ++ stage_words c.args.motion.now s) (sym c.in-Deblocking.is)
