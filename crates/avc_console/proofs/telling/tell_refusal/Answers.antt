use Rattle.avc_console.proofs.Texts.{◌∙◌, explained_told, refusal_told}
use Rattle.avc_console.proofs.telling.tell_refusal.Goals as goal

pub returns-then-is_explained : goal.returns-then-is_explained
returns-then-is_explained g c =
    explained_told c.args.is_explained c.args.is_told c.tell_more-told.result c.tell_more.result (c.args.unit, c.args.fault) _ _ _ _ _ c.if-is_explained.true
    (c.as_bytes.ensures.value ∙ c.as_str.ensures.value ∙ c.refusal_line.ensures)
    (c.as_bytes-then-is_explained.ensures.value ∙ c.as_str-then-is_explained.ensures.value ∙ c.explained_line.ensures) c.tell_more-told.ensures c.tell_more.ensures

pub returns-else-is_explained : goal.returns-else-is_explained
returns-else-is_explained g c =
    refusal_told c.args.is_explained c.args.is_told c.tell_more-told.result (c.args.unit, c.args.fault) _ _ _ c.if-is_explained.false
    (c.as_bytes.ensures.value ∙ c.as_str.ensures.value ∙ c.refusal_line.ensures) c.tell_more-told.ensures
