use Rattle.avc_console.proofs.Texts.{more_told}
use Rattle.avc_console.proofs.telling.tell_more.Goals as goal

pub returns-then-is_told : goal.returns-then-is_told
returns-then-is_told g c = more_told c.args.is_told _ _ c.args.text.now c.write_what_is_taken.result c.if-is_told.true c.write_what_is_taken.ensures
