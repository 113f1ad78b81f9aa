use Rattle.avc_console.proofs.Texts.{Memory, by_fault, no_memory_at_end}
use Rattle.avc_console.proofs.streaming.finish.Goals as goal

pub returns-in_err-added-clause-err : goal.returns-in_err-added-clause-err
returns-in_err-added-clause-err g c =
    by_fault c.from_residual.result Memory _ c.from_residual.ensures.1
    (no_memory_at_end _ c.text_only_grows.ensures _ _ c.requires.open_end c.requires.short)
