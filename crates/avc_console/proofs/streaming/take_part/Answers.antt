use Rattle.avc_console.proofs.Texts.{Memory, by_fault}
use Rattle.avc_console.proofs.Waiting.{no_memory_at_part}
use Rattle.avc_console.proofs.streaming.take_part.Goals as goal

pub returns-in_err-added-clause-err : goal.returns-in_err-added-clause-err
returns-in_err-added-clause-err g c =
    by_fault c.from_residual.result Memory _ c.from_residual.ensures.1
    (no_memory_at_part _ c.text_only_grows.ensures _ c.args.part.now _ _ c.requires.open_end c.requires.short)
