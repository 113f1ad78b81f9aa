use Rattle.std.proofs.Common.{◌∷◌, []}
use Rattle.std.proofs.KnownBytes.{Appends-trans}
use Rattle.std.specs.Duration.{as_nanos}
use Rattle.avc_progress.specs.Progress.{line_at}
use Rattle.avc_progress.proofs.progress_state.ProgressState.tell_last.Goals as goal

pub returns-clause-line : goal.returns-clause-line
returns-clause-line g c =
    Appends-trans _ _ _ (line_at c.args.self.now (as_nanos c.args.elapsed)) (10 ∷ []) c.in_ok-tell.ensures.line c.in_ok-write_text.ensures.ok
