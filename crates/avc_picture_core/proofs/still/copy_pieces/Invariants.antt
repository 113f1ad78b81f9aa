use Rattle.std.specs.Prelude.{◌*◌}
use Rattle.avc_picture_core.specs.Still.{IsPieceOf}
use Rattle.avc_picture_core.proofs.still.copy_pieces.Given as goal

abbrev pub invariant-loop-piece : goal.invariant-loop-piece
invariant-loop-piece l = IsPieceOf l.from l.start (l.piece * 256) l.fn.rows l.rows
