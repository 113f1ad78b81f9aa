use Rattle.std.proofs.Common.{arith}
use Rattle.avc_shell.proofs.FromPieces.{gives_after, gives_copied, gives_nothing, reads_nothing, reads_then}
use Rattle.avc_shell.proofs.from_piece.FromPieceRead.read.Goals as goal

pub returns-then-self-len-clause-given : goal.returns-then-self-len-clause-given
returns-then-self-len-clause-given g c =
    gives_copied _ _ _ _ _ _ _ _ _ c.reads.invariant.given c.deref.ensures.value c.copied-len.ensures.count c.copied-len.ensures.bytes

pub reads-init : goal.reads-init
reads-init g c = record { given = gives_nothing _ _; read = reads_nothing _ _ }

pub reads-preserved : goal.reads-preserved
reads-preserved g c = record {
  given = gives_after _ _ _ _ (c.reads.self).ready.items _ (c.reads.self).given c.reads.invariant.given (omega (arith, c.len.ensures)) c.in_ok-read_on.ensures.given;
  read = reads_then _ _ _ _ _ _ c.reads.invariant.read c.in_ok-read_on.ensures.open_end c.in_ok-read_on.ensures.read;
}
