use Rattle.std.proofs.Common.{[], drop}
use Rattle.avc_shell.specs.FromPieces.{GivesOn, ReadsOn}
use Rattle.avc_shell.proofs.from_piece.FromPieceRead.read.Given as goal

abbrev pub invariant-reads : goal.invariant-reads
invariant-reads g l = record {
  given : GivesOn (l.initial).self.tail (l.self).tail (drop (l.initial).self.given (l.initial).self.ready.items) (drop (l.self).given (l.self).ready.items) [];
  read : ReadsOn (g.R.Read.remaining (l.initial).self.reader.now) (g.R.Read.remaining (l.self).reader.now) (l.initial).self.tail.stream (l.self).tail.stream;
}
