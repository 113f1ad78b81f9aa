use Rattle.std.proofs.Common.{◌≡◌, length}
use Rattle.avc_replay.specs.Replaying.{IsReplaying}
use Rattle.avc_replay.proofs.replay.decode_up_to.Given as goal

abbrev pub invariant-reads : goal.invariant-reads
invariant-reads g l = record {
  replaying : IsReplaying (g.R.Read.remaining l.fn.reader) (g.R.Read.remaining l.reader) l.has_ended l.splitter l.decoder;
  room : length l.piece.items ≡ 65536;
}
