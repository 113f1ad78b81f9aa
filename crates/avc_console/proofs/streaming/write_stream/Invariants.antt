use Rattle.avc_console.proofs.Texts.{◌≡◌, [], length, IsWriting}
use Rattle.avc_console.proofs.streaming.write_stream.Given as goal

abbrev pub invariant-pieces : goal.invariant-pieces
invariant-pieces g l = record {
  room : length (l.piece).items ≡ 65536;
  none : (l.waiting).items ≡ [];
  same : g.T.StreamText.number l.text ≡ g.T.StreamText.number l.initial.text;
  writes : IsWriting (g.T.StreamText.text (g.T.StreamText.number l.initial.text)) l.reads (g.T.StreamText.so_far l.text) (g.R.Read.remaining l.initial.reader) (g.R.Read.remaining l.reader) (g.W.Write.contents l.initial.writer) (g.W.Write.contents l.writer);
}
