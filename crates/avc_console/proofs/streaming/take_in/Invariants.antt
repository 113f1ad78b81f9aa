use Rattle.std.specs.Prelude.{◌≡◌, ◌≤◌, ◌-◌, [], length, take}
use Rattle.avc_tools.specs.Streams.{after_piece}
use Rattle.avc_console.specs.StreamWriting.{IsTakenIn}
use Rattle.avc_console.proofs.streaming.take_in.Given as goal

abbrev pub invariant-parts : goal.invariant-parts
invariant-parts g l = record {
  within : l.begin ≤ length l.piece;
  same : g.T.StreamText.number l.text ≡ g.T.StreamText.number l.initial.text;
  so_far : g.T.StreamText.so_far l.text ≡ after_piece (g.T.StreamText.so_far l.initial.text) (take l.begin l.piece);
  taken : IsTakenIn (g.T.StreamText.text (g.T.StreamText.number l.initial.text)) (g.T.StreamText.so_far l.initial.text) (g.T.StreamText.so_far l.text) [] l.waiting.items (g.W.Write.contents l.initial.writer) (g.W.Write.contents l.writer);
}

abbrev pub decreases-parts : goal.decreases-parts
decreases-parts g l = length l.piece - l.begin
