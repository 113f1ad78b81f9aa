use Rattle.avc_decoder.proofs.Events.{◌++◌, ◌≤◌, ◌-◌, false, length, take, HaveDecoded}
use Rattle.avc_decoder.proofs.parts.Parts.feed.Given as goal

-- the bytes before this place were decoded
abbrev pub invariant-loop-place : goal.invariant-loop-place
invariant-loop-place g l = record {
  now : HaveDecoded g.row.MAX l.initial.self (l.initial.self.splitter.bytes ++ take l.place l.piece) false l.self;
  within : l.place ≤ length l.piece;
}

abbrev pub decreases-loop-place : goal.decreases-loop-place
decreases-loop-place g l = length l.piece - l.place
