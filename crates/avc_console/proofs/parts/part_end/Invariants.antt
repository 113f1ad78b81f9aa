use Rattle.std.specs.Prelude.{◌≡◌, ℕ, ◌<◌, ◌≤◌, ◌-◌, length, false}
use Rattle.avc_console.specs.Parts.{may_end_start_code}
use Rattle.avc_console.proofs.parts.part_end.Given as goal

-- none of the bytes from where the part begins to this place ends a start code
abbrev pub invariant-loop-len : goal.invariant-loop-len
invariant-loop-len l = record {
  low : l.begin ≤ l.place;
  within : l.place ≤ length l.piece;
  none : (k : ℕ) → l.begin ≤ k → k < l.place → may_end_start_code l.piece k ≡ false;
}

abbrev pub decreases-loop-len : goal.decreases-loop-len
decreases-loop-len l = length l.piece - l.place
