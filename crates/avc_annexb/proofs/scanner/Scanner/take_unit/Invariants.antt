use Rattle.avc_annexb.proofs.Written.{◌≡◌, ◌++◌, ◌≤◌, ℕ, ◌-◌, List, length, take, HasScanned, HasOneMoreAtMost}
use Rattle.avc_annexb.proofs.scanner.Scanner.take_unit.Given as goal

-- the bytes before this place were taken in; with none no unit has ended
abbrev pub invariant-loop-place : goal.invariant-loop-place
invariant-loop-place g l = record {
  scans : (bytes : List ℕ) → HasScanned g.row.MAX l.initial.self bytes → HasScanned g.row.MAX l.self (bytes ++ take l.place l.piece);
  given : l.self.ready.given.items ≡ l.initial.self.ready.given.items;
  within : l.place ≤ length l.piece;
  few : HasOneMoreAtMost l.initial.self.ready l.self.ready;
  begun : l.place ≡ 0 → length l.self.ready.units.items ≡ length l.initial.self.ready.units.items;
  waiting : l.waiting ≡ length l.initial.self.ready.units.items;
}

abbrev pub decreases-loop-place : goal.decreases-loop-place
decreases-loop-place g l = length l.piece - l.place
