use Rattle.avc_tools.proofs.Taking.{◌≡◌, ◌+◌, length, drop, not, take_while}
use Rattle.avc_tools.proofs.piece.count_before_start.Given as goal

abbrev pub invariant-loop-place : goal.invariant-loop-place
invariant-loop-place l = record { counted : length (take_while not l.starts) ≡ l.place + length (take_while not (drop l.place l.starts)) }
