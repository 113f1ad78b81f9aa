use Rattle.avc_tools.proofs.Taking.{◌≡◌, ◌++◌, [], take, drop, HasSets, pieces_from}
use Rattle.avc_tools.proofs.cutting.pieces_of.Given as goal

abbrev pub invariant-loop-place : goal.invariant-loop-place
invariant-loop-place l = record {
  sets : HasSets (take l.place l.units) l.sets;
  pieces : l.all.items ++ pieces_from (take l.place l.units) (drop l.place l.units) ≡ pieces_from [] l.units;
}
