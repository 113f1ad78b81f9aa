use Rattle.avc_reflist.proofs.ReferenceLists.{◌≡◌, ◌≤◌, ◌++◌, length, take, filter, is_not_in_list}
use Rattle.avc_reflist.proofs.modification.with_initial_list.Given as goal

abbrev pub invariant-loop-place : goal.invariant-loop-place
invariant-loop-place l = record {
  names : l.names ≡ length l.initial.list.items;
  few : length l.initial.list.items ≤ l.count;
  list : l.list.items ≡ take l.count (l.initial.list.items ++ filter (is_not_in_list l.initial.list.items) (take l.place-index l.others));
}
