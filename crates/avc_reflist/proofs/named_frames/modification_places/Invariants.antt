use Rattle.avc_reflist.proofs.ReferenceLists.{◌≡◌, ℕ, ◌<◌, ◌≤◌, ◌++◌, List, length, map, take, drop, All, StandAt, references_at, reference_at}
use Rattle.avc_reflist.proofs.ReferenceLists.{result_map, modification_frames}
use Rattle.avc_reflist.proofs.named_frames.modification_places.Given as goal

abbrev pub invariant-loop-modification : goal.invariant-loop-modification
invariant-loop-modification l = record {
  few : length l.list.items ≤ l.count;
  within : All (λ place. place < length l.frames) l.list.items;
  frames : (indices : List ℕ) → StandAt indices l.frames →
      result_map (take l.count) (modification_frames l.current l.current.frame_num l.modifications (references_at indices l.frames))
      ≡ result_map (λ rest. take l.count (map (reference_at indices l.frames) l.list.items ++ rest))
      (modification_frames l.current l.number (drop l.modification-index l.modifications) (references_at indices l.frames));
}
