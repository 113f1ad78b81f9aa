use Rattle.avc_marking.proofs.KeptFrames.{◌≡◌, ℕ, ◌<◌, ◌≤◌, List, length, drop, IfSome, option_map, StandAt, references_at, reference_at, first_in_window}
use Rattle.avc_marking.proofs.window.first_in_window.Given as goal

abbrev pub invariant-loop-place : goal.invariant-loop-place
invariant-loop-place l = record {
  later : IfSome l.first (λ other. l.place ≤ other);
  within : IfSome l.first (λ other. other < length l.frames);
  first : (indices : List ℕ) → StandAt indices l.frames →
      first_in_window l.new.current (references_at (drop l.place indices) (drop l.place l.frames)) ≡ option_map (reference_at indices l.frames) l.first;
}
