use Rattle.avc_motion.proofs.MacroblockMotion.{◌≡◌, ◌≤◌, ◌<◌, ◌*◌, ℕ, length, slice_index_or, absent, with_part}
use Rattle.avc_motion.proofs.parts.fill.Given as goal

abbrev pub invariant-loop-quarter : goal.invariant-loop-quarter
invariant-loop-quarter l = record {
  long : length l.mine ≡ 16;
  done : (k : ℕ) → k < 4 * l.quarter → slice_index_or l.mine k absent ≡ slice_index_or (with_part l.fn.mine l.part l.motion) k absent;
  left : (k : ℕ) → 4 * l.quarter ≤ k → slice_index_or l.mine k absent ≡ slice_index_or l.fn.mine k absent;
}
