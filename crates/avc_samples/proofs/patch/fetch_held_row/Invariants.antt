use Rattle.avc_samples.proofs.Places.{◌≡◌, ℕ, ◌+◌, ◌<◌, slice_index, pos, ◌+ℤ◌, ◌-ℤ◌, nat_abs, clip3, sample}
use Rattle.avc_samples.proofs.patch.fetch_held_row.Given as goal

abbrev pub invariant-loop-i : goal.invariant-loop-i
invariant-loop-i g l = record {
  before : (k : ℕ) → k < l.to → slice_index l.patch k ≡ slice_index l.fn.patch k;
  done : (i : ℕ) → i < l.i → slice_index l.patch (l.to + i) ≡ sample l.plane (nat_abs (clip3 (pos 0) (pos l.plane.width -ℤ pos 1) (l.fn.left +ℤ pos i))) l.row;
}
