use Rattle.avc_samples.proofs.Places.{◌≡◌, ℕ, ◌+◌, ◌*◌, ◌<◌, slice_index, pos, ◌+ℤ◌, sample, clamped}
use Rattle.avc_samples.proofs.patch.fetch_held.Given as goal

abbrev pub invariant-loop-j : goal.invariant-loop-j
invariant-loop-j g l = (i j : ℕ) → i < l.columns → j < l.j →
    slice_index l.patch (j * l.columns + i) ≡ clamped l.plane.width l.plane.height (sample l.plane) (l.fn.left +ℤ pos i) (l.fn.top +ℤ pos j)
