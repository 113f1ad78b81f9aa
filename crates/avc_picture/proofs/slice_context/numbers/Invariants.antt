use Rattle.avc_picture.proofs.Slices.{◌≡◌, ℕ, ◌<◌, length, None, slice_index_or, unwrap_or}
use Rattle.avc_picture.proofs.slice_context.numbers.Given as goal

abbrev pub invariant-loop-r : goal.invariant-loop-r
invariant-loop-r l = record {
  long : length l.numbers ≡ 16;
  done : (k : ℕ) → k < l.r → slice_index_or l.numbers k 0 ≡ unwrap_or (slice_index_or l.places k None) 0;
}
