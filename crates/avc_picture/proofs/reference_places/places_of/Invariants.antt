use Rattle.avc_picture.proofs.Slices.{◌≡◌, ℕ, ◌<◌, length, None, slice_get, slice_index_or, unwrap_or}
use Rattle.avc_picture.proofs.reference_places.places_of.Given as goal

abbrev pub invariant-loop-r : goal.invariant-loop-r
invariant-loop-r l = record {
  long : length l.places ≡ 16;
  done : (k : ℕ) → k < l.r → slice_index_or l.places k None ≡ unwrap_or (slice_get l.list k) None;
}
