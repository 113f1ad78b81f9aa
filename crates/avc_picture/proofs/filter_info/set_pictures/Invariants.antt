use Rattle.avc_picture.proofs.Slices.{slice_index, slice_index_or, ◌≡◌, ◌<◌, ◌*◌, ℕ, length, number_of}
use Rattle.avc_neigh.specs.declared.neighbour_info.Motion.TheVariants.{Absent as absent}
use Rattle.avc_picture.proofs.filter_info.set_pictures.Given as goal

abbrev pub invariant-loop-q : goal.invariant-loop-q
invariant-loop-q l = record {
  long : length l.pictures ≡ 4;
  done : (q : ℕ) → q < l.q → slice_index l.pictures q ≡ number_of l.frame_numbers (slice_index_or l.motion (4 * q) absent);
}
