use Rattle.avc_picture.proofs.Slices.{◌≡◌, length, ArePicturesAt}
use Rattle.avc_picture.proofs.slice_context.pictures.Given as goal

abbrev pub invariant-loop-r : goal.invariant-loop-r
invariant-loop-r g l = record {
  long : length l.pictures ≡ 16;
  done : ArePicturesAt l.frames l.header l.r l.places l.pictures;
}
