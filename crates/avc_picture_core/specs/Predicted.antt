-- The samples of an inter macroblock, by what the code holds of it.
use Rattle.std.specs.Prelude.{ℕ, ◌+◌, ◌*◌}
use Rattle.avc_plane.specs.Planes.{Planes}
use Rattle.avc_picture_core.specs.Built.{size_of}
use Rattle.avc_picture_core.specs.Inter.{predicted_from, wanted, with_part}
use Rattle.avc_picture_core.specs.declared.inter_sources.InterSources.{InterSources}
use Rattle.avc_picture_core.specs.declared.inter_sources.MovedPicture.{MovedPicture}

-- the planes with a rectangle of a macroblock, so many luma samples from its left and its upper
-- side and so wide and high, predicted from one picture by one vector (8.4.2)
abbrev pub with_moved : {PAD : ℕ} → MovedPicture PAD → (left top width height : ℕ) → Planes →
    Planes
with_moved p left top width height s =
    with_part p.place.column p.place.row left top width height
    (λ k x y. predicted_from p.picture.now p.mv k (size_of k * p.place.column + x)
    (size_of k * p.place.row + y)) s

-- the same, predicted from the pictures that its blocks name
abbrev pub with_predicted : {PAD : ℕ} → InterSources PAD → (left top width height : ℕ) → Planes →
    Planes
with_predicted p left top width height s =
    with_part p.place.column p.place.row left top width height
    (wanted p.references.now p.place.column p.place.row p.motion.now) s
