-- The planes of a picture as the code keeps them.
use Rattle.std.specs.Prelude.{ℕ}
use Rattle.avc_plane.specs.Planes.{Planes}
use Rattle.avc_plane.specs.declared.frame.Planes.{Planes as StoredPlanes}
use Rattle.avc_plane.specs.declared.frame.PaddedPlanes.{PaddedPlanes}

-- the three planes as maps of samples
abbrev pub planes_of : {PAD : ℕ} → StoredPlanes PAD → Planes
planes_of p = record { luma = p.luma; cb = p.cb; cr = p.cr }

-- the same of planes that are closed; what lies around them is not seen
abbrev pub padded_planes_of : {PAD : ℕ} → PaddedPlanes PAD → Planes
padded_planes_of p = record { luma = p.luma; cb = p.cb; cr = p.cr }
