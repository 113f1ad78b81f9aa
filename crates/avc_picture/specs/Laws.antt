-- A law of pictures: what their samples do not depend on.
use Rattle.std.specs.Prelude.{◌≡◌, ◌*◌, ◌<◌, length}
use Rattle.avc_types.specs.Pictures.{Coded}
use Rattle.avc_neigh.specs.Modes.{modes_before}
use Rattle.avc_motion.specs.Motion.{motion_before}
use Rattle.avc_plane.specs.Planes.{Planes}
use Rattle.avc_picture_core.specs.Built.{built, built_on}
use Rattle.avc_picture.specs.Sizes.{IsSized}

-- A full picture's samples before deblocking are the same, whatever planes of its size its
-- macroblocks are built on: each is built from samples of those before it.
abbrev pub PicturesComeFromTheirMacroblocks : Type 0
PicturesComeFromTheirMacroblocks =
    (c : Coded) (s : Planes) → 0 < c.width → length c.mbs ≡ c.width * c.height →
    IsSized c.width c.height s
    → built_on c (modes_before c (length c.mbs)) (motion_before c (length c.mbs)) 0 s c.mbs
    ≡ built c
