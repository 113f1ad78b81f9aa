-- A picture whose planes and crop fit its size (6.2, 7.4.2.1.1).
use Rattle.std.specs.Prelude.{◌≡◌, ◌+◌, ◌*◌, ◌/◌, ◌≤◌, length}
use Rattle.avc_types.specs.declared.picture.Picture.{Picture}

-- The planes have as many samples as the size says, and the crop leaves a window inside the
-- picture.
pub record IsWhole (p : Picture) : Type 0 where
  pub luma : length p.luma ≡ p.width * p.height
  pub cb : length p.cb ≡ (p.width / 2) * (p.height / 2)
  pub cr : length p.cr ≡ (p.width / 2) * (p.height / 2)
  pub columns : (p.crop).left + (p.crop).right ≤ p.width
  pub rows : (p.crop).top + (p.crop).bottom ≤ p.height
