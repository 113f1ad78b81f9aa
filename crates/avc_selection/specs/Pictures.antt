-- The pictures of a stream, as their slices come one after another.
use Rattle.std.specs.Prelude.{ℕ, ◌+◌, if◌then◌else◌, List, [], Option, Some, None}
use Rattle.avc_types.specs.Pictures.{PicMb}
use Rattle.avc_params.specs.Limits.{size_in_mbs, width_in_mbs}
use Rattle.avc_params.specs.declared.sps.Sps.{Sps}
use Rattle.avc_slice.specs.Begins.{begins}
use Rattle.avc_slice.specs.declared.header.Header.{Header}
use Rattle.avc_selection.specs.declared.derived.Derived.{Derived}

-- A picture whose slices come (7.4.1.2.4).
pub record OpenPicture : Type 0 where
  -- its number among the stream's pictures, from 0
  pub number : ℕ
  -- the unit of its first slice
  pub unit : ℕ
  -- the header of its last slice
  pub last : Header
  -- in macroblocks, by the sequence parameter set of its first slice
  pub width : ℕ
  pub size : ℕ
  -- how many of its slices so far have macroblocks
  pub slices : ℕ
  -- its macroblocks so far, and what follows for them from their neighbours
  pub mbs : List PicMb
  pub known : List Derived

-- at its first slice, which has this header
abbrev pub new_picture : (number unit : ℕ) → Sps → Header → OpenPicture
new_picture number unit sps h = record {
  number = number;
  unit = unit;
  last = h;
  width = width_in_mbs sps;
  size = size_in_mbs sps;
  slices = 0;
  mbs = [];
  known = [];
}

-- the picture of a slice of this unit with this header: a new one where it begins one (7.4.1.2.4)
abbrev pub picture_of : Option OpenPicture → (unit : ℕ) → Sps → Header → OpenPicture
picture_of None unit sps h = new_picture 0 unit sps h
picture_of (Some p) unit sps h =
    if begins p.last h then new_picture (p.number + 1) unit sps h else record p { last = h }
