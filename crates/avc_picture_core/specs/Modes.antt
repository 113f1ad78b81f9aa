-- The modes of blocks, as a type holds them.
use Rattle.std.specs.Coded.{Unit-prop, le_prop}
use Rattle.avc_neigh.specs.Modes.{IsMode}
use Rattle.avc_neigh.specs.declared.neighbour_info.NearMode.{NearMode}
use Rattle.avc_neigh.specs.declared.neighbour_info.NearMode.TheVariants.{Absent, Inter, Mode}

-- that a block's mode is one (Table 8-2) holds in one way at most
pub IsMode-prop : (m : NearMode) → IsProp (IsMode m)
IsMode-prop Absent = Unit-prop
IsMode-prop Inter = Unit-prop
IsMode-prop (Mode m) = le_prop
