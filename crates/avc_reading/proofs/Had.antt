-- The motion that a macroblock has, or none, by what its reading answered.
use Rattle.std.proofs.Common.{◌≡◌, Bool, true, false, List, Result, Ok, Err, refl, if◌then◌else◌}
use Rattle.std.specs.List.{list_all}
use Rattle.avc_types.specs.declared.fault.Fault.{Fault}
use Rattle.avc_types.specs.declared.fault.Fault.TheVariants.{VectorRange}
use Rattle.avc_neigh.specs.declared.neighbour_info.Motion.{Motion}
use Rattle.avc_motion.specs.Motion.{is_in_range, motion_or_fault, no_motion}
use Rattle.avc_reading.specs.Derived.{had}

pub motion_is_had : (motion blocks : List Motion) → ◌≡◌ {A = Result (List Motion) Fault} (Ok blocks) (motion_or_fault motion) → blocks ≡ had motion
motion_is_had motion blocks is = by (list_all is_in_range motion) is
  where
    by : (within : Bool) → ◌≡◌ {A = Result (List Motion) Fault} (Ok blocks) (if within then Ok motion else Err VectorRange) → blocks ≡ (if within then motion else no_motion)
    by true e = cc
    by false e = cc

pub none_is_had : (motion : List Motion) (fault : Fault) → ◌≡◌ {A = Result (List Motion) Fault} (Err fault) (motion_or_fault motion) → no_motion ≡ had motion
none_is_had motion fault is = by (list_all is_in_range motion) is
  where
    by : (within : Bool) → ◌≡◌ {A = Result (List Motion) Fault} (Err fault) (if within then Ok motion else Err VectorRange) → no_motion ≡ (if within then motion else no_motion)
    by true e = cc
    by false e = refl
