-- The line that says where a refused unit stands, and which value is refused.
use Rattle.std.specs.Prelude.{ℕ, ◌==◌, Bool, if◌then◌else◌, List, [], ◌∷◌, ◌++◌, Option, Some, None}
use Rattle.std.specs.Prelude.{codes}
use Rattle.std.specs.Fmt.{decimal}
use Rattle.avc_types.specs.declared.fault.Fault.{Fault}
use Rattle.avc_types.specs.declared.fault.Fault.TheVariants as faults
use Rattle.avc_shell.specs.declared.unit_place.UnitPlace.{UnitPlace}

-- the name of a profile, where it has one (A.2, F.5, G.5, H.5)
abbrev pub name_text : (profile_idc : ℕ) → List ℕ
name_text n =
    if n == 44 then codes " (CAVLC 4:4:4 Intra)"
    else if n == 66 then codes " (Baseline)"
    else if n == 77 then codes " (Main)"
    else if n == 83 then codes " (Scalable Baseline)"
    else if n == 86 then codes " (Scalable High)"
    else if n == 88 then codes " (Extended)"
    else if n == 100 then codes " (High)"
    else if n == 110 then codes " (High 10)"
    else if n == 118 then codes " (Multiview High)"
    else if n == 122 then codes " (High 4:2:2)"
    else if n == 128 then codes " (Stereo High)"
    else if n == 244 then codes " (High 4:4:4 Predictive)"
    else []

-- profile_idc with its name, and which are taken (A.2)
abbrev pub named_text : (profile_idc : ℕ) → (name : List ℕ) → List ℕ
named_text profile_idc name =
    codes ": profile_idc " ++ decimal profile_idc ++ name ++ codes "; 66, 77 and 88 are taken"

-- where it is known
abbrev pub profile_text : Option ℕ → List ℕ
profile_text None = []
profile_text (Some profile_idc) = named_text profile_idc (name_text profile_idc)

-- level_idc, where it is known
abbrev pub level_text : Option ℕ → List ℕ
level_text None = []
level_text (Some level_idc) = codes ": level_idc " ++ decimal level_idc

-- the value that is refused, where it is a profile or a level
abbrev pub value_text : Fault → UnitPlace → List ℕ
value_text faults.Profile place = profile_text place.profile_idc
value_text faults.Level place = level_text place.level_idc
value_text _ place = []

-- the place of a unit among the stream's units, and that of its first byte
abbrev pub start_text : (unit first_byte : ℕ) → List ℕ
start_text unit first_byte =
    decimal unit ++ codes " begins at byte " ++ decimal first_byte ++ codes ", "

-- a slice is in a coded picture, and what is none stands before one
abbrev pub side_text : (is_in_picture : Bool) → List ℕ
side_text is_in_picture = if is_in_picture then codes "in" else codes "before"

abbrev pub picture_text : (picture : ℕ) → List ℕ
picture_text picture = codes " coded picture " ++ decimal picture

-- of a unit that has this fault and stands here
abbrev pub place_line : Fault → UnitPlace → List ℕ
place_line fault place =
    codes "unit " ++ start_text place.unit place.first_byte ++ side_text place.is_in_picture
    ++ picture_text place.picture
    ++ value_text fault place ++ 10 ∷ []

-- nothing, where it is not known where it stands
abbrev pub place_text : Fault → Option UnitPlace → List ℕ
place_text fault None = []
place_text fault (Some place) = place_line fault place
