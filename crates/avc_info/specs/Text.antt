-- The text that tells people of a stream.
use Rattle.std.specs.Prelude.{ℕ, ◌*◌, ◌/◌, ◌%◌, Bool, ◌==◌, ◌&&◌, ◌||◌, if◌then◌else◌, nat_lt, List}
use Rattle.std.specs.Prelude.{[], ◌∷◌, ◌++◌, length, Option, Some, None, codes}
use Rattle.std.specs.Fmt.{decimal}
use Rattle.std.specs.List.{flat_map}
use Rattle.avc_types.specs.Faults.{number_of, name_of}
use Rattle.avc_sequence.specs.Rates.{frame_rate}
use Rattle.avc_sequence.specs.declared.sequence_facts.SequenceFacts.{SequenceFacts}
use Rattle.avc_sequence.specs.declared.sequence_facts.Size.{Size}
use Rattle.avc_info.specs.declared.slice_counts.SliceCounts.{SliceCounts}
use Rattle.avc_info.specs.Refusals.{kinds_of}
use Rattle.avc_info.specs.declared.refusals.Refusal.{Refusal}
use Rattle.avc_info.specs.declared.refusals.RefusalKind.{RefusalKind}
use Rattle.avc_info.specs.declared.stream_facts.SetHead.{SetHead}
use Rattle.avc_info.specs.declared.stream_facts.StreamFacts.{StreamFacts}

-- the end of a line
abbrev pub newline : List ℕ
newline = 10 ∷ []

-- the profile's name (A.2)
abbrev pub profile_name : SequenceFacts → List ℕ
profile_name s =
    if s.profile_idc == 66
    then (if s.constraint_set1_flag then codes "Constrained Baseline" else codes "Baseline")
    else (if s.profile_idc == 77 then codes "Main" else codes "Extended")

-- the level is 1b (7.4.2.1.1)
abbrev pub is_level_1b : SequenceFacts → Bool
is_level_1b s = s.level_idc == 9 || (s.level_idc == 11 && s.constraint_set3_flag)

-- the level's number (A.3.1)
abbrev pub level_name : SequenceFacts → List ℕ
level_name s =
    if is_level_1b s then codes "1b"
    else decimal (s.level_idc / 10) ++ codes "." ++ decimal (s.level_idc % 10)

-- the level
abbrev pub level_text : SequenceFacts → List ℕ
level_text s = codes ", level " ++ level_name s

-- three digits behind the point
abbrev pub behind_point : ℕ → List ℕ
behind_point n =
    codes "." ++ (decimal (n / 100 % 10) ++ (decimal (n / 10 % 10) ++ decimal (n % 10)))

-- so many thousandths
abbrev pub thousandths : ℕ → List ℕ
thousandths n = decimal (n / 1000) ++ behind_point n

-- a number by its name, where it is given
abbrev pub if_given : (name : List ℕ) → Option ℕ → List ℕ
if_given name None = name ++ codes " not given"
if_given name (Some n) = name ++ codes " " ++ decimal n

-- by its thousandths
abbrev pub thousandths_if_given : (name : List ℕ) → Option ℕ → List ℕ
thousandths_if_given name None = name ++ codes " not given"
thousandths_if_given name (Some n) = name ++ codes " " ++ thousandths n

-- frames in a second
abbrev pub clock_text : SequenceFacts → List ℕ
clock_text s = thousandths_if_given (codes ", frame rate") (frame_rate s.timing)

-- the size after cropping
abbrev pub size_text : SequenceFacts → List ℕ
size_text s = codes "size " ++ decimal s.width ++ codes "x" ++ decimal s.height

-- the profile
abbrev pub profile_text : SequenceFacts → List ℕ
profile_text s = codes ", profile " ++ profile_name s

-- the first line
abbrev pub shape_line : SequenceFacts → List ℕ
shape_line s = size_text s ++ profile_text s ++ level_text s ++ clock_text s ++ newline

-- how many reference frames there may be
abbrev pub references_text : SequenceFacts → List ℕ
references_text s = codes "reference frames " ++ decimal s.max_num_ref_frames

-- the second line
abbrev pub frames_line : SequenceFacts → List ℕ
frames_line s =
    references_text s ++ if_given (codes ", reorder number") s.max_num_reorder_frames ++ newline

-- of a stream with a picture
abbrev pub sequence_text : Option SequenceFacts → List ℕ
sequence_text None = []
sequence_text (Some s) = shape_line s ++ frames_line s

-- the pictures
abbrev pub counts_line : SliceCounts → List ℕ
counts_line c =
    codes "pictures " ++ decimal c.pictures ++ codes ", sequences " ++ decimal c.sequences
    ++ codes ", slices a picture " ++ decimal c.most_slices ++ newline

-- how many units are refused
abbrev pub refused_text : ℕ → List ℕ
refused_text n = codes "refused " ++ decimal n

-- the first of them
abbrev pub refusal_text : Option Refusal → List ℕ
refusal_text None = []
refusal_text (Some r) =
    codes ", the first unit " ++ decimal r.unit ++ codes ": " ++ decimal (number_of r.fault)
    ++ codes " " ++ name_of r.fault

-- whether any is refused
abbrev pub refused_line : StreamFacts → List ℕ
refused_line f = refused_text f.refused ++ refusal_text f.first_refusal ++ newline

-- a kind of refusals: its fault, how many units, and the first of them
abbrev pub kind_line : RefusalKind → List ℕ
kind_line k =
    codes "refused as " ++ decimal (number_of k.fault) ++ codes " " ++ name_of k.fault ++ codes ": "
    ++ decimal k.count ++ codes ", the first unit " ++ decimal k.first_unit ++ newline

-- a line for each kind, where there are more than one: of one alone the line before says it all
abbrev pub kind_lines : List RefusalKind → List ℕ
kind_lines kinds = if nat_lt (length kinds) 2 then [] else flat_map kind_line kinds

-- profile_idc and level_idc of a sequence parameter set that is refused
abbrev pub set_head_text : SetHead → List ℕ
set_head_text h =
    codes "refused sequence: profile_idc " ++ decimal h.profile_idc
    ++ codes ", level_idc " ++ decimal h.level_idc

-- its size before cropping, where it can be read
abbrev pub set_size_text : Option Size → List ℕ
set_size_text None = codes ", size not given"
set_size_text (Some s) = codes ", " ++ decimal s.width ++ codes "x" ++ decimal s.height

-- all of it
abbrev pub set_head_line : SetHead → List ℕ
set_head_line h = set_head_text h ++ set_size_text h.coded ++ newline

-- of the first one, where there is one
abbrev pub refused_set_line : Option SetHead → List ℕ
refused_set_line None = []
refused_set_line (Some h) = set_head_line h

-- what is said of the pictures: by the set of the first slice, or without a slice that is read by
-- the first set
abbrev pub sequence_of : StreamFacts → Option SequenceFacts
sequence_of f = elim f.sequence [ Some s ↦ Some s | None ↦ f.first_set ]

-- the lines that say what a stream is
abbrev pub stream_text : StreamFacts → List ℕ
stream_text f =
    sequence_text (sequence_of f) ++ counts_line f.counts ++ refused_line f
    ++ kind_lines (kinds_of f.refusals) ++ refused_set_line f.refused_set
