-- What is told of a stream to programs: one line of JSON (RFC 8259). The members of an object stand
-- in the order of their names.
use Rattle.std.specs.Prelude.{ℕ, Bool, List, ◌++◌, map, Option, Some, None, codes, option_and_then}
use Rattle.serde_json.specs.Data.{Data, array, boolean, member, no_members, null, number, object}
use Rattle.serde_json.specs.Data.{string, unsigned}
use Rattle.serde_json.specs.View.{items_of}
use Rattle.serde_json.specs.Written.{compact_text}
use Rattle.avc_types.specs.Faults.{number_of, name_of}
use Rattle.avc_presentation.specs.declared.ratio.Ratio.{Ratio}
use Rattle.avc_params.specs.declared.vui.Colour.{Colour}
use Rattle.avc_params.specs.declared.vui.Timing.{Timing}
use Rattle.avc_sequence.specs.Rates.{bit_rate, duration, rate_ratio}
use Rattle.avc_info.specs.Refusals.{kinds_of}
use Rattle.avc_info.specs.Text.{level_name, newline, profile_name, sequence_of}
use Rattle.avc_sequence.specs.declared.sequence_facts.Crop.{Crop}
use Rattle.avc_sequence.specs.declared.sequence_facts.SequenceFacts.{SequenceFacts}
use Rattle.avc_sequence.specs.declared.sequence_facts.Size.{Size}
use Rattle.avc_info.specs.declared.refusals.Refusal.{Refusal}
use Rattle.avc_info.specs.declared.refusals.RefusalKind.{RefusalKind}
use Rattle.avc_info.specs.declared.stream_facts.SetHead.{SetHead}
use Rattle.avc_info.specs.declared.stream_facts.StreamFacts.{StreamFacts}

-- a number
abbrev pub count : ℕ → Data
count n = number (unsigned n)

-- where it is given
abbrev pub count_if_given : Option ℕ → Data
count_if_given None = null
count_if_given (Some n) = count n

-- a ratio, where it is given
abbrev pub ratio_data : Option Ratio → Data
ratio_data None = null
ratio_data (Some r) =
    object (member (codes "denominator") (count r.denominator)
    (member (codes "numerator") (count r.numerator) no_members))

-- a flag, where it is given
abbrev pub flag_data : Option Bool → Data
flag_data None = null
flag_data (Some set) = boolean set

-- a width and a height
abbrev pub size_data : Size → Data
size_data s =
    object (member (codes "height") (count s.height)
    (member (codes "width") (count s.width) no_members))

-- where it is known
abbrev pub size_if_given : Option Size → Data
size_if_given None = null
size_if_given (Some s) = size_data s

-- what is cropped at each side
abbrev pub crop_data : Crop → Data
crop_data c =
    object (member (codes "bottom") (count c.bottom)
    (member (codes "left") (count c.left)
    (member (codes "right") (count c.right)
    (member (codes "top") (count c.top) no_members))))

-- the colour description, where it is given (E.2.1)
abbrev pub colour_data : Option Colour → Data
colour_data None = null
colour_data (Some c) =
    object (member (codes "colour_primaries") (count c.colour_primaries)
    (member (codes "matrix_coefficients") (count c.matrix_coefficients)
    (member (codes "transfer_characteristics") (count c.transfer_characteristics) no_members)))

-- of a sequence parameter set
abbrev pub sequence_data : SequenceFacts → Data
sequence_data s =
    object (member (codes "chroma_sample_loc_type_top_field") (count_if_given s.chroma_place)
    (member (codes "coded_size") (size_data s.coded)
    (member (codes "colour") (colour_data s.colour)
    (member (codes "crop") (crop_data s.crop)
    (member (codes "frame_rate") (ratio_data (rate_ratio s.timing))
    (member (codes "height") (count s.height)
    (member (codes "level") (string (level_name s))
    (member (codes "max_num_ref_frames") (count s.max_num_ref_frames)
    (member (codes "max_num_reorder_frames") (count_if_given s.max_num_reorder_frames)
    (member (codes "profile") (string (profile_name s))
    (member (codes "sample_aspect_ratio") (ratio_data s.sample_aspect)
    (member (codes "video_full_range_flag") (flag_data s.full_range)
    (member (codes "width") (count s.width) no_members)))))))))))))

-- of a stream with a picture
abbrev pub sequence_if_given : Option SequenceFacts → Data
sequence_if_given None = null
sequence_if_given (Some s) = sequence_data s

-- the first unit that is refused
abbrev pub refusal_data : Option Refusal → Data
refusal_data None = null
refusal_data (Some r) =
    object (member (codes "name") (string (name_of r.fault))
    (member (codes "number") (count (number_of r.fault))
    (member (codes "unit") (count r.unit) no_members)))

-- a kind of refusals
abbrev pub kind_data : RefusalKind → Data
kind_data k =
    object (member (codes "count") (count k.count)
    (member (codes "first_unit") (count k.first_unit)
    (member (codes "name") (string (name_of k.fault))
    (member (codes "number") (count (number_of k.fault)) no_members))))

-- all kinds, in their order
abbrev pub kinds_data : List RefusalKind → Data
kinds_data kinds = array (items_of (map kind_data kinds))

-- what a sequence parameter set begins with
abbrev pub set_head_data : Option SetHead → Data
set_head_data None = null
set_head_data (Some h) =
    object (member (codes "coded_size") (size_if_given h.coded)
    (member (codes "level_idc") (count h.level_idc)
    (member (codes "profile_idc") (count h.profile_idc) no_members)))

-- sizes, in their order
abbrev pub sizes_data : List Size → Data
sizes_data sizes = array (items_of (map size_data sizes))

-- the clock, where there is one (E.2.1)
abbrev pub clock_of : Option SequenceFacts → Option Timing
clock_of s = option_and_then (λ x. x.timing) s

-- all of it, of a stream of so many bytes
abbrev pub facts_data : StreamFacts → (bytes : ℕ) → Data
facts_data f bytes =
    object (member (codes "bits_per_second")
    (count_if_given (bit_rate (clock_of (sequence_of f)) bytes f.counts.pictures))
    (member (codes "coded_video_sequences") (count f.counts.sequences)
    (member (codes "duration_in_milliseconds")
    (count_if_given (duration (clock_of (sequence_of f)) f.counts.pictures))
    (member (codes "first_refusal") (refusal_data f.first_refusal)
    (member (codes "more_sizes") (boolean f.sizes.others)
    (member (codes "pictures") (count f.counts.pictures)
    (member (codes "refusals") (kinds_data (kinds_of f.refusals))
    (member (codes "refused_sequence") (set_head_data f.refused_set)
    (member (codes "refused_units") (count f.refused)
    (member (codes "sequence") (sequence_if_given (sequence_of f))
    (member (codes "sizes") (sizes_data f.sizes.first)
    (member (codes "slices_per_picture") (count f.counts.most_slices) no_members))))))))))))

-- in one line
abbrev pub json_line : StreamFacts → (bytes : ℕ) → List ℕ
json_line f bytes = compact_text (facts_data f bytes) ++ newline
