-- Video usability information as bits (E.1.1, E.1.2): the elements in their order, and the ranges
-- in which they can be written.
use Rattle.std.specs.Prelude.{◌≡◌, ℕ, ◌-◌, ◌<◌, ◌≤◌, ◌==◌, ◌||◌, Bool, true, false, List, [], ◌∷◌}
use Rattle.std.specs.Prelude.{length, Option, Some, None, is_some, IfSome}
use Rattle.std.specs.List.{flat_map}
use Rattle.avc_bits.specs.Bits.{bits_of}
use Rattle.avc_params.specs.declared.vui.ChromaLocation.{ChromaLocation}
use Rattle.avc_params.specs.declared.vui.Colour.{Colour}
use Rattle.avc_params.specs.declared.vui.Hrd.{Hrd}
use Rattle.avc_params.specs.declared.vui.HrdEntry.{HrdEntry}
use Rattle.avc_params.specs.declared.vui.Restriction.{Restriction}
use Rattle.avc_params.specs.declared.vui.SampleAspect.{SampleAspect}
use Rattle.avc_params.specs.declared.vui.SampleSize.{SampleSize}
use Rattle.avc_params.specs.declared.vui.Timing.{Timing}
use Rattle.avc_params.specs.declared.vui.VideoSignal.{VideoSignal}
use Rattle.avc_params.specs.declared.vui.Vui.{Vui}
use Rattle.avc_rbsp.specs.Words.{joined, ue_word}

-- a flag and, where it is 1, the part
abbrev pub optional_bits : {A : Type 0} → (A → List Bool) → Option A → List Bool
optional_bits word None = false ∷ []
optional_bits word (Some x) = true ∷ word x

-- the bits of what may be absent: none where it is
abbrev pub where_bits : {A : Type 0} → (A → List Bool) → Option A → List Bool
where_bits word None = []
where_bits word (Some x) = word x

-- a flag, as one bit
abbrev pub flag_bits : Bool → List Bool
flag_bits b = b ∷ []

-- the greatest value of ue(v) is 2 ^ 32 - 2
abbrev pub IsUeValue : ℕ → Type 0
IsUeValue v = v < 4294967295

-- one entry of hrd_parameters: the rate, the size and cbr_flag (E.1.2)
abbrev pub hrd_entry_bits : HrdEntry → List Bool
hrd_entry_bits e =
    joined (ue_word e.bit_rate_value_minus1 ∷ ue_word e.cpb_size_value_minus1 ∷ flag_bits e.cbr_flag
    ∷ [])

-- its numbers have codewords
abbrev pub IsHrdEntry : HrdEntry → Type 0
IsHrdEntry e = IsUeValue e.bit_rate_value_minus1 × IsUeValue e.cpb_size_value_minus1

-- hrd_parameters (E.1.2)
abbrev pub hrd_bits : Hrd → List Bool
hrd_bits h =
    joined (ue_word (length h.entries - 1) ∷ bits_of 4 h.bit_rate_scale ∷ bits_of 4 h.cpb_size_scale
    ∷ flat_map hrd_entry_bits h.entries
    ∷ bits_of 5 h.initial_cpb_removal_delay_length_minus1 ∷ bits_of 5
    h.cpb_removal_delay_length_minus1 ∷ bits_of 5 h.dpb_output_delay_length_minus1 ∷ bits_of 5
    h.time_offset_length ∷ [])

-- P holds of each
abbrev pub Each : {A : Type 0} → (A → Type 0) → List A → Type 0
Each P [] = Unit {0}
Each P (x ∷ xs) = P x × Each P xs

-- 1 to 32 entries, and each number fits its bits (E.2.2)
pub record IsHrd (h : Hrd) : Type 0 where
  pub some : 1 ≤ length h.entries
  pub few : length h.entries ≤ 32
  pub entries : Each IsHrdEntry h.entries
  pub rate : h.bit_rate_scale < 16
  pub size : h.cpb_size_scale < 16
  pub initial : h.initial_cpb_removal_delay_length_minus1 < 32
  pub removal : h.cpb_removal_delay_length_minus1 < 32
  pub output : h.dpb_output_delay_length_minus1 < 32
  pub offset : h.time_offset_length < 32

-- sar_width and sar_height (E.1.1)
abbrev pub sample_size_bits : SampleSize → List Bool
sample_size_bits s = joined (bits_of 16 s.sar_width ∷ bits_of 16 s.sar_height ∷ [])

-- both fit sixteen bits
abbrev pub IsSampleSize : SampleSize → Type 0
IsSampleSize s = (s.sar_width < 65536) × (s.sar_height < 65536)

-- aspect_ratio_idc, and the size where that is Extended_SAR (E.1.1)
abbrev pub aspect_bits : SampleAspect → List Bool
aspect_bits a = joined (bits_of 8 a.aspect_ratio_idc ∷ where_bits sample_size_bits a.extended ∷ [])

-- the size is given exactly where aspect_ratio_idc is 255 (Table E-1)
pub record IsAspect (a : SampleAspect) : Type 0 where
  pub idc : a.aspect_ratio_idc < 256
  pub is_extended : is_some a.extended ≡ (a.aspect_ratio_idc == 255)
  pub size : IfSome a.extended IsSampleSize

-- colour_primaries, transfer_characteristics and matrix_coefficients (E.1.1)
abbrev pub colour_bits : Colour → List Bool
colour_bits c =
    joined (bits_of 8 c.colour_primaries ∷ bits_of 8 c.transfer_characteristics ∷ bits_of 8
    c.matrix_coefficients ∷ [])

-- each fits eight bits
abbrev pub IsColour : Colour → Type 0
IsColour c = (c.colour_primaries < 256) × (c.transfer_characteristics < 256) ×
    (c.matrix_coefficients < 256)

-- video_format, video_full_range_flag and the colour description (E.1.1)
abbrev pub video_signal_bits : VideoSignal → List Bool
video_signal_bits v =
    joined (bits_of 3 v.video_format ∷ flag_bits v.video_full_range_flag ∷ optional_bits colour_bits
    v.colour ∷ [])

-- video_format fits three bits, and the colours theirs
abbrev pub IsVideoSignal : VideoSignal → Type 0
IsVideoSignal v = (v.video_format < 8) × IfSome v.colour IsColour

-- chroma_sample_loc_type of both fields (E.1.1)
abbrev pub chroma_location_bits : ChromaLocation → List Bool
chroma_location_bits l =
    joined (ue_word l.chroma_sample_loc_type_top_field ∷ ue_word
    l.chroma_sample_loc_type_bottom_field ∷ [])

-- both have codewords
abbrev pub IsChromaLocation : ChromaLocation → Type 0
IsChromaLocation l =
    IsUeValue l.chroma_sample_loc_type_top_field × IsUeValue l.chroma_sample_loc_type_bottom_field

-- num_units_in_tick, time_scale and fixed_frame_rate_flag (E.1.1)
abbrev pub timing_bits : Timing → List Bool
timing_bits t =
    joined (bits_of 32 t.num_units_in_tick ∷ bits_of 32 t.time_scale ∷ flag_bits
    t.fixed_frame_rate_flag ∷ [])

-- both numbers fit 32 bits
abbrev pub IsTiming : Timing → Type 0
IsTiming t = (t.num_units_in_tick < 4294967296) × (t.time_scale < 4294967296)

-- what follows bitstream_restriction_flag (E.1.1)
abbrev pub restriction_bits : Restriction → List Bool
restriction_bits r =
    joined (flag_bits r.motion_vectors_over_pic_boundaries_flag ∷ ue_word r.max_bytes_per_pic_denom
    ∷ ue_word r.max_bits_per_mb_denom ∷ ue_word r.log2_max_mv_length_horizontal
    ∷ ue_word r.log2_max_mv_length_vertical ∷ ue_word r.max_num_reorder_frames ∷ ue_word
    r.max_dec_frame_buffering ∷ [])

-- all its numbers have codewords
pub record IsRestriction (r : Restriction) : Type 0 where
  pub bytes : IsUeValue r.max_bytes_per_pic_denom
  pub bits : IsUeValue r.max_bits_per_mb_denom
  pub horizontal : IsUeValue r.log2_max_mv_length_horizontal
  pub vertical : IsUeValue r.log2_max_mv_length_vertical
  pub reorder : IsUeValue r.max_num_reorder_frames
  pub buffering : IsUeValue r.max_dec_frame_buffering

-- vui_parameters (E.1.1)
abbrev pub vui_bits : Vui → List Bool
vui_bits v =
    joined (optional_bits aspect_bits v.aspect ∷ optional_bits flag_bits v.overscan_appropriate_flag
    ∷ optional_bits video_signal_bits v.video_signal
    ∷ optional_bits chroma_location_bits v.chroma_location ∷ optional_bits timing_bits v.timing ∷
    optional_bits hrd_bits v.nal_hrd ∷ optional_bits hrd_bits v.vcl_hrd
    ∷ where_bits flag_bits v.low_delay_hrd_flag ∷ flag_bits v.pic_struct_present_flag ∷
    optional_bits restriction_bits v.restriction ∷ [])

-- each part that is there can be written
pub record IsVui (v : Vui) : Type 0 where
  pub is_aspect : IfSome v.aspect IsAspect
  pub signal : IfSome v.video_signal IsVideoSignal
  pub location : IfSome v.chroma_location IsChromaLocation
  pub clock : IfSome v.timing IsTiming
  pub nal : IfSome v.nal_hrd IsHrd
  pub vcl : IfSome v.vcl_hrd IsHrd
  pub low_delay : is_some v.low_delay_hrd_flag ≡ (is_some v.nal_hrd || is_some v.vcl_hrd)
  pub limits : IfSome v.restriction IsRestriction
