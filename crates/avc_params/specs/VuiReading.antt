-- Video usability information from its bits (E.1.1, E.1.2): the elements in their order.
use Rattle.std.specs.Prelude.{◌+◌, ◌==◌, ◌||◌, is_some}
use Rattle.avc_bits.specs.Bits.{Read, ◌>>=◌, give, where_set, times}
use Rattle.avc_bits.specs.Codes.{u, flag, ue, ue_to}
use Rattle.avc_params.specs.Parsing.{optional}
use Rattle.avc_params.specs.declared.vui.ChromaLocation.{ChromaLocation}
use Rattle.avc_params.specs.declared.vui.Colour.{Colour}
use Rattle.avc_params.specs.declared.vui.Hrd.{Hrd}
use Rattle.avc_params.specs.declared.vui.HrdEntry.{HrdEntry}
use Rattle.avc_params.specs.declared.vui.Restriction.{Restriction}
use Rattle.avc_params.specs.declared.vui.SampleAspect.{SampleAspect}
use Rattle.avc_params.specs.declared.vui.SampleSize.{SampleSize}
use Rattle.avc_params.specs.declared.vui.Timing.{Timing}
use Rattle.avc_params.specs.declared.vui.VideoSignal.{VideoSignal}
use Rattle.avc_params.specs.declared.vui.Vui.{Vui}

-- bit_rate_value_minus1 to cbr_flag of one CPB (E.1.2)
abbrev pub hrd_entry : Read HrdEntry
hrd_entry = do
  bit_rate_value_minus1 ← ue
  cpb_size_value_minus1 ← ue
  cbr_flag ← flag
  give (record {
    bit_rate_value_minus1 = bit_rate_value_minus1;
    cpb_size_value_minus1 = cpb_size_value_minus1;
    cbr_flag = cbr_flag;
  })

-- hrd_parameters; cpb_cnt_minus1 is 0 to 31 (E.1.2, E.2.2)
abbrev pub hrd : Read Hrd
hrd = do
  cpb_cnt_minus1 ← ue_to 31
  bit_rate_scale ← u 4
  cpb_size_scale ← u 4
  entries ← times (cpb_cnt_minus1 + 1) hrd_entry
  initial_cpb_removal_delay_length_minus1 ← u 5
  cpb_removal_delay_length_minus1 ← u 5
  dpb_output_delay_length_minus1 ← u 5
  time_offset_length ← u 5
  give (record {
    bit_rate_scale = bit_rate_scale;
    cpb_size_scale = cpb_size_scale;
    entries = entries;
    initial_cpb_removal_delay_length_minus1 = initial_cpb_removal_delay_length_minus1;
    cpb_removal_delay_length_minus1 = cpb_removal_delay_length_minus1;
    dpb_output_delay_length_minus1 = dpb_output_delay_length_minus1;
    time_offset_length = time_offset_length;
  })

-- sar_width and sar_height (E.1.1)
abbrev pub sample_size : Read SampleSize
sample_size = do
  sar_width ← u 16
  sar_height ← u 16
  give (record { sar_width = sar_width; sar_height = sar_height })

-- aspect_ratio_idc and what follows it; 255 is Extended_SAR (E.1.1, Table E-1)
abbrev pub sample_aspect : Read SampleAspect
sample_aspect = do
  aspect_ratio_idc ← u 8
  extended ← where_set (aspect_ratio_idc == 255) sample_size
  give (record { aspect_ratio_idc = aspect_ratio_idc; extended = extended })

-- colour_primaries to matrix_coefficients (E.1.1)
abbrev pub colour : Read Colour
colour = do
  colour_primaries ← u 8
  transfer_characteristics ← u 8
  matrix_coefficients ← u 8
  give (record {
    colour_primaries = colour_primaries;
    transfer_characteristics = transfer_characteristics;
    matrix_coefficients = matrix_coefficients;
  })

-- video_format to the colour description (E.1.1)
abbrev pub video_signal : Read VideoSignal
video_signal = do
  video_format ← u 3
  video_full_range_flag ← flag
  described ← optional colour
  give (record {
    video_format = video_format;
    video_full_range_flag = video_full_range_flag;
    colour = described;
  })

-- chroma_sample_loc_type_top_field and chroma_sample_loc_type_bottom_field (E.1.1)
abbrev pub chroma_location : Read ChromaLocation
chroma_location = do
  top ← ue
  bottom ← ue
  give (record {
    chroma_sample_loc_type_top_field = top;
    chroma_sample_loc_type_bottom_field = bottom;
  })

-- num_units_in_tick to fixed_frame_rate_flag (E.1.1)
abbrev pub timing : Read Timing
timing = do
  num_units_in_tick ← u 32
  time_scale ← u 32
  fixed_frame_rate_flag ← flag
  give (record {
    num_units_in_tick = num_units_in_tick;
    time_scale = time_scale;
    fixed_frame_rate_flag = fixed_frame_rate_flag;
  })

-- motion_vectors_over_pic_boundaries_flag to max_dec_frame_buffering (E.1.1)
abbrev pub restriction : Read Restriction
restriction = do
  motion_vectors_over_pic_boundaries_flag ← flag
  max_bytes_per_pic_denom ← ue
  max_bits_per_mb_denom ← ue
  log2_max_mv_length_horizontal ← ue
  log2_max_mv_length_vertical ← ue
  max_num_reorder_frames ← ue
  max_dec_frame_buffering ← ue
  give (record {
    motion_vectors_over_pic_boundaries_flag = motion_vectors_over_pic_boundaries_flag;
    max_bytes_per_pic_denom = max_bytes_per_pic_denom;
    max_bits_per_mb_denom = max_bits_per_mb_denom;
    log2_max_mv_length_horizontal = log2_max_mv_length_horizontal;
    log2_max_mv_length_vertical = log2_max_mv_length_vertical;
    max_num_reorder_frames = max_num_reorder_frames;
    max_dec_frame_buffering = max_dec_frame_buffering;
  })

-- vui_parameters (E.1.1)
abbrev pub vui : Read Vui
vui = do
  aspect ← optional sample_aspect
  overscan ← optional flag
  signal ← optional video_signal
  location ← optional chroma_location
  times_given ← optional timing
  nal_hrd ← optional hrd
  vcl_hrd ← optional hrd
  low_delay ← where_set (is_some nal_hrd || is_some vcl_hrd) flag
  pic_struct_present_flag ← flag
  restricted ← optional restriction
  give (record {
    aspect = aspect;
    overscan_appropriate_flag = overscan;
    video_signal = signal;
    chroma_location = location;
    timing = times_given;
    nal_hrd = nal_hrd;
    vcl_hrd = vcl_hrd;
    low_delay_hrd_flag = low_delay;
    pic_struct_present_flag = pic_struct_present_flag;
    restriction = restricted;
  })
