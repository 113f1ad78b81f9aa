-- What a sequence parameter set says.
use Rattle.std.specs.Prelude.{ℕ, ◌*◌, ◌==◌, if◌then◌else◌, Option, Some, None}
use Rattle.std.specs.Option.{option_map}
use Rattle.avc_presentation.specs.Presenting.{full_range, sample_aspect}
use Rattle.avc_presentation.specs.declared.ratio.Ratio.{Ratio}
use Rattle.avc_params.specs.Limits.{height_in_mbs, restriction_of, width_in_mbs}
use Rattle.avc_params.specs.VideoUsability.{colour_in, in_vui}
use Rattle.avc_params.specs.declared.sps.Cropping.{Cropping}
use Rattle.avc_params.specs.declared.sps.Sps.{Sps}
use Rattle.avc_tools.specs.Lines.{shown_height, shown_width}
use Rattle.avc_sequence.specs.declared.sequence_facts.Crop.{Crop}
use Rattle.avc_sequence.specs.declared.sequence_facts.SequenceFacts.{SequenceFacts}
use Rattle.avc_sequence.specs.declared.sequence_facts.Size.{Size}

-- max_num_reorder_frames, where it is given (E.2.1)
abbrev pub reorder_number : Sps → Option ℕ
reorder_number s = option_map (λ r. r.max_num_reorder_frames) (restriction_of s)

-- the size before cropping, in luma samples (7.4.2.1.1)
abbrev pub coded_size : Sps → Size
coded_size s = record { width = 16 * width_in_mbs s; height = 16 * height_in_mbs s }

-- What is cropped at each side, in luma samples: CropUnitX and CropUnitY are 2, since chroma is
-- 4:2:0 and pictures are frames (7.4.2.1.1).
abbrev pub crop_of : Option Cropping → Crop
crop_of None = record { left = 0; right = 0; top = 0; bottom = 0 }
crop_of (Some c) = record {
  left = 2 * c.frame_crop_left_offset;
  right = 2 * c.frame_crop_right_offset;
  top = 2 * c.frame_crop_top_offset;
  bottom = 2 * c.frame_crop_bottom_offset;
}

-- a ratio, unless it is 0 to 0, which says nothing
abbrev pub ratio_given : Ratio → Option Ratio
ratio_given r = if r.denominator == 0 then None else Some r

-- chroma_sample_loc_type_top_field, where it is given (E.2.1)
abbrev pub chroma_place : Sps → Option ℕ
chroma_place s =
    option_map (λ l. l.chroma_sample_loc_type_top_field) (in_vui (λ v. v.chroma_location) s)

-- what a sequence parameter set says
abbrev pub said_by : Sps → SequenceFacts
said_by s = record {
  width = shown_width s;
  height = shown_height s;
  coded = coded_size s;
  crop = crop_of s.frame_cropping;
  sample_aspect = ratio_given (sample_aspect (in_vui (λ v. v.aspect) s));
  full_range = full_range (in_vui (λ v. v.video_signal) s);
  colour = colour_in s;
  chroma_place = chroma_place s;
  profile_idc = s.profile_idc;
  constraint_set1_flag = s.constraint_flags.constraint_set1_flag;
  constraint_set3_flag = s.constraint_flags.constraint_set3_flag;
  level_idc = s.level_idc;
  timing = in_vui (λ v. v.timing) s;
  max_num_ref_frames = s.max_num_ref_frames;
  max_num_reorder_frames = reorder_number s;
}
