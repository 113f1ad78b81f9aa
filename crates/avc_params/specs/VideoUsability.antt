-- How pictures are meant to be shown, by their sequence parameter set (E.2.1).
use Rattle.std.specs.Prelude.{ℕ, ◌==◌, Bool, false, if◌then◌else◌, Option, Some, None}
use Rattle.std.specs.Prelude.{option_and_then}
use Rattle.std.specs.Option.{option_map}
use Rattle.avc_types.specs.PictureInfos.{unspecified}
use Rattle.avc_types.specs.declared.picture_info.VideoUsability.{VideoUsability}
use Rattle.avc_params.specs.Limits.{restriction_of}
use Rattle.avc_params.specs.declared.sps.Sps.{Sps}
use Rattle.avc_params.specs.declared.vui.ChromaLocation.{ChromaLocation}
use Rattle.avc_params.specs.declared.vui.Colour.{Colour}
use Rattle.avc_params.specs.declared.vui.SampleAspect.{SampleAspect}
use Rattle.avc_params.specs.declared.vui.SampleSize.{SampleSize}
use Rattle.avc_params.specs.declared.vui.Timing.{Timing}
use Rattle.avc_params.specs.declared.vui.VideoSignal.{VideoSignal}
use Rattle.avc_params.specs.declared.vui.Vui.{Vui}

-- a part of the VUI, where there is one
abbrev pub in_vui : {A : Type 0} → (Vui → Option A) → Sps → Option A
in_vui part s = option_and_then part s.vui

-- its width to its height
abbrev pub sample_size : (w h : ℕ) → SampleSize
sample_size w h = record { sar_width = w; sar_height = h }

-- as the set says it itself
abbrev pub own_size : Option SampleSize → SampleSize
own_size None = sample_size 0 0
own_size (Some s) = s

-- the shape of a luma sample by aspect_ratio_idc (Table E-1); 255 is Extended_SAR
abbrev pub size_of_aspect : SampleAspect → SampleSize
size_of_aspect a =
    if a.aspect_ratio_idc == 1 then sample_size 1 1
    else (if a.aspect_ratio_idc == 2 then sample_size 12 11
    else (if a.aspect_ratio_idc == 3 then sample_size 10 11
    else (if a.aspect_ratio_idc == 4 then sample_size 16 11
    else (if a.aspect_ratio_idc == 5 then sample_size 40 33
    else (if a.aspect_ratio_idc == 6 then sample_size 24 11
    else (if a.aspect_ratio_idc == 7 then sample_size 20 11
    else (if a.aspect_ratio_idc == 8 then sample_size 32 11
    else (if a.aspect_ratio_idc == 9 then sample_size 80 33
    else (if a.aspect_ratio_idc == 10 then sample_size 18 11
    else (if a.aspect_ratio_idc == 11 then sample_size 15 11
    else (if a.aspect_ratio_idc == 12 then sample_size 64 33
    else (if a.aspect_ratio_idc == 13 then sample_size 160 99
    else (if a.aspect_ratio_idc == 14 then sample_size 4 3
    else (if a.aspect_ratio_idc == 15 then sample_size 3 2
    else (if a.aspect_ratio_idc == 16 then sample_size 2 1
    else (if a.aspect_ratio_idc == 255 then own_size a.extended else sample_size 0 0))))))))))))))))

-- where it is given
abbrev pub size_of_shape : Option SampleAspect → SampleSize
size_of_shape None = sample_size 0 0
size_of_shape (Some a) = size_of_aspect a

-- each part, or where it is not given what is inferred (E.2.1)
abbrev pub or_inferred : {A B : Type 0} → B → (A → B) → Option A → B
or_inferred inferred said None = inferred
or_inferred inferred said (Some part) = said part

-- colour_primaries, transfer_characteristics and matrix_coefficients, where they are given
abbrev pub colour_in : Sps → Option Colour
colour_in s = option_and_then (λ v. v.colour) (in_vui (λ v. v.video_signal) s)

-- What the set says of showing pictures.
abbrev pub usability_of : Sps → VideoUsability
usability_of s =
    let shape = size_of_shape (in_vui (λ v. v.aspect) s) in
    record {
      sar_width = shape.sar_width;
      sar_height = shape.sar_height;
      video_full_range_flag =
          or_inferred false (λ v. v.video_full_range_flag) (in_vui (λ v. v.video_signal) s);
      colour_primaries = or_inferred 2 (λ c. c.colour_primaries) (colour_in s);
      transfer_characteristics = or_inferred 2 (λ c. c.transfer_characteristics) (colour_in s);
      matrix_coefficients = or_inferred 2 (λ c. c.matrix_coefficients) (colour_in s);
      chroma_sample_loc_type =
          or_inferred 0 (λ l. l.chroma_sample_loc_type_top_field)
          (in_vui (λ v. v.chroma_location) s);
      num_units_in_tick = or_inferred 0 (λ t. t.num_units_in_tick) (in_vui (λ v. v.timing) s);
      time_scale = or_inferred 0 (λ t. t.time_scale) (in_vui (λ v. v.timing) s);
      max_num_reorder_frames = option_map (λ r. r.max_num_reorder_frames) (restriction_of s);
    }
