-- How pictures are shown, as their sequence parameter set says (7.4.2.1.1, E.2.1).
use Rattle.std.specs.Prelude.{◌≡◌, ℕ, ◌*◌, Bool, true, false, ◌==◌, ◌||◌, if◌then◌else◌, Option}
use Rattle.std.specs.Prelude.{Some, None}
use Rattle.std.specs.Option.{option_map}
use Rattle.avc_params.specs.VideoUsability.{in_vui, size_of_aspect}
use Rattle.avc_params.specs.declared.sps.Sps.{Sps}
use Rattle.avc_params.specs.declared.vui.ChromaLocation.{ChromaLocation}
use Rattle.avc_params.specs.declared.vui.SampleAspect.{SampleAspect}
use Rattle.avc_params.specs.declared.vui.SampleSize.{SampleSize}
use Rattle.avc_params.specs.declared.vui.Timing.{Timing}
use Rattle.avc_params.specs.declared.vui.VideoSignal.{VideoSignal}
use Rattle.avc_tools.specs.Lines.{shown_height, shown_width}
use Rattle.avc_presentation.specs.Ratios.{IsLowest}
use Rattle.avc_presentation.specs.declared.presentation.ChromaSite.{ChromaSite}
use Rattle.avc_presentation.specs.declared.presentation.ChromaSite.TheVariants.{Left, Centre}
use Rattle.avc_presentation.specs.declared.presentation.ChromaSite.TheVariants.{TopLeft}
use Rattle.avc_presentation.specs.declared.presentation.Presentation.{Presentation}
use Rattle.avc_presentation.specs.declared.ratio.Ratio.{Ratio}

-- n to d
abbrev pub ratio : (n d : ℕ) → Ratio
ratio n d = record { numerator = n; denominator = d }

-- ---- frames in a second

-- where none is given
abbrev pub default_rate : Ratio
default_rate = ratio 25 1

-- The rate by the clock: a frame takes two ticks, each num_units_in_tick of a clock of time_scale
-- in a second (E.2.1).
abbrev pub IsRateOf : Option Timing → Ratio → Type 0
IsRateOf None r = r ≡ default_rate
IsRateOf (Some t) r =
    elim (t.num_units_in_tick == 0 || t.time_scale == 0) [
      | true ↦ r ≡ default_rate
      | false ↦ IsLowest t.time_scale (2 * t.num_units_in_tick) r
    ]

-- ---- the shape of a sample

-- it is not given
abbrev pub no_ratio : Ratio
no_ratio = ratio 0 0

-- as it is given: a 0 says nothing (E.2.1)
abbrev pub ratio_of_size : SampleSize → Ratio
ratio_of_size s =
    if s.sar_width == 0 || s.sar_height == 0 then no_ratio else ratio s.sar_width s.sar_height

-- where it is given
abbrev pub sample_aspect : Option SampleAspect → Ratio
sample_aspect None = no_ratio
sample_aspect (Some a) = ratio_of_size (size_of_aspect a)

-- ---- samples

-- video_full_range_flag, where it is given (E.2.1)
abbrev pub full_range : Option VideoSignal → Option Bool
full_range s = option_map (λ v. v.video_full_range_flag) s

-- Where chroma samples lie, by chroma_sample_loc_type_top_field, which is the frame's (E.2.1). Y4M
-- has no word for types 3 to 5.
abbrev pub site_of_type : (loc_type : ℕ) → ChromaSite
site_of_type t = if t == 0 then Left else (if t == 2 then TopLeft else Centre)

-- Where it is not given it is type 0 (E.2.1). Samples of full range are those of JPEG, where they
-- lie in the centre (this decoder's rule).
abbrev pub default_site : (full_range : Option Bool) → ChromaSite
default_site (Some true) = Centre
default_site (Some false) = Left
default_site None = Left

-- the one or the other
abbrev pub chroma_site : Option ChromaLocation → (full_range : Option Bool) → ChromaSite
chroma_site (Some l) range = site_of_type l.chroma_sample_loc_type_top_field
chroma_site None range = default_site range

-- ---- a sequence parameter set

-- This is said by the set.
pub record IsPresented (s : Sps) (p : Presentation) : Type 0 where
  pub width : p.width ≡ shown_width s
  pub height : p.height ≡ shown_height s
  pub rate : IsRateOf (in_vui (λ v. v.timing) s) p.frame_rate
  pub aspect : p.sample_aspect ≡ sample_aspect (in_vui (λ v. v.aspect) s)
  pub range : p.full_range ≡ full_range (in_vui (λ v. v.video_signal) s)
  pub site : p.chroma_site
      ≡ chroma_site (in_vui (λ v. v.chroma_location) s)
      (full_range (in_vui (λ v. v.video_signal) s))

-- of no set: no picture has this size
abbrev pub no_presentation : Presentation
no_presentation = record {
  width = 0;
  height = 0;
  frame_rate = default_rate;
  sample_aspect = no_ratio;
  chroma_site = Left;
  full_range = None;
}

-- said by this set, if there is one
abbrev pub Says : Option Sps → Presentation → Type 0
Says None p = p ≡ no_presentation
Says (Some s) p = IsPresented s p
