-- What follows from a stream's clock: its frame rate, its bit rate and how long it lasts.
use Rattle.std.specs.Prelude.{ℕ, zero, suc, ◌*◌, ◌/◌, ◌%◌, Bool, ◌==◌, ◌&&◌, ◌||◌, if◌then◌else◌}
use Rattle.std.specs.Prelude.{Option, Some, None, option_and_then}
use Rattle.avc_annexb.specs.Units.{saturated}
use Rattle.avc_presentation.specs.Presenting.{ratio}
use Rattle.avc_presentation.specs.declared.ratio.Ratio.{Ratio}
use Rattle.avc_params.specs.declared.vui.Timing.{Timing}

-- ---- fractions

-- it divides both
abbrev pub divides_both : (d a b : ℕ) → Bool
divides_both d a b = a % d == 0 && b % d == 0

-- the greatest of the numbers from 1 to `most` that divides both
abbrev pub greatest_divisor : (most a b : ℕ) → ℕ
greatest_divisor zero a b = 0
greatest_divisor (suc m) a b = if divides_both (suc m) a b then suc m else greatest_divisor m a b

-- a to b in lowest terms: each divided by the greatest number that divides both, which is none
-- above b
abbrev pub lowest : (a b : ℕ) → Ratio
lowest a b = ratio (a / greatest_divisor b a b) (b / greatest_divisor b a b)

-- ---- by the clock, of which time_scale units are a second, and num_units_in_tick a tick (E.2.1)

-- frames in a second, in lowest terms: a frame takes two ticks
abbrev pub rate_by : Timing → Option Ratio
rate_by t = if t.num_units_in_tick == 0 then None
    else Some (lowest t.time_scale (2 * t.num_units_in_tick))

-- frames in a thousand seconds, rounded down: a frame takes two ticks (E.2.1)
abbrev pub rate_of : Timing → Option ℕ
rate_of t = if t.num_units_in_tick == 0 then None
    else Some (1000 * t.time_scale / (2 * t.num_units_in_tick))

-- one of its two numbers is 0, so there is no frame rate that anything could go by
abbrev pub stands_still : Timing → Bool
stands_still t = t.num_units_in_tick == 0 || t.time_scale == 0

-- how many units of the clock so many pictures take
abbrev pub units_for : Timing → (pictures : ℕ) → ℕ
units_for t pictures = 2 * t.num_units_in_tick * pictures

-- thousandths of a second that so many pictures take, rounded down
abbrev pub duration_by : (pictures : ℕ) → Timing → Option ℕ
duration_by pictures t =
    if stands_still t then None else Some (saturated (1000 * units_for t pictures / t.time_scale))

-- bits in a second, rounded down, where so many pictures take so many bytes
abbrev pub bit_rate_by : (bytes pictures : ℕ) → Timing → Option ℕ
bit_rate_by bytes pictures t =
    if stands_still t || pictures == 0 then None
    else Some (saturated (8 * bytes * t.time_scale / units_for t pictures))

-- ---- where there is a clock

-- frames in a second, in lowest terms
abbrev pub rate_ratio : Option Timing → Option Ratio
rate_ratio t = option_and_then rate_by t

-- frames in a thousand seconds, rounded down
abbrev pub frame_rate : Option Timing → Option ℕ
frame_rate None = None
frame_rate (Some t) = rate_of t

-- thousandths of a second that so many pictures take
abbrev pub duration : Option Timing → (pictures : ℕ) → Option ℕ
duration t pictures = option_and_then (duration_by pictures) t

-- bits in a second, where so many pictures take so many bytes
abbrev pub bit_rate : Option Timing → (bytes pictures : ℕ) → Option ℕ
bit_rate t bytes pictures = option_and_then (bit_rate_by bytes pictures) t
