-- At which stage of decoding (ITU-T H.264 clause 8) the samples of a macroblock differ.
use Rattle.std.specs.Prelude.{◌==◌, nat_lt, Bool, ◌&&◌, not, if◌then◌else◌, List, length, count_by}
use Rattle.avc_stages.specs.declared.stage.Counts.{Counts}
use Rattle.avc_stages.specs.declared.stage.Stage.{Stage}
use Rattle.avc_stages.specs.declared.stage.Stage.TheVariants.{Unfiltered, BeforeDeblocking}
use Rattle.avc_stages.specs.declared.stage.Stage.TheVariants.{Deblocking}
use Rattle.avc_stages.specs.declared.traced.TracedSample.{TracedSample}

-- the other's sample is not ours
abbrev pub differs : TracedSample → Bool
differs s = not (s.ours == s.theirs)

-- the other's sample is ours before deblocking
abbrev pub is_unfiltered : TracedSample → Bool
is_unfiltered s = s.theirs == s.before

-- the sample differs, and deblocking leaves ours as it is (8.7)
abbrev pub is_unchanged : TracedSample → Bool
is_unchanged s = differs s && s.ours == s.before

-- how many of a macroblock's samples are such ones
abbrev pub counts_of : List TracedSample → Counts
counts_of samples = record {
  shown = length samples;
  differing = count_by differs samples;
  unfiltered = count_by is_unfiltered samples;
  unchanged = count_by is_unchanged samples;
}

-- The stage: where all of the other's samples are ours before deblocking, its filter changed none
-- of them (8.7). Where one that differs is left as it is by our filter, the difference begins
-- before that, unless the other filters more (8.3 to 8.5). Else all that differ are changed by our
-- filter.
abbrev pub stage_of : Counts → Stage
stage_of c = if c.unfiltered == c.shown then Unfiltered
    else (if nat_lt 0 c.unchanged then BeforeDeblocking else Deblocking)
