-- A stream from one of its cut points on.
use Rattle.std.specs.Prelude.{◌≡◌, ℕ, zero, suc, Bool, List, [], ◌∷◌, ◌++◌, length, if◌then◌else◌}
use Rattle.std.specs.Prelude.{Option, Some, None}
use Rattle.std.specs.List.{filter, flat_map}
use Rattle.avc_annexb.specs.SplitterState.{SplitterState}
use Rattle.avc_annexb.specs.Units.{units}
use Rattle.avc_annexb.specs.Written.{written}
use Rattle.avc_annexb.specs.declared.unit.Unit.{Unit}
use Rattle.avc_units.specs.Grouping.{is_start}
use Rattle.avc_units.specs.Resuming.{sets_in_force}
use Rattle.avc_tools.specs.Pieces.{after_slices, leads}
use Rattle.avc_tools.specs.Stages.{StandsAt, waiting}
use Rattle.avc_tools.specs.Streams.{IsDrained}
use Rattle.avc_tools.specs.declared.cutter.Cutter.{Cutter}
use Rattle.avc_tools.specs.declared.cutter.CutPhase.TheVariants as phases

-- The units from a cut point on: the parameter sets in force there, what leads its picture, itself,
-- and all that follow (this decoder's rule).
abbrev pub units_from : (before : List Unit) → (cut_point : Unit) → (after : List Unit) → List Unit
units_from before cut_point after =
    sets_in_force before ++ filter leads (after_slices before) ++ cut_point ∷ after

-- The same of one among these units, before which so many cut points are to be passed over, if it
-- is there.
abbrev pub tail_from : (left : ℕ) → (before us : List Unit) → List Unit
tail_from left before [] = []
tail_from zero before (u ∷ us) =
    if is_start u then units_from before u us else tail_from zero (before ++ u ∷ []) us
tail_from (suc left) before (u ∷ us) =
    tail_from (if is_start u then left else suc left) (before ++ u ∷ []) us

-- what is written of a stream from the cut point of this number on, counted from 0
abbrev pub tail_text : (number : ℕ) → List ℕ → (ended : Bool) → List ℕ
tail_text number bytes ended =
    flat_map written (tail_from number [] (units (length bytes) bytes ended))

-- ---- unit by unit: these words are the crate's own

-- how many cut points are left to be passed over behind these units, or none where the tail has
-- begun
abbrev pub still_left : (left : ℕ) → (us : List Unit) → Option ℕ
still_left left [] = Some left
still_left zero (u ∷ us) = if is_start u then None else still_left zero us
still_left (suc left) (u ∷ us) = still_left (if is_start u then left else suc left) us

abbrev pub left_by : Option ℕ → (us : List Unit) → Option ℕ
left_by (Some left) us = still_left left us
left_by None us = None

-- what these units bring to the tail, by what was left before them
abbrev pub brought_by : Option ℕ → (before us : List Unit) → List Unit
brought_by (Some left) before us = tail_from left before us
brought_by None before us = us

-- what is kept until the tail begins
abbrev pub StandsInTail : Option ℕ → (before : List Unit) → Cutter → Type 0
StandsInTail (Some left) before c = StandsAt (waiting left before) c
StandsInTail None before c = c.phase ≡ phases.Writing

-- Behind these units it stands so, and what they bring is written.
pub record IsTailOn (left : Option ℕ) (before us : List Unit) (c : Cutter)
    (old new : List ℕ) : Type 0 where
  pub stands : StandsInTail (left_by left us) (before ++ us) c
  pub written_on : new ≡ old ++ flat_map written (brought_by left before us)

-- The same from wherever it stood.
abbrev pub IsTailFrom : (old now : Cutter) → (old_text new_text : List ℕ) → (us : List Unit) →
    Type 0
IsTailFrom old now old_text new_text us =
    (left : Option ℕ) (before : List Unit) → StandsInTail left before old →
    IsTailOn left before us now old_text new_text

-- All units whose end has been seen were taken, and the cutter stands behind them.
pub record IsInTail (max number : ℕ) (s : SplitterState) (c : Cutter) : Type 0 where
  pub drained : IsDrained max s
  pub stands : StandsInTail (still_left number (units max s.bytes s.ended))
      (units max s.bytes s.ended) c
