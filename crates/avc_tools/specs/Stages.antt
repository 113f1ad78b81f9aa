-- Cutting out one piece unit by unit: these words are the crate's own.
use Rattle.std.specs.Prelude.{◌≡◌, ℕ, zero, suc, Bool, false, not, List, [], ◌∷◌, ◌++◌}
use Rattle.std.specs.Prelude.{if◌then◌else◌, Option, Some, None}
use Rattle.std.specs.List.{filter, flat_map}
use Rattle.avc_annexb.specs.SplitterState.{SplitterState}
use Rattle.avc_annexb.specs.Units.{units}
use Rattle.avc_annexb.specs.Written.{written}
use Rattle.avc_annexb.specs.declared.unit.Unit.{Unit}
use Rattle.avc_units.specs.Grouping.{is_start}
use Rattle.avc_units.specs.Resuming.{sets_in_force}
use Rattle.avc_tools.specs.Cutting.{HasSets}
use Rattle.avc_tools.specs.PieceSoFar.{bytes_of}
use Rattle.avc_tools.specs.Pieces.{after_slices, is_left_out, leads, through_slices}
use Rattle.avc_tools.specs.Streams.{IsDrained}
use Rattle.avc_tools.specs.declared.cutter.Cutter.{Cutter}
use Rattle.avc_tools.specs.declared.cutter.CutPhase.{CutPhase}
use Rattle.avc_tools.specs.declared.cutter.CutPhase.TheVariants as phases

-- What came of a piece.
pub data Stage : Type 0 where
  -- it has not begun: so many cut points are to be passed over
  waiting : (left : ℕ) → (before : List Unit) → Stage
  -- it has begun
  writing : (before : List Unit) → (cut_point : Unit) → (after : List Unit) → Stage
  -- the next has begun behind these units
  over : (before : List Unit) → (cut_point : Unit) → (after : List Unit) → Stage

-- at a cut point where so many are to be passed over
abbrev pub begun : (left : ℕ) → (before : List Unit) → (cut_point : Unit) → Stage
begun zero before u = writing before u []
begun (suc left) before u = waiting left (before ++ u ∷ [])

-- after the next unit
abbrev pub next : Stage → Unit → Stage
next (waiting left before) u =
    if is_start u then begun left before u else waiting left (before ++ u ∷ [])
next (writing before cut_point after) u =
    if is_start u then over before cut_point after else writing before cut_point (after ++ u ∷ [])
next (over before cut_point after) u = over before cut_point after

-- after these units
abbrev pub stage_after : Stage → List Unit → Stage
stage_after s [] = s
stage_after s (u ∷ us) = stage_after (next s u) us

-- the units that belong to the picture of a cut point behind these, written
abbrev pub leading : (before : List Unit) → List ℕ
leading before = flat_map written (filter leads (after_slices before))

-- the units of a piece behind its last slice where the next piece begins behind them
abbrev pub staying : (after : List Unit) → List Unit
staying after = filter (λ u. not (is_left_out u)) (after_slices after)

-- the piece with this rest, written
abbrev pub made : (before : List Unit) → (cut_point : Unit) → (rest : List Unit) → List ℕ
made before cut_point rest =
    flat_map written (sets_in_force before ++ filter leads (after_slices before)
    ++ cut_point ∷ rest)

-- the piece, if it has begun
abbrev pub piece_of : Stage → (ended : Bool) → Option (List ℕ)
piece_of (waiting left before) ended = None
piece_of (writing before cut_point after) ended =
    Some (made before cut_point (if ended then after else through_slices after))
piece_of (over before cut_point after) ended =
    Some (made before cut_point (through_slices after ++ staying after))

-- what is written of it
abbrev pub text_of : Stage → (ended : Bool) → List ℕ
text_of s ended = bytes_of (piece_of s ended)

-- how the code names it
abbrev pub phase_of : Stage → CutPhase
phase_of (waiting left before) = phases.Waiting
phase_of (writing before cut_point after) = phases.Writing
phase_of (over before cut_point after) = phases.Over

-- What is kept while the piece is waited for, and so many cut points are to be passed over.
pub record IsWaiting (left : ℕ) (before : List Unit) (c : Cutter) : Type 0 where
  pub left_is : c.left ≡ left
  pub sets : HasSets before c.sets
  pub held : c.held.items ≡ leading before

-- What is kept of the units behind the last slice: all, and those that stay where the next piece
-- begins.
pub record AreHeld (after : List Unit) (held staying_ones : List ℕ) : Type 0 where
  pub all : held ≡ flat_map written (after_slices after)
  pub stay : staying_ones ≡ flat_map written (staying after)

-- what is kept at each stage
abbrev pub Holds : Stage → Cutter → Type 0
Holds (waiting left before) c = IsWaiting left before c
Holds (writing before cut_point after) c = AreHeld after c.held.items c.staying.items
Holds (over before cut_point after) c = Prim.Unit {0}

-- The cutter stands so.
pub record StandsAt (s : Stage) (c : Cutter) : Type 0 where
  pub phase : c.phase ≡ phase_of s
  pub holds : Holds s c

-- From one stage it came to the other, and what this adds to the piece is written.
pub record IsCutOn (before now : Stage) (c : Cutter) (old new : List ℕ) : Type 0 where
  pub stands : StandsAt now c
  pub added : List ℕ
  pub defined : text_of now false ≡ text_of before false ++ added
  pub written_on : new ≡ old ++ added

-- The stream has ended there or not, and what this adds to the piece is written.
pub record IsCutOff (s : Stage) (ended : Bool) (old new : List ℕ) : Type 0 where
  pub added : List ℕ
  pub defined : text_of s ended ≡ text_of s false ++ added
  pub written_on : new ≡ old ++ added

-- where the piece of a number stands after all units whose end has been seen
abbrev pub stage_of : (max number : ℕ) → SplitterState → Stage
stage_of max number s = stage_after (waiting number []) (units max s.bytes s.ended)

-- All units whose end has been seen were taken, and the cutter took them in.
pub record IsCutting (max number : ℕ) (s : SplitterState) (ended : Bool) (c : Cutter) : Type 0 where
  pub drained : IsDrained max s
  pub end_is : ended ≡ s.ended
  pub stands : StandsAt (stage_of max number s) c
