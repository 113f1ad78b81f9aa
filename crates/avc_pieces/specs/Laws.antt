-- Pieces of a stream decode as the stream does.
use Rattle.std.specs.Prelude.{◌≡◌, ℕ, ◌+◌, ◌-◌, ◌^◌, ◌<◌, Bool, true, false, not, List, [], ◌∷◌}
use Rattle.std.specs.Prelude.{◌++◌, length, drop, sum_by, Option, Some, Result, Ok, Err, IsTrue}
use Rattle.std.specs.List.{flat_map, list_all}
use Rattle.avc_types.specs.declared.fault.Fault.{Fault}
use Rattle.avc_types.specs.declared.references.Marking.{Marking}
use Rattle.avc_types.specs.declared.references.Marking.TheVariants.{Idr}
use Rattle.avc_annexb.specs.Units.{units}
use Rattle.avc_annexb.specs.declared.unit.Unit.{Unit}
use Rattle.avc_slice.specs.declared.slice.Slice.{Slice}
use Rattle.avc_units.specs.Grouping.{is_start, slice_in, tables}
use Rattle.avc_decoder.specs.Output.{Output}
use Rattle.avc_decoder.specs.Events.{events}
use Rattle.avc_laws.specs.Laws.{is_picture, unnumbered}
use Rattle.avc_tools.specs.Pieces.{pieces}

-- the marking has no_output_of_prior_pics_flag 1
abbrev pub drops_by : Option Marking → Bool
drops_by (Some (Idr no_output long_term)) = no_output
drops_by _ = false

-- so has the slice that was read
abbrev pub drops_prior : Result Slice Fault → Bool
drops_prior (Ok s) = drops_by (s.header).marking
drops_prior (Err f) = false

-- no_output_of_prior_pics_flag of each picture that decoding can start with
abbrev pub drop_flags : (before after : List Unit) → List Bool
drop_flags before [] = []
drop_flags before (u ∷ after) =
    let others = drop_flags (before ++ u ∷ []) after in
    elim (is_start u) [ true ↦ drops_prior (slice_in (tables before) u) ∷ others | false ↦ others ]

-- Where a stream has no refusal, and no IDR picture but the first drops what is held, its pictures
-- are those of its pieces, but for the numbers of their units.
abbrev pub PiecesDecodeAlike : Type 0
PiecesDecodeAlike =
    (output : Output) (max : ℕ) (bytes : List ℕ) →
    length bytes + sum_by length (pieces bytes) < 2 ^ 64 - 1 →
    IsTrue (list_all is_picture (events output max bytes true)) →
    IsTrue (list_all (λ f. not f) (drop 1 (drop_flags [] (units max bytes true)))) →
    unnumbered (events output max bytes true)
    ≡ unnumbered (flat_map (λ piece. events output max piece true) (pieces bytes))
