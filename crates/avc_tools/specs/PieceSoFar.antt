-- A piece of a stream while the stream comes.
use Rattle.std.specs.Prelude.{◌≡◌, ℕ, ◌+◌, Bool, true, false, ◌||◌, List, [], ◌∷◌, ◌++◌, length}
use Rattle.std.specs.Prelude.{if◌then◌else◌, Option, Some, None, is_some}
use Rattle.std.specs.List.{filter, flat_map, list_any, slice_get}
use Rattle.avc_annexb.specs.Units.{units}
use Rattle.avc_annexb.specs.Written.{written}
use Rattle.avc_annexb.specs.declared.unit.Unit.{Unit}
use Rattle.avc_units.specs.Grouping.{is_start}
use Rattle.avc_units.specs.Resuming.{sets_in_force}
use Rattle.avc_tools.specs.Pieces.{after_slices, leads, pieces, rest_of_piece, through_slices}
use Rattle.avc_tools.specs.Streams.{StreamSoFar}

-- The units after a cut point that its piece has, whatever may follow them: all of its rest once
-- the next cut point has come or the stream has ended, and before that those up to the last slice.
abbrev pub rest_so_far : (after : List Unit) → (ended : Bool) → List Unit
rest_so_far after ended =
    if ended || list_any is_start after then rest_of_piece after else through_slices after

-- the piece of a cut point so far
abbrev pub piece_so_far : (before : List Unit) → (cut_point : Unit) → (after : List Unit) →
    (ended : Bool) → List Unit
piece_so_far before cut_point after ended =
    sets_in_force before ++ filter leads (after_slices before)
    ++ cut_point ∷ rest_so_far after ended

-- the pieces that begin in these units, after those before them
abbrev pub pieces_so_far_from : (before after : List Unit) → (ended : Bool) → List (List ℕ)
pieces_so_far_from before [] ended = []
pieces_so_far_from before (u ∷ after) ended =
    let others = pieces_so_far_from (before ++ u ∷ []) after ended in
    elim (is_start u) [
      | true ↦ flat_map written (piece_so_far before u after ended) ∷ others
      | false ↦ others
    ]

-- One for each cut point that has come.
abbrev pub pieces_so_far : List ℕ → (ended : Bool) → List (List ℕ)
pieces_so_far bytes ended = pieces_so_far_from [] (units (length bytes) bytes ended) ended

-- the piece of this number, counted from 0, if it has begun
abbrev pub numbered_piece : (number : ℕ) → List ℕ → (ended : Bool) → Option (List ℕ)
numbered_piece number bytes ended = slice_get (pieces_so_far bytes ended) number

-- what is written of it
abbrev pub bytes_of : Option (List ℕ) → List ℕ
bytes_of None = []
bytes_of (Some piece) = piece

-- what is written of the piece of this number
abbrev pub piece_text : (number : ℕ) → List ℕ → (ended : Bool) → List ℕ
piece_text number bytes ended = bytes_of (numbered_piece number bytes ended)

-- the next piece has begun, with which this one has ended
abbrev pub is_over : (number : ℕ) → List ℕ → (ended : Bool) → Bool
is_over number bytes ended = is_some (numbered_piece (number + 1) bytes ended)

-- The number of a piece, and what came of the stream.
pub record PieceSoFar : Type 0 where
  pub number : ℕ
  pub stream : StreamSoFar

-- At the end of a stream these are its pieces.
abbrev pub PiecesAreWhole : Type 0
PiecesAreWhole = (bytes : List ℕ) → pieces_so_far bytes true ≡ pieces bytes

-- A piece that is over stays as it is, whatever follows.
abbrev pub PiecesStay : Type 0
PiecesStay =
    (number : ℕ) (bytes more : List ℕ) → is_over number bytes false ≡ true →
    slice_get (pieces (bytes ++ more)) number ≡ Some (piece_text number bytes false)
