-- Where the pieces of a stream begin, and how many pictures each has: a line for each.
use Rattle.std.specs.Prelude.{◌≡◌, ℕ, ◌+◌, Bool, true, false, List, [], ◌∷◌, ◌++◌, length}
use Rattle.std.specs.Prelude.{if◌then◌else◌, Option, Some, None, codes}
use Rattle.std.specs.Fmt.{decimal}
use Rattle.std.specs.Option.{option_map}
use Rattle.avc_annexb.specs.SplitterState.{SplitterState}
use Rattle.avc_annexb.specs.Units.{saturated, units}
use Rattle.avc_annexb.specs.declared.unit.Unit.{Unit}
use Rattle.avc_params.specs.Tables.{sets_after}
use Rattle.avc_params.specs.declared.set_unit.SetUnit.{SetUnit}
use Rattle.avc_slice.specs.Begins.{begins_after, picture_fields}
use Rattle.avc_slice.specs.declared.begins.PictureFields.{PictureFields}
use Rattle.avc_units.specs.Bringing.{brought}
use Rattle.avc_units.specs.Grouping.{is_start, set_units}
use Rattle.avc_units.specs.declared.header_reader.Brought.{Brought}
use Rattle.avc_units.specs.declared.header_reader.Brought.TheVariants.{Slice}
use Rattle.avc_tools.specs.Lines.{and_number, newline}
use Rattle.avc_tools.specs.Streams.{IsDrained}
use Rattle.avc_tools.specs.declared.piece_facts.PieceFacts.{PieceFacts}

-- the number of the piece, the number and the offset of the unit with which it begins, and how many
-- pictures it has
abbrev pub cut_point_line : PieceFacts → List ℕ
cut_point_line p =
    decimal p.piece ++ and_number p.unit ++ and_number p.first_byte
    ++ codes " pictures" ++ and_number p.pictures ++ newline

-- ---- pictures (7.4.1.2.4)

-- What is known behind some units: the parameter sets that they brought, of the last slice header
-- among them what decides whether the next slice begins a picture, the number of the next piece,
-- and the piece that goes on, with its pictures so far.
pub record CountedPieces : Type 0 where
  pub sets : List SetUnit
  pub last : Option PictureFields
  pub number : ℕ
  pub piece : Option PieceFacts

-- at the start of a stream: pieces are counted from 0
abbrev pub none_counted : CountedPieces
none_counted = record { sets = []; last = None; number = 0; piece = None }

-- behind the last slice header, or the first of all, one begins a primary coded picture (7.4.1.2.4)
abbrev pub begins_behind : (last : Option PictureFields) → Brought → Bool
begins_behind None (Slice h) = true
begins_behind (Some last) (Slice h) = begins_after last h
begins_behind last _ = false

-- the last slice header, behind what a unit brings
abbrev pub last_behind : (last : Option PictureFields) → Brought → Option PictureFields
last_behind last (Slice h) = Some (picture_fields h)
last_behind last _ = last

-- a piece with one picture more, as far as a u64 counts (this decoder's rule)
abbrev pub one_more_picture : PieceFacts → PieceFacts
one_more_picture p = record p { pictures = saturated (p.pictures + 1) }

-- where a picture begins; one before the first piece is in none
abbrev pub with_picture : (begins : Bool) → Option PieceFacts → Option PieceFacts
with_picture begins piece = if begins then option_map one_more_picture piece else piece

-- the piece of this number, of whose pictures none has come, which begins with this unit
abbrev pub new_piece : (number : ℕ) → Unit → PieceFacts
new_piece number u = record { piece = number; unit = u.index; first_byte = u.offset; pictures = 0 }

-- the piece in which a unit lies
abbrev pub piece_with : CountedPieces → Unit → Option PieceFacts
piece_with c u = if is_start u then Some (new_piece c.number u) else c.piece

-- the piece that is over where a unit comes, if one is
abbrev pub piece_over : CountedPieces → Unit → Option PieceFacts
piece_over c u = if is_start u then c.piece else None

-- the number of the next piece behind a unit, as far as a u64 counts (this decoder's rule)
abbrev pub number_behind : (number : ℕ) → Unit → ℕ
number_behind number u = if is_start u then saturated (number + 1) else number

-- what the next unit brings, under the parameter sets in force before it
abbrev pub brought_next : CountedPieces → Unit → Brought
brought_next c u = brought (sets_after c.sets) u

-- behind one unit more
abbrev pub counted : CountedPieces → Unit → CountedPieces
counted c u = record {
  sets = c.sets ++ set_units (u ∷ []);
  last = last_behind c.last (brought_next c u);
  number = number_behind c.number u;
  piece = with_picture (begins_behind c.last (brought_next c u)) (piece_with c u);
}

-- behind these units
abbrev pub counted_all : CountedPieces → List Unit → CountedPieces
counted_all c [] = c
counted_all c (u ∷ us) = counted_all (counted c u) us

-- ---- their lines

-- a line of a form, where there is a piece
abbrev pub line_of_piece : (form : PieceFacts → List ℕ) → Option PieceFacts → List ℕ
line_of_piece form None = []
line_of_piece form (Some p) = form p

-- the lines of the pieces that are over by these units
abbrev pub cut_point_lines : (form : PieceFacts → List ℕ) → CountedPieces → List Unit → List ℕ
cut_point_lines form c [] = []
cut_point_lines form c (u ∷ us) =
    line_of_piece form (piece_over c u) ++ cut_point_lines form (counted c u) us

-- that of the last piece, which is over at the end of the stream
abbrev pub last_line : (form : PieceFacts → List ℕ) → CountedPieces → (ended : Bool) → List ℕ
last_line form c ended = if ended then line_of_piece form c.piece else []

-- those of a stream of these units, or whose first ones these are
abbrev pub all_cut_point_lines : (form : PieceFacts → List ℕ) → List Unit → (ended : Bool) → List ℕ
all_cut_point_lines form us ended =
    cut_point_lines form none_counted us ++ last_line form (counted_all none_counted us) ended

-- those of the units whose end has been seen, whatever their length
abbrev pub cut_point_lines_so_far : (form : PieceFacts → List ℕ) → List ℕ → (ended : Bool) → List ℕ
cut_point_lines_so_far form bytes ended =
    all_cut_point_lines form (units (length bytes) bytes ended) ended

-- All units whose end has been seen were taken, and their pieces are counted.
pub record AreCounted (max : ℕ) (s : SplitterState) (ended : Bool)
    (c : CountedPieces) : Type 0 where
  pub drained : IsDrained max s
  pub end_is : ended ≡ s.ended
  pub counts_are : c ≡ counted_all none_counted (units max s.bytes s.ended)
