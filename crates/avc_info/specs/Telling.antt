-- How a command ends that tells something of a stream, in each wording.
use Rattle.std.specs.Prelude.{ℕ, Bool, List, Option}
use Rattle.avc_request.specs.declared.request.MacroblockChoice.{MacroblockChoice}
use Rattle.avc_request.specs.declared.request.Subject.{Subject}
use Rattle.avc_request.specs.declared.request.Subject.TheVariants.{Headers, Info, Macroblocks}
use Rattle.avc_request.specs.declared.request.Subject.TheVariants.{Pieces, Units}
use Rattle.avc_request.specs.declared.request.Wording.{Wording}
use Rattle.avc_request.specs.declared.request.Wording.TheVariants.{Json, Plain}
use Rattle.avc_console.specs.Program.{EndsListing}
use Rattle.avc_console.specs.declared.console.Names.{Names}
use Rattle.avc_console.specs.declared.exit.Ending.{Ending}
use Rattle.avc_tools.specs.CutPoints.{cut_point_line, cut_point_lines_so_far}
use Rattle.avc_tools.specs.Lines.{header_line, header_lines_so_far, unit_line, unit_lines_so_far}
use Rattle.avc_info.specs.Info.{info_so_far}
use Rattle.avc_info.specs.Json.{json_line}
use Rattle.avc_info.specs.ListingJson.{header_json, piece_json, unit_json}
use Rattle.avc_info.specs.PictureText.{info_text}

-- what is written of a stream so far
abbrev Text : Type 0
Text = List ℕ → (ended : Bool) → List ℕ

-- How a listing of these macroblocks ends.
abbrev pub ListingEnding : Type 1
ListingEnding =
    MacroblockChoice → Names → (unread left held holds before now : Option (List ℕ)) → Ending
    → Type 0

-- One of four texts is written, or the macroblocks that are asked for are listed: what this subject
-- wants.
abbrev pub EndsTellingOf : Subject → (of_units of_headers of_pieces of_all : Text)
    → (EndsMacroblocks : ListingEnding) → Names
    → (unread left held holds before now : Option (List ℕ)) → Ending → Type 0
EndsTellingOf Units of_units of_headers of_pieces of_all EndsMacroblocks names =
    EndsListing names of_units
EndsTellingOf Headers of_units of_headers of_pieces of_all EndsMacroblocks names =
    EndsListing names of_headers
EndsTellingOf Pieces of_units of_headers of_pieces of_all EndsMacroblocks names =
    EndsListing names of_pieces
EndsTellingOf (Macroblocks choice) of_units of_headers of_pieces of_all EndsMacroblocks names =
    EndsMacroblocks choice names
EndsTellingOf Info of_units of_headers of_pieces of_all EndsMacroblocks names =
    EndsListing names of_all

-- in a wording
abbrev pub EndsTelling : (EndsMacroblocks : Wording → ListingEnding) → Wording → Subject → Names
    → (unread left held holds before now : Option (List ℕ)) → Ending → Type 0
EndsTelling EndsMacroblocks Plain subject =
    EndsTellingOf subject (unit_lines_so_far unit_line) (header_lines_so_far header_line)
    (cut_point_lines_so_far cut_point_line) (info_so_far info_text) (EndsMacroblocks Plain)
EndsTelling EndsMacroblocks Json subject =
    EndsTellingOf subject (unit_lines_so_far unit_json) (header_lines_so_far header_json)
    (cut_point_lines_so_far piece_json) (info_so_far json_line) (EndsMacroblocks Json)
