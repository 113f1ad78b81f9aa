-- What the command `macroblocks` writes and answers.
use Rattle.std.specs.Prelude.{◌≡◌, Bool, true, false, if◌then◌else◌, List, [], ◌++◌, codes, ℕ}
use Rattle.std.specs.Prelude.{Option, Some, None, is_some, Result, Ok, Err}
use Rattle.std.specs.Fmt.{decimal}
use Rattle.std.specs.Io.KnownBytes.{Appends}
use Rattle.avc_tools.specs.Lines.{newline}
use Rattle.avc_console.specs.Listing.{Lists}
use Rattle.avc_console.specs.Messages.{fault_line}
use Rattle.avc_console.specs.Reading.{HasRead}
use Rattle.avc_console.specs.Status.{fault_status}
use Rattle.avc_console.specs.Telling.{Tells}
use Rattle.avc_console.specs.declared.console.Names.{Names}
use Rattle.avc_console.specs.declared.exit.Ending.{Ending}
use Rattle.avc_console.specs.declared.fault.RunFault.{RunFault}
use Rattle.avc_selection.specs.declared.selection.AtMacroblock.{AtMacroblock}
use Rattle.avc_selection.specs.declared.selection.Selection.TheVariants.{Near}
use Rattle.avc_reading.specs.Asked.{Asked}
use Rattle.avc_reading.specs.Listing.{has_met, has_picture, lines_so_far}
use Rattle.avc_reading.specs.declared.position.MacroblockPosition.{MacroblockPosition}
use Rattle.avc_macroblocks.specs.Listed.{asked_by, asked_near}
use Rattle.avc_macroblocks.specs.declared.listing.MacroblockListing.{MacroblockListing}

-- The lines that are asked for of all bytes that the reader had are written, and whether there is
-- the picture that is asked for is answered. After a fault the same is written as in `units`.
abbrev pub ListsAsked : Asked → (unread left held holds : Option (List ℕ)) → Result Bool RunFault →
    Type 0
ListsAsked a unread left held holds (Ok found) =
    (bytes : List ℕ) × HasRead unread left bytes true ×
    Appends held holds (lines_so_far a bytes true) ×
    (found ≡ has_picture a.selection bytes true)
ListsAsked a unread left held holds (Err fault) =
    Lists (lines_so_far a) unread left held holds (Err fault)

-- the same of a listing
abbrev pub ListsMacroblocks : MacroblockListing → (unread left held holds : Option (List ℕ)) →
    Result Bool RunFault → Type 0
ListsMacroblocks l = ListsAsked (asked_by l)

-- The lines of a macroblock and its neighbours are written of all bytes that the reader had, or of
-- so many that it has come, and where it stands is answered, if it came. After a fault the same is
-- written as in `units`.
abbrev pub ListsNear : AtMacroblock → (unread left held holds : Option (List ℕ)) →
    Result (Option MacroblockPosition) RunFault → Type 0
ListsNear m unread left held holds (Ok position) =
    (bytes : List ℕ) × (all : Bool) × HasRead unread left bytes all ×
    Appends held holds (lines_so_far (asked_near m) bytes all)
    × (is_some position ≡ has_met (Near m) bytes all) × (all ≡ false → is_some position ≡ true)
ListsNear m unread left held holds (Err fault) =
    Lists (lines_so_far (asked_near m)) unread left held holds (Err fault)

-- ---- how the command ends

-- where the picture that is asked for begins, or never does
abbrev pub absence_text : (picture : Option ℕ) → (found : Bool) → List ℕ
absence_text picture true = []
absence_text None false = []
absence_text (Some number) false = codes "avcdec: no picture " ++ decimal number ++ newline

-- 1 where it never does
abbrev pub listing_status : (found : Bool) → ℕ
listing_status found = if found then 0 else 1

-- after a run that came to this
abbrev pub status_after : Result Bool RunFault → ℕ
status_after (Ok found) = listing_status found
status_after (Err fault) = fault_status fault

-- what is then told on the standard error
abbrev pub text_after : Names → (picture : Option ℕ) → Result Bool RunFault → List ℕ
text_after names picture (Ok found) = absence_text picture found
text_after names picture (Err fault) = fault_line names fault

-- What is asked for was listed, and the exit status and what is told are those of the run.
pub record EndsMacroblocks (names : Names) (listing : MacroblockListing)
    (unread left held holds before now : Option (List ℕ)) (ending : Ending) : Type 0 where
  pub run : Result Bool RunFault
  pub lists : ListsMacroblocks listing unread left held holds run
  pub status_is : ending.status ≡ status_after run
  pub told : Tells before now (text_after names listing.picture run) ending.told
