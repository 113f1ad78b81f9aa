-- How a command ends that was asked for: which pictures of a stream become what, or what is told of
-- it.
use Rattle.std.specs.Prelude.{◌≡◌, ◌⊎◌, ℕ, Bool, true, false, List, Option, None}
use Rattle.std.specs.Borrow.{Bor}
use Rattle.avc_request.specs.Commands.{mode_of}
use Rattle.avc_request.specs.declared.request.Comparing.{Comparing}
use Rattle.avc_request.specs.declared.request.Form.TheVariants as forms
use Rattle.avc_request.specs.declared.request.MacroblockChoice.{MacroblockChoice}
use Rattle.avc_request.specs.declared.request.Task.{Task}
use Rattle.avc_request.specs.declared.request.Task.TheVariants as tasks
use Rattle.avc_request.specs.declared.request.Wording.{Wording}
use Rattle.avc_request.specs.declared.request.Wording.TheVariants.{Json, Plain}
use Rattle.avc_console.specs.Messages.{fault_line}
use Rattle.avc_console.specs.Program.{EndsCutting}
use Rattle.avc_console.specs.Status.{fault_status}
use Rattle.avc_console.specs.Telling.{Tells}
use Rattle.avc_console.specs.declared.console.Names.{Names}
use Rattle.avc_console.specs.declared.exit.Ending.{Ending}
use Rattle.avc_console.specs.declared.fault.RunFault.TheVariants.{Read}
use Rattle.avc_macroblocks.specs.Program.{EndsMacroblocks}
use Rattle.avc_macroblocks.specs.declared.listing.MacroblockListing.{MacroblockListing}
use Rattle.avc_formats.specs.Formats.{plain}
use Rattle.avc_run.specs.Program.{EndsDecodingAs}
use Rattle.avc_run.specs.Showing.{drawing_of, EndsShowing}
use Rattle.avc_info.specs.Telling.{EndsTelling, ListingEnding}
use Rattle.avc_compare.specs.Told.{EndsComparing}
use Rattle.avc_compare.specs.declared.comparison.Comparison.{Comparison}
use Rattle.avc_compare.specs.declared.verdict.PictureSize.{PictureSize}

-- ---- what is told of a stream

-- it is told in JSON
abbrev is_json : Wording → Bool
is_json Plain = false
is_json Json = true

-- what is asked of a listing of macroblocks
abbrev pub listing_of : MacroblockChoice → Wording → MacroblockListing
listing_of choice wording = record {
  is_json = is_json wording;
  has_coefficients = choice.has_coefficients;
  picture = choice.picture;
}

-- the macroblocks that are asked for are listed
abbrev pub ends_listing : Wording → ListingEnding
ends_listing wording choice names = EndsMacroblocks names (listing_of choice wording)

-- ---- comparing

-- The other's file can't be opened, or not what it begins with be read: that is told.
pub record IsNotRead (other : Option (Bor (List ℕ))) (before now : Option (List ℕ))
    (ending : Ending) : Type 0 where
  pub status_is : ending.status ≡ fault_status Read
  pub told : Tells before now (fault_line (record { input = other; output = None }) Read)
      ending.told

-- How pictures are compared, all of them and as they go out by default, where the other's have this
-- size, if that is known.
abbrev pub comparison_of : Comparing → Option PictureSize → Comparison
comparison_of how size = record {
  output = mode_of false;
  most = how.most;
  has_psnr = how.has_psnr;
  size = size;
}

-- What stands behind a comparison that ended so, where it is explained, is told by code that is
-- tested alone; else there is nothing.
abbrev pub IsExplained : (explained : Bool) → (wrote holds told now : Option (List ℕ)) →
    (compared ending : Ending) → Type 0
IsExplained false wrote holds told now compared ending =
    (holds ≡ wrote) × (now ≡ told) × (ending ≡ compared)
IsExplained true wrote holds told now compared ending = Unit {0}

-- The pictures were compared with those of the other's file, with the size that it says, if it says
-- one (that is read by code that is tested alone), and that is explained; or that file can't be
-- read, and nothing is written.
abbrev pub EndsComparingFile : Names → (other : Option (Bor (List ℕ))) → (explained : Bool) →
    Comparing → (unread left held holds before now : Option (List ℕ)) → Ending → Type 0
EndsComparingFile names other explained how unread left held holds before now ending =
    ((size : Option PictureSize) × (wrote told : Option (List ℕ)) × (compared : Ending)
    × EndsComparing names other explained (comparison_of how size) unread left None None held wrote
    before told compared
    × IsExplained explained wrote holds told now compared ending)
    ⊎ ((holds ≡ held) × IsNotRead other before now ending)

-- ---- all of them

-- A task ended so, where the pictures have a file each or not.
abbrev pub EndsTask : Task → (other : Option (Bor (List ℕ))) → (is_each_alone : Bool) → Names →
    (explained : Bool) → (unread left held holds before now : Option (List ℕ)) → Ending → Type 0
EndsTask (tasks.Decode mode) other alone names explained unread left held holds before now ending =
    EndsDecodingAs names explained plain mode unread left held holds before now ending
EndsTask (tasks.Check mode) other alone names explained unread left held holds before now ending =
    (holds ≡ held) ×
    EndsDecodingAs names explained plain mode unread left None None before now ending
EndsTask (tasks.Show s) other alone names explained unread left held holds before now ending =
    EndsShowing s.form s alone names explained unread left held holds before now ending
EndsTask (tasks.Tell subject wording) other alone names explained unread left held holds before now
    ending =
    EndsTelling ends_listing wording subject names unread left held holds before now ending
EndsTask (tasks.Cut number) other alone names explained unread left held holds before now ending =
    EndsCutting names number unread left held holds before now ending
EndsTask (tasks.Draw number) other alone names explained unread left held holds before now ending =
    EndsShowing forms.Png (drawing_of number) true names explained unread left held holds before now
    ending
EndsTask (tasks.Compare how) other alone names explained unread left held holds before now ending =
    EndsComparingFile names other explained how unread left held holds before now ending
