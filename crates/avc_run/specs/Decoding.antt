-- What `decode` writes and reports.
use Rattle.std.specs.Prelude.{◌≡◌, ℕ, ◌≤◌, ◌^◌, Bool, true, false, List, length, take, Option}
use Rattle.std.specs.Prelude.{Result, Ok, Err}
use Rattle.std.specs.Io.KnownBytes.{Appends}
use Rattle.avc_decoder.specs.Output.{Output}
use Rattle.avc_decoder.specs.Events.{events}
use Rattle.avc_decoder.specs.SeenEvents.{Event}
use Rattle.avc_console.specs.Reading.{max_unit, HasRead, WritesFirst}
use Rattle.avc_console.specs.declared.fault.RunFault.{RunFault}
use Rattle.avc_console.specs.declared.fault.RunFault.TheVariants.{Read, Endless, Write, Memory}
use Rattle.avc_console.specs.declared.fault.RunFault.TheVariants.{Size}
use Rattle.avc_console.specs.declared.report.Report.{Report}
use Rattle.avc_events.specs.EventReports.{report_of, shown}

-- all that a whole stream defines
abbrev pub defined : Output → (bytes : List ℕ) → List Event
defined output bytes = events output max_unit bytes true

-- Some of these events have been handled, the first ones: the pictures among them are written, each
-- whole.
pub record WritesPictures (old new : Option (List ℕ)) (events : List Event) : Type 0 where
  pub count : ℕ
  pub within : count ≤ length events
  pub written : Appends old new (shown (take count events))

-- Of all bytes that the reader had, the defined pictures are written, and the report is on what
-- they define. After a read fault exactly the pictures are written that the bytes read so far
-- define, and also where there were more reads than a run may take, each of some bytes; after a
-- write fault fewer than all of their bytes, and after want of memory the first of these pictures.
-- No size is another one.
abbrev pub Decodes : Output → (unread left held holds : Option (List ℕ))
    → Result Report RunFault → Type 0
Decodes output unread left held holds (Ok report) =
    (bytes : List ℕ) × HasRead unread left bytes true
    × Appends held holds (shown (defined output bytes))
    × (report ≡ report_of (defined output bytes))
Decodes output unread left held holds (Err Read) =
    (bytes : List ℕ) × HasRead unread left bytes false
    × Appends held holds (shown (events output max_unit bytes false))
Decodes output unread left held holds (Err Endless) =
    (bytes : List ℕ) × HasRead unread left bytes false
    × Appends held holds (shown (events output max_unit bytes false)) × (2 ^ 32 ≤ length bytes)
Decodes output unread left held holds (Err Write) =
    (bytes : List ℕ) × (all : Bool) × HasRead unread left bytes all
    × WritesFirst held holds (shown (events output max_unit bytes all))
Decodes output unread left held holds (Err Memory) =
    (bytes : List ℕ) × (all : Bool) × HasRead unread left bytes all
    × WritesPictures held holds (events output max_unit bytes all)
Decodes output unread left held holds (Err Size) = ⊥
