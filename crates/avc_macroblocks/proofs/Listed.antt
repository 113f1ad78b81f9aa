-- A stream is read to its end.
use Rattle.std.proofs.Common.{◌≡◌, ◌<◌, ◌^◌, ℕ, Bool, true, false, List, length, Option, Some, None, Result, Ok, Err, IsErrAnd, is_some, refl, ap, sym, ◌∙◌, subst, arith}
use Rattle.std.proofs.Math.Seq.{take-length}
use Rattle.std.specs.Io.KnownBytes.{Appends}
use Rattle.avc_tools.specs.Streams.{new_stream}
use Rattle.avc_console.specs.Listing.{Lists}
use Rattle.avc_console.specs.Reading.{HasRead}
use Rattle.avc_console.specs.StreamWriting.{IsWhole}
use Rattle.avc_console.specs.declared.fault.RunFault.{RunFault}
use Rattle.avc_console.specs.declared.fault.RunFault.TheVariants.{Memory}
use Rattle.avc_selection.specs.Forms.{Form}
use Rattle.avc_selection.specs.Selected.{selection_of}
use Rattle.avc_selection.specs.declared.selection.AtMacroblock.{AtMacroblock}
use Rattle.avc_selection.specs.declared.selection.Selection.{Selection}
use Rattle.avc_selection.specs.declared.selection.Selection.TheVariants.{Near}
use Rattle.avc_reading.proofs.NeverMet.{never_met}
use Rattle.avc_reading.proofs.Read.{text_again}
use Rattle.avc_reading.specs.Asked.{Asked, addresses, selection_of_text, text_number}
use Rattle.avc_reading.specs.Listing.{ListedSoFar, has_met, has_picture, lines_so_far}
use Rattle.avc_reading.specs.Reading.{IsInRange, asked_in}
use Rattle.avc_reading.specs.declared.position.MacroblockPosition.{MacroblockPosition}
use Rattle.avc_macroblocks.specs.Lines.{for_people}
use Rattle.avc_macroblocks.specs.Program.{ListsAsked, ListsNear}

counted_range : (picture : Option ℕ) → IsInRange (selection_of picture)
counted_range None = tt
counted_range (Some number) = tt

whole : (ended : Bool) → (ended ≡ false → false ≡ true) → ended ≡ true
whole true over = refl
whole false over = over refl

-- the listing that has the text of this number
asked_of : Form → (text_number : ℕ) → Asked
asked_of form number = record { form = form; selection = selection_of_text number }

first_selection : (s : Selection) (new : ListedSoFar) → new ≡ record { selection = s; stream = new_stream } → IsInRange s → selection_of_text (text_number new.selection) ≡ s
first_selection s new is range = ap (λ (l : ListedSoFar). selection_of_text (text_number l.selection)) is ∙ text_again s range

pub listed_asked : (form : Form) (picture : Option ℕ) (s : Selection) (new now : ListedSoFar) (unread left held holds : Option (List ℕ)) (found : Bool) → s ≡ selection_of picture → new ≡ record { selection = s; stream = new_stream }
    → text_number now.selection ≡ text_number new.selection
    → IsWhole (lines_so_far (record { form = form; selection = selection_of_text (text_number new.selection) })) (has_met (selection_of_text (text_number new.selection))) now.stream unread left held holds
    → (now.stream.failed ≡ false → IsInRange now.selection)
    → (now.stream.failed ≡ false → length now.stream.bytes < 2 ^ 64 → found ≡ has_picture now.selection now.stream.bytes now.stream.ended)
    → ListsAsked (asked_in form (selection_of picture)) unread left held holds (Ok found)
listed_asked form picture selection new now unread left held holds found of is kept all range tells =
    let s = now.stream in
    let asked = selection_of picture in
    let read = first_selection asked new (is ∙ ap (λ x. record { selection = x; stream = new_stream }) of) (counted_range picture) in
    let ended = whole s.ended (λ open_end. sym (ap (λ x. has_met x s.bytes false) read ∙ never_met picture s.bytes false) ∙ all.is_over open_end) in
    let same : now.selection ≡ asked = sym (text_again now.selection (range all.going)) ∙ ap selection_of_text kept ∙ read in (
      s.bytes,
      subst (HasRead unread left s.bytes) ended all.has_read,
      subst (λ x. Appends held holds (lines_so_far (asked_in form x) s.bytes true)) read
          (subst (λ e. Appends held holds (lines_so_far (asked_in form (selection_of_text (text_number new.selection))) s.bytes e)) ended all.written),
      tells all.going all.short ∙ ap (λ x. has_picture x s.bytes s.ended) same ∙ ap (λ e. has_picture asked s.bytes e) ended,
    )

pub listed_near : (m : AtMacroblock) (new now : ListedSoFar) (unread left held holds : Option (List ℕ)) (position : Option MacroblockPosition) → m.address < addresses
    → new ≡ record { selection = Near m; stream = new_stream } → text_number now.selection ≡ text_number new.selection
    → IsWhole (lines_so_far (record { form = for_people false; selection = selection_of_text (text_number new.selection) })) (has_met (selection_of_text (text_number new.selection))) now.stream unread left held holds
    → (now.stream.failed ≡ false → IsInRange now.selection)
    → (now.stream.failed ≡ false → length now.stream.bytes < 2 ^ 64 → is_some position ≡ has_met now.selection now.stream.bytes now.stream.ended)
    → ListsNear m unread left held holds (Ok position)
listed_near m new now unread left held holds position low is kept all range tells =
    let s = now.stream in
    let read = first_selection (Near m) new is low in
    let same : now.selection ≡ Near m = sym (text_again now.selection (range all.going)) ∙ ap selection_of_text kept ∙ read in
    let met : is_some position ≡ has_met (Near m) s.bytes s.ended = tells all.going all.short ∙ ap (λ x. has_met x s.bytes s.ended) same in (
      s.bytes,
      s.ended,
      all.has_read,
      subst (λ x. Appends held holds (lines_so_far (asked_in (for_people false) x) s.bytes s.ended)) read all.written,
      met,
      λ open_end. met ∙ ap (λ e. has_met (Near m) s.bytes e) open_end ∙ sym (ap (λ x. has_met x s.bytes false) read) ∙ all.is_over open_end,
    )

-- after a fault
pub unlisted : (form : Form) (s : Selection) (new : ListedSoFar) (unread left held holds : Option (List ℕ)) (fault : RunFault) → IsInRange s → new ≡ record { selection = s; stream = new_stream }
    → Lists (lines_so_far (record { form = form; selection = selection_of_text (text_number new.selection) })) unread left held holds (Err fault)
    → Lists (lines_so_far (asked_in form s)) unread left held holds (Err fault)
unlisted form s new unread left held holds fault range is run =
    subst (λ x. Lists (lines_so_far (record { form = form; selection = x })) unread left held holds (Err fault)) (first_selection s new is range) run

pub unlisted_counted : (form : Form) (picture : Option ℕ) (s : Selection) (new : ListedSoFar) (unread left held holds : Option (List ℕ)) (fault : RunFault) → s ≡ selection_of picture
    → new ≡ record { selection = s; stream = new_stream }
    → Lists (lines_so_far (record { form = form; selection = selection_of_text (text_number new.selection) })) unread left held holds (Err fault)
    → ListsAsked (asked_in form (selection_of picture)) unread left held holds (Err fault)
unlisted_counted form picture s new unread left held holds fault of is run =
    unlisted form (selection_of picture) new unread left held holds fault (counted_range picture) (is ∙ ap (λ x. record { selection = x; stream = new_stream }) of) run

-- an error that is this one
pub by_fault : {A : Type 0} (r : Result A RunFault) (f : RunFault) (P : Result A RunFault → Type 0) → IsErrAnd r (λ e. e ≡ f) → P (Err f) → P r
by_fault (Ok a) f P is p = absurd is
by_fault (Err fault) f P is p = subst (λ e. P (Err e)) (sym is) p

-- no memory is found to tell how a listing ended
pub untold : (a : Asked) (unread left held holds : Option (List ℕ)) (found : Bool) → ListsAsked a unread left held holds (Ok found) → ListsAsked a unread left held holds (Err Memory)
untold a unread left held holds found run =
    let text = lines_so_far a run.0 true in (
      run.0,
      true,
      run.1,
      record { count = length text; within = omega arith; written = subst (Appends held holds) (sym (take-length text)) run.2 },
    )
