-- The line that says how far decoding is.
use Rattle.std.specs.Prelude.{◌≡◌, ℕ, ◌+◌, ◌*◌, ◌/◌, ◌%◌, ◌-◌, min, nat_le, Bool, ◌==◌, ◌||◌}
use Rattle.std.specs.Prelude.{if◌then◌else◌, List, [], ◌∷◌, ◌++◌, length, Option, Some, None, codes}
use Rattle.std.specs.Fmt.{decimal}
use Rattle.avc_annexb.specs.Units.{saturated}
use Rattle.avc_console.specs.declared.reporter.Counts.{Counts}
use Rattle.avc_progress.specs.declared.progress.BytesRead.{BytesRead}
use Rattle.avc_progress.specs.Rates.{new_search, Looks}
use Rattle.avc_progress.specs.declared.progress_state.ProgressState.{ProgressState}

-- tenths, in decimal
abbrev pub tenths_text : ℕ → List ℕ
tenths_text n = decimal (n / 10) ++ codes "." ++ decimal (n % 10)

-- how many pictures there are, and how many refusals
abbrev pub counts_text : Counts → List ℕ
counts_text c = codes "pictures " ++ decimal c.pictures ++ codes ", refused " ++ decimal c.refused

-- pictures a second, rounded down to tenths, in so many milliseconds
abbrev pub speed_text : (pictures millis : ℕ) → List ℕ
speed_text pictures millis =
    if millis == 0 then []
    else codes ", " ++ tenths_text (10000 * pictures / millis) ++ codes " a second"

-- how many times as many pictures as the stream's frame rate brings in that time, of which it
-- brings so many millionths
abbrev pub times_by : (pictures due : ℕ) → List ℕ
times_by pictures due =
    if due == 0 then []
    else codes ", " ++ tenths_text (10000000 * pictures / due) ++ codes " times the frame rate"

-- the rate is in frames in a thousand seconds, where it is known
abbrev pub times_text : (pictures millis : ℕ) → (rate : Option ℕ) → List ℕ
times_text pictures millis None = []
times_text pictures millis (Some rate) = times_by pictures (millis * rate)

-- minutes and seconds
abbrev pub clock_text : (seconds : ℕ) → List ℕ
clock_text s = decimal (s / 60) ++ codes ":" ++ decimal (s % 60 / 10) ++ decimal (s % 10)

-- how long so many bytes that are left take, rounded down to seconds, if they are read as fast as
-- those before in so many milliseconds
abbrev pub left_text : (read rest millis : ℕ) → List ℕ
left_text read rest millis =
    if rest == 0 then []
    else codes ", " ++ clock_text (millis * rest / (1000 * read)) ++ codes " left"

-- how many hundredths of a file of so many bytes were read, rounded down, and how long the others
-- take
abbrev pub place_by : (read size millis : ℕ) → List ℕ
place_by read size millis =
    if read == 0 || size == 0 then []
    else codes ", " ++ decimal (100 * min read size / size) ++ codes "%"
    ++ left_text read (size - min read size) millis

-- where the size is known
abbrev pub place_if_known : (read millis : ℕ) → (size : Option ℕ) → List ℕ
place_if_known read millis None = []
place_if_known read millis (Some size) = place_by read size millis

abbrev pub place_text : BytesRead → (millis : ℕ) → List ℕ
place_text p millis = place_if_known p.read millis p.size

-- carriage return, with which a terminal begins the line again, and behind the text what erases the
-- rest of the line (EL of ECMA-48)
abbrev pub progress_line : Counts → BytesRead → (millis : ℕ) → (rate : Option ℕ) → List ℕ
progress_line c p millis rate =
    13 ∷ (counts_text c ++ speed_text c.pictures millis ++ times_text c.pictures millis rate
    ++ place_text p millis ++ 27 ∷ codes "[K")

-- ---- how far decoding is, and when that is told

-- before any event
abbrev pub no_counts : Counts
no_counts = record { pictures = 0; refused = 0 }

-- before any read
abbrev pub first_place : (size : Option ℕ) → BytesRead
first_place size = record { read = 0; size = size }

-- after a read of these bytes
abbrev pub place_after : BytesRead → (piece : List ℕ) → BytesRead
place_after p piece = record p { read = saturated (p.read + length piece) }

-- whole milliseconds
abbrev pub millis_in : (nanoseconds : ℕ) → ℕ
millis_in n = n / 1000000

-- A line is due a quarter of a second after the one before.
abbrev pub is_line_due : (before now : ℕ) → Bool
is_line_due before now = nat_le 250 (millis_in (now - before))

-- the line so many nanoseconds after the start
abbrev pub line_at : ProgressState → (nanoseconds : ℕ) → List ℕ
line_at s n = progress_line s.counts s.place (saturated (millis_in n)) s.rate.found

-- Before any read of an input of so many bytes, where that is known.
pub record IsFirst (size : Option ℕ) (s : ProgressState) : Type 0 where
  pub counts : s.counts ≡ no_counts
  pub place : s.place ≡ first_place size
  pub rate : s.rate ≡ new_search

-- After a read of these bytes, when the stream had come to this, where a line is wanted.
abbrev pub IsReadOn : (piece : List ℕ) → Counts → (old new : Option ProgressState) → Type 0
IsReadOn piece counts None new = new ≡ None
IsReadOn piece counts (Some s) None = ⊥
IsReadOn piece counts (Some s) (Some t) =
    (t.counts ≡ counts) × (t.place ≡ place_after s.place piece) ×
    Looks s.rate.searched piece s.rate t.rate

-- The same at the end of the run.
abbrev pub IsLast : Counts → (old new : Option ProgressState) → Type 0
IsLast counts None new = new ≡ None
IsLast counts (Some s) None = ⊥
IsLast counts (Some s) (Some t) = (t.counts ≡ counts) × (t.place ≡ s.place) × (t.rate ≡ s.rate)
