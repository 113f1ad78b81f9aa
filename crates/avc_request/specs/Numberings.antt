-- The names of one file a picture.
use Rattle.std.specs.Prelude.{◌≡◌, ℕ, ◌-◌, ◌<◌, ◌==◌, Bool, List, [], ◌∷◌, ◌++◌, length, replicate}
use Rattle.std.specs.Prelude.{slice_get, Option, Some, None, codes}
use Rattle.std.specs.Fmt.{decimal}
use Rattle.std.specs.Borrow.{Bor}
use Rattle.std.specs.List.{Contains, after_first, before_first, position_or_len}
use Rattle.avc_request.specs.declared.numbered.Naming.{Naming}
use Rattle.avc_request.specs.declared.numbered.Naming.TheVariants as namings
use Rattle.avc_request.specs.declared.numbered.Numbered.{Numbered}

-- what stands between % and d, for 0 to 9 digits at least
abbrev pub width_words : List (List ℕ)
width_words =
    codes "" ∷ codes "01" ∷ codes "02" ∷ codes "03" ∷ codes "04" ∷ codes "05" ∷ codes "06" ∷ codes
    "07" ∷ codes "08" ∷ codes "09" ∷ []

-- The word stands for so many digits at least, or for none.
abbrev pub IsWidth : (word : List ℕ) → Option ℕ → Type 0
IsWidth word (Some digits) = slice_get width_words digits ≡ Some word
IsWidth word None = Contains width_words word → ⊥

-- the percent sign, and the d behind it
abbrev pub is_percent : ℕ → Bool
is_percent b = b == 37

abbrev pub is_d : ℕ → Bool
is_d b = b == 100

-- What a name stands for, by what is in front of its first % and behind it: for one file a picture
-- where a width and d come next, and the number stands in their place.
abbrev pub IsNumbering : (front behind : List ℕ) → Naming → Type 0
IsNumbering front behind namings.Plain = ⊥
IsNumbering front behind (namings.Numbered n) =
    ((n.front).now ≡ front) × IsWidth (before_first is_d behind) (Some n.digits) ×
    ((n.rest).now ≡ after_first is_d behind)
IsNumbering front behind namings.Wrong = Unit {0}

-- One without % stands for one file.
abbrev pub IsNaming : (name : List ℕ) → Naming → Type 0
IsNaming name namings.Plain = position_or_len is_percent name ≡ length name
IsNaming name (namings.Numbered n) =
    IsNumbering (before_first is_percent name) (after_first is_percent name) (namings.Numbered n)
IsNaming name namings.Wrong = position_or_len is_percent name < length name

-- zeros in front of a number that has fewer digits
abbrev pub zeros_before : (digits number : ℕ) → List ℕ
zeros_before digits number = replicate (digits - length (decimal number)) 48

-- the name of the file for the picture of this number
abbrev pub file_name : Numbered → (number : ℕ) → List ℕ
file_name n number =
    (n.front).now ++ (zeros_before n.digits number ++ (decimal number ++ (n.rest).now))

-- The word names this file, unless it is that of the standard input or output, or there is none.
abbrev pub IsFileNamed : (word file : Option (Bor (List ℕ))) → Type 0
IsFileNamed None file = file ≡ None
IsFileNamed (Some w) None = w.now ≡ codes "-"
IsFileNamed (Some w) (Some f) = (f ≡ w) × (w.now ≡ codes "-" → ⊥)
