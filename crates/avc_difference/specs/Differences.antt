-- Where two pictures of one shape differ, each as I420.
use Rattle.std.specs.Prelude.{◌≡◌, ℕ, ◌+◌, ◌-◌, ◌<◌, ◌==◌, max, min, nat_lt, zero, suc, Bool, true}
use Rattle.std.specs.Prelude.{false, ◌&&◌, ◌||◌, not, if◌then◌else◌}
use Rattle.std.specs.Prelude.{List, length, slice_index, slice_index_or, count_by}
use Rattle.avc_plane.specs.declared.component.Component.{Component}
use Rattle.avc_plane.specs.declared.component.Component.TheVariants.{Luma, Cb, Cr}
use Rattle.avc_difference.specs.Origin.{origin_pairs}
use Rattle.avc_difference.specs.Places.{macroblocks, place_of}
use Rattle.avc_difference.specs.declared.difference.Difference.{Difference}
use Rattle.avc_difference.specs.declared.marks.Mark.{Mark}
use Rattle.avc_difference.specs.declared.place.Place.{Place}
use Rattle.avc_difference.specs.declared.place.Shape.{Shape}

-- some number below n is such a one
unfoldable pub any_below : (n : ℕ) → (ℕ → Bool) → Bool
any_below zero is = false
any_below (suc n) is = any_below n is || is n

-- how many numbers below n are such ones
unfoldable pub count_below : (n : ℕ) → (ℕ → Bool) → ℕ
count_below zero is = 0
count_below (suc n) is = count_below n is + (if is n then 1 else 0)

-- two samples are further apart than so much
abbrev pub differs : (most ours theirs : ℕ) → Bool
differs most ours theirs = nat_lt most (max ours theirs - min ours theirs)

-- the samples at this place
abbrev pub differs_at : (most : ℕ) → (ours theirs : List ℕ) → (place : ℕ) → Bool
differs_at most ours theirs place = differs most (slice_index ours place) (slice_index theirs place)

-- No samples differ.
abbrev pub AreSame : (most : ℕ) → (ours theirs : List ℕ) → Type 0
AreSame most ours theirs = (k : ℕ) → k < length ours → differs_at most ours theirs k ≡ false

-- The samples at this place differ, and none before it.
pub record IsFirst (most : ℕ) (ours theirs : List ℕ) (place : ℕ) : Type 0 where
  pub inside : place < length ours
  pub here : differs_at most ours theirs place ≡ true
  pub before : (k : ℕ) → k < place → differs_at most ours theirs k ≡ false

-- it is the luma component
abbrev pub is_luma : Component → Bool
is_luma Luma = true
is_luma Cb = false
is_luma Cr = false

-- The samples at this place differ, they are luma samples, and they are of the macroblock with this
-- address (6.4.1).
abbrev pub differs_in_luma : Shape → (most : ℕ) → (ours theirs : List ℕ) → (address place : ℕ) →
    Bool
differs_in_luma s most ours theirs address place =
    differs_at most ours theirs place
    && (is_luma (place_of s place).component && (place_of s place).address == address)

-- the same of chroma samples
abbrev pub differs_in_chroma : Shape → (most : ℕ) → (ours theirs : List ℕ) → (address place : ℕ) →
    Bool
differs_in_chroma s most ours theirs address place =
    differs_at most ours theirs place
    && (not (is_luma (place_of s place).component) && (place_of s place).address == address)

-- nothing differs
abbrev pub no_mark : Mark
no_mark = record { luma = false; chroma = false }

-- The mark of each macroblock says whether some of its first n samples differ: of luma, and of
-- chroma.
pub record AreMarks (s : Shape) (most : ℕ) (ours theirs : List ℕ) (n : ℕ)
    (marks : List Mark) : Type 0 where
  pub luma : (address : ℕ) → address < length marks
      → (slice_index_or marks address no_mark).luma
      ≡ any_below n (differs_in_luma s most ours theirs address)
  pub chroma : (address : ℕ) → address < length marks
      → (slice_index_or marks address no_mark).chroma
      ≡ any_below n (differs_in_chroma s most ours theirs address)

-- a mark with this component
abbrev pub with_component : Component → Mark → Mark
with_component Luma m = record { luma = true; chroma = m.chroma }
with_component Cb m = record { luma = m.luma; chroma = true }
with_component Cr m = record { luma = m.luma; chroma = true }

-- what becomes of the mark of a macroblock where the sample at this place differs
abbrev pub mark_after : Place → (address : ℕ) → Mark → Mark
mark_after place address m =
    if place.address == address then with_component place.component m else m

-- something differs in the macroblock
abbrev pub is_marked : Mark → Bool
is_marked m = m.luma || m.chroma

-- What is told of two pictures that differ.
pub record IsDifference (s : Shape) (most : ℕ) (ours theirs : List ℕ)
    (d : Difference) : Type 0 where
  pub at : ℕ
  pub first : IsFirst most ours theirs at
  pub place : d.place ≡ place_of s at
  pub ours_is : d.ours ≡ slice_index ours at
  pub theirs_is : d.theirs ≡ slice_index theirs at
  pub samples : d.samples ≡ count_below (length ours) (differs_at most ours theirs)
  pub all_samples : d.all_samples ≡ length ours
  pub marked : length d.marks.items ≡ macroblocks s
  pub marks : AreMarks s most ours theirs (length ours) d.marks.items
  pub macroblocks_are : d.macroblocks ≡ count_by is_marked d.marks.items
  pub origin_is : d.origin.items ≡ origin_pairs s (differs_at most ours theirs) ours theirs
