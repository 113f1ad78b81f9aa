-- The macroblock at which the difference of two pictures may begin, and its samples.
use Rattle.std.specs.Prelude.{ℕ, zero, suc, ◌-◌, ◌%◌, ◌==◌, min, nat_lt, Bool, ◌&&◌, if◌then◌else◌}
use Rattle.std.specs.Prelude.{List, [], ◌∷◌, ◌++◌, length, slice_index, Option, Some, None}
use Rattle.avc_plane.specs.Shown.{scaled}
use Rattle.avc_plane.specs.declared.component.Component.{Component}
use Rattle.avc_plane.specs.declared.component.Component.TheVariants.{Luma, Cb, Cr}
use Rattle.avc_difference.specs.Places.{place_of}
use Rattle.avc_difference.specs.declared.origin.SamplePair.{SamplePair}
use Rattle.avc_difference.specs.declared.place.Place.{Place}
use Rattle.avc_difference.specs.declared.place.Shape.{Shape}

-- the lesser of two numbers, where there are two
abbrev pub lesser : Option ℕ → Option ℕ → Option ℕ
lesser None b = b
lesser (Some a) None = Some a
lesser (Some a) (Some b) = Some (min a b)

-- the least value that a function has at the numbers below n that are such ones
unfoldable pub least_below : (n : ℕ) → (is : ℕ → Bool) → (value : ℕ → ℕ) → Option ℕ
least_below zero is value = None
least_below (suc n) is value =
    lesser (least_below n is value) (if is n then Some (value n) else None)

-- how many samples beside an edge its filter changes at most (8.7.2.3, 8.7.2.4)
abbrev pub filter_reach : Component → ℕ
filter_reach Luma = 3
filter_reach Cb = 1
filter_reach Cr = 1

-- No edge of a macroblock with a greater address reaches the sample in its column and row of its
-- macroblock: the edges on the right and below are theirs (8.7).
abbrev pub is_apart : Place → Bool
is_apart p =
    let size = scaled p.component 16 in
    nat_lt (p.coded_column % size) (size - filter_reach p.component)
    && nat_lt (p.coded_row % size) (size - filter_reach p.component)

-- the address of the macroblock of the sample at a place (6.4.1)
abbrev pub address_at : Shape → (place : ℕ) → ℕ
address_at s place = (place_of s place).address

-- the samples at this place differ, and no edge of a later macroblock reaches them
abbrev pub differs_apart : Shape → (differs : ℕ → Bool) → (place : ℕ) → Bool
differs_apart s differs place = differs place && is_apart (place_of s place)

-- the first of two, where there is one, and else the second
abbrev pub or_other : Option ℕ → Option ℕ → Option ℕ
or_other None b = b
or_other (Some a) b = Some a

-- The macroblock at which the difference may begin: the first that differs where no edge of a later
-- one reaches, since deblocking carries differences back there (8.7), or else the first that
-- differs.
abbrev pub origin_address : Shape → (count : ℕ) → (differs : ℕ → Bool) → Option ℕ
origin_address s count differs =
    or_other (least_below count (differs_apart s differs) (address_at s))
    (least_below count differs (address_at s))

-- the samples at a place
abbrev pub pair_at : Shape → (ours theirs : List ℕ) → (place : ℕ) → SamplePair
pair_at s ours theirs place = record {
  place = place_of s place;
  ours = slice_index ours place;
  theirs = slice_index theirs place;
}

-- those of a macroblock at the first n places
unfoldable pub pairs_below : (n : ℕ) → Shape → (ours theirs : List ℕ) → (address : ℕ) →
    List SamplePair
pairs_below zero s ours theirs address = []
pairs_below (suc n) s ours theirs address =
    pairs_below n s ours theirs address
    ++ (if address_at s n == address then pair_at s ours theirs n ∷ [] else [])

-- all that are shown of a macroblock, if there is one
abbrev pub pairs_of : Shape → (ours theirs : List ℕ) → Option ℕ → List SamplePair
pairs_of s ours theirs None = []
pairs_of s ours theirs (Some address) = pairs_below (length ours) s ours theirs address

-- those of the macroblock at which the difference may begin
abbrev pub origin_pairs : Shape → (differs : ℕ → Bool) → (ours theirs : List ℕ) → List SamplePair
origin_pairs s differs ours theirs = pairs_of s ours theirs (origin_address s (length ours) differs)
