-- The least value below a number, and the samples of a macroblock.
use Rattle.std.proofs.Common.{◌≡◌, ℕ, ◌+◌, Bool, true, false, ◌&&◌, refl, sym, ap, ◌∙◌, add-one, append-nil, arith, List, [], ◌∷◌, ◌++◌}
use Rattle.std.specs.Prelude.{if◌then◌else◌, ◌==◌, Option, Some, None, slice_index}
use Rattle.std.proofs.lemmas.Bool.Decides.{nat_tests}
use Rattle.avc_difference.specs.Origin.{address_at, is_apart, least_below, lesser, pair_at, pairs_below}
use Rattle.avc_difference.specs.Places.{place_of}
use Rattle.avc_difference.specs.declared.origin.SamplePair.{SamplePair}
use Rattle.avc_difference.specs.declared.place.Place.{Place}
use Rattle.avc_difference.specs.declared.place.Shape.{Shape}

pub least_none : (is : ℕ → Bool) (value : ℕ → ℕ) → None ≡ least_below 0 is value
unfolding least_below
least_none is value = refl

least_more : (n : ℕ) (is : ℕ → Bool) (value : ℕ → ℕ) → least_below (n + 1) is value ≡ lesser (least_below n is value) (if is n then Some (value n) else None)
unfolding least_below
least_more n is value = rw add-one refl

pub least_with : (n v : ℕ) (b : Bool) (is : ℕ → Bool) (value : ℕ → ℕ) (least after : Option ℕ) → least ≡ least_below n is value → b ≡ is n → v ≡ value n
    → after ≡ lesser least (if b then Some v else None) → after ≡ least_below (n + 1) is value
least_with n v b is value least after before here is_value made =
    made ∙ ap (λ l. lesser l (if b then Some v else None)) before ∙ ap (λ w. lesser (least_below n is value) (if b then Some w else None)) is_value
    ∙ ap (λ t. lesser (least_below n is value) (if t then Some (value n) else None)) here ∙ sym (least_more n is value)

pub apart_with : (s : Shape) (n : ℕ) (b apart both : Bool) (differs : ℕ → Bool) (p : Place) → p ≡ place_of s n → b ≡ differs n → apart ≡ is_apart p
    → both ≡ (b && apart) → both ≡ (differs n && is_apart (place_of s n))
apart_with s n b apart both differs p at here is made =
    made ∙ ap (λ t. t && apart) here ∙ ap (λ t. differs n && t) (is ∙ ap (λ q. is_apart q) at)

pub pairs_none : (s : Shape) (ours theirs : List ℕ) (address : ℕ) → [] ≡ pairs_below 0 s ours theirs address
unfolding pairs_below
pairs_none s ours theirs address = refl

pub pairs_more : (n : ℕ) (s : Shape) (ours theirs : List ℕ) (address : ℕ) →
    pairs_below (n + 1) s ours theirs address ≡ pairs_below n s ours theirs address ++ (if address_at s n == address then pair_at s ours theirs n ∷ [] else [])
unfolding pairs_below
pairs_more n s ours theirs address = rw add-one refl

-- what is added where the sample at a place is of the macroblock, and where it is not
pub pair_there : (s : Shape) (ours theirs : List ℕ) (n address : ℕ) (stands : Place) (old new : List SamplePair) → stands ≡ place_of s n → stands.address ≡ address
    → new ≡ old ++ record { place = stands; ours = slice_index ours n; theirs = slice_index theirs n } ∷ []
    → new ≡ old ++ (if address_at s n == address then pair_at s ours theirs n ∷ [] else [])
pair_there s ours theirs n address stands old new at same is =
    let here : (address_at s n == address) ≡ true = ap (λ (p : Place). p.address == address) (sym at) ∙ grind (arith, nat_tests, same) in
    is ∙ ap (λ p. old ++ record { place = p; ours = slice_index ours n; theirs = slice_index theirs n } ∷ []) at
    ∙ ap (λ t. old ++ (if t then pair_at s ours theirs n ∷ [] else [])) (sym here)

pub pair_elsewhere : (s : Shape) (ours theirs : List ℕ) (n address : ℕ) (stands : Place) (old : List SamplePair) → stands ≡ place_of s n → (stands.address ≡ address → ⊥)
    → old ≡ old ++ (if address_at s n == address then pair_at s ours theirs n ∷ [] else [])
pair_elsewhere s ours theirs n address stands old at other =
    let there : (address_at s n == address) ≡ false = ap (λ (p : Place). p.address == address) (sym at) ∙ grind (arith, nat_tests, other) in
    sym (append-nil old) ∙ ap (λ t. old ++ (if t then pair_at s ours theirs n ∷ [] else [])) (sym there)
