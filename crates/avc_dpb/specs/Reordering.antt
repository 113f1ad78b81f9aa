-- How far pictures are reordered for output (E.2.1), and what follows for early output.
use Rattle.std.specs.Prelude.{◌≡◌, ◌⊎◌, ℕ, ◌≤◌, ◌==◌, nat_le, nat_lt, ◌&&◌, true, false}
use Rattle.std.specs.Prelude.{if◌then◌else◌, IfSome, Option, None, List, [], ◌∷◌, length, count_by}
use Rattle.std.specs.List.{list_any}
use Rattle.avc_dpb.specs.declared.output.Output.{Output}
use Rattle.avc_dpb.specs.declared.output.Output.TheVariants.{Full, Early}
use Rattle.avc_dpb.specs.Bumping.{remain, are_output, Arrival, with_all_output, buffer_after}

-- ---- max_num_reorder_frames (E.2.1)

-- the decoding indices of all pictures of a history, in the order in which they go out in the end
-- (C.4)
abbrev pub whole_output : Output → List Arrival → List ℕ
whole_output output history = (with_all_output (buffer_after output history)).out

-- those that stand after this one
abbrev pub indices_after : (index : ℕ) → List ℕ → List ℕ
indices_after index [] = []
indices_after index (p ∷ indices) = if p == index then indices else indices_after index indices

-- How many pictures from the decoding index `first` on are decoded before the one at `index` and go
-- out after it, where they go out in this order (E.2.1).
abbrev pub reordered : (first index : ℕ) → (order : List ℕ) → ℕ
reordered first index order =
    count_by (λ p. nat_le first p && nat_lt p index) (indices_after index order)

-- ---- early output

-- the decoding index of the last entry with which the pictures before went out (C.4.4)
abbrev pub last_emptying : List Arrival → ℕ
last_emptying [] = 0
last_emptying (a ∷ older) =
    elim a.prior_pictures [
      | remain ↦ last_emptying older
      | are_output ↦ length older
    ]

-- how many pictures may stay needed for output after these entries: non-existing frames set no
-- limit
abbrev pub limit_after : List Arrival → Option ℕ
limit_after [] = None
limit_after (a ∷ older) = if a.existing then a.max_num_reorder_frames else limit_after older

-- the reference frames after these entries
abbrev pub references_after : List Arrival → List ℕ
references_after [] = []
references_after (a ∷ older) = a.references

-- An entry after these others. `within` is what a stream owes that respects its number of reordered
-- pictures (E.2.1): of its pictures no more go out late than may, in this order; the rest holds of
-- the entries of every decoding.
pub record CanGoOutEarly (order : List ℕ) (a : Arrival) (older : List Arrival) : Type 0 where
  -- It adds no reference frame but its own (8.2.5).
  pub references : (r : ℕ) → list_any (λ p. p == r) a.references ≡ true →
      (r ≡ length older) ⊎ (list_any (λ p. p == r) (references_after older) ≡ true)
  -- A non-existing frame is a reference frame, and sets no limit (8.2.5.2).
  pub non_existing : a.existing ≡ false → list_any (λ p. p == length older) a.references ≡ true
  pub no_limit : a.existing ≡ false → a.max_num_reorder_frames ≡ None
  -- All pictures have one limit.
  pub limit : a.existing ≡ true → (older ≡ []) ⊎ (a.max_num_reorder_frames ≡ limit_after older)
  pub within : a.existing ≡ true →
      IfSome a.max_num_reorder_frames
      (λ most. reordered (last_emptying (a ∷ older)) (length older) order ≤ most)

-- each of the entries
abbrev pub AllCanGoOutEarly : (order : List ℕ) → List Arrival → Type 0
AllCanGoOutEarly order [] = Unit {0}
AllCanGoOutEarly order (a ∷ older) = CanGoOutEarly order a older × AllCanGoOutEarly order older

-- Where the reordering of pictures stays within its limits, early output hands them out in the
-- order of full output.
abbrev pub EarlyOutputKeepsTheOrder : Type 0
EarlyOutputKeepsTheOrder =
    (history : List Arrival) → AllCanGoOutEarly (whole_output Full history) history →
    whole_output Early history ≡ whole_output Full history
