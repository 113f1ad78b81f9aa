-- The kinds of a stream's refusals: one for each fault, with its number of units and the first of
-- them.
use Rattle.std.specs.Prelude.{ℕ, ◌+◌, Bool, not, ◌==◌, if◌then◌else◌, List, [], ◌∷◌, length}
use Rattle.std.specs.List.{filter}
use Rattle.avc_types.specs.Faults.{number_of}
use Rattle.avc_types.specs.declared.fault.Fault.{Fault}
use Rattle.avc_annexb.specs.Units.{saturated}
use Rattle.avc_info.specs.declared.refusals.Refusal.{Refusal}
use Rattle.avc_info.specs.declared.refusals.RefusalKind.{RefusalKind}

-- the other is the same fault: numbers tell faults apart
abbrev pub is_fault : Fault → (other : Fault) → Bool
is_fault fault other = number_of other == number_of fault

-- how many of these have this fault
abbrev pub count_of : Fault → List Refusal → ℕ
count_of fault refusals = length (filter (λ r. is_fault fault r.fault) refusals)

-- the kind of the first of these that has its fault: how many have it, and which unit is the first
abbrev pub kind_of : (first : Refusal) → List Refusal → RefusalKind
kind_of first refusals = record {
  fault = first.fault;
  count = saturated (count_of first.fault refusals);
  first_unit = first.unit;
}

-- The kinds of these refusals, each once, in the order in which they came first: the first
-- refusal's, and of those of the others the kinds of other faults.
abbrev pub kinds_of : List Refusal → List RefusalKind
kinds_of [] = []
kinds_of (r ∷ rs) = kind_of r (r ∷ rs) ∷ filter (λ k. not (is_fault r.fault k.fault)) (kinds_of rs)

-- ---- for private clauses

-- above the number of each fault
abbrev pub most_kinds : ℕ
most_kinds = 47

-- one unit more of this kind
abbrev pub one_more : RefusalKind → RefusalKind
one_more k = record k { count = saturated (k.count + 1) }

-- the kinds with a refusal more
abbrev pub with_refusal : Refusal → List RefusalKind → List RefusalKind
with_refusal r [] = kind_of r (r ∷ []) ∷ []
with_refusal r (k ∷ ks) =
    if is_fault r.fault k.fault then one_more k ∷ ks else k ∷ with_refusal r ks
