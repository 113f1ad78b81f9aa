-- Closed planes that come to those that are left over, and how many are left over where a picture begins or is over.
use Rattle.std.proofs.Common.{◌≡◌, ◌∙◌, ◌⊎◌, ap, sym, subst, append-nil, append_assoc, Bool, true, false, [], ◌∷◌, ◌++◌, Some, None, Option, length, List}
use Rattle.std.proofs.Common.{ℕ, ◌+◌, ◌≤◌, ◌==◌, arith, inl, inr, refl, Result, Ok, Err}
use Rattle.std.proofs.lemmas.Bool.Decides.{nat_tests}
use Rattle.std.proofs.lemmas.List.Sums.{sum_by-append}
use Rattle.std.specs.Prelude.{nat_lt, if◌then◌else◌, IfSome, IsSomeAnd}
use Rattle.avc_params.specs.Limits.{width_in_mbs, height_in_mbs}
use Rattle.avc_params.specs.declared.pps.Pps.{Pps}
use Rattle.avc_params.specs.declared.sps.Sps.{Sps}
use Rattle.avc_plane.specs.Frames.{AreSized}
use Rattle.avc_plane.specs.Planes.{Planes}
use Rattle.avc_plane.specs.Spare.{most_closed, count_sized, is_sized, left_over, one_if_sized}
use Rattle.avc_plane.specs.declared.frame.Frame.{Frame}
use Rattle.avc_picture.specs.Decoding.{Decoding, IsSliceAnswer, no_slice_yet}
use Rattle.avc_picture.specs.Memory.{MemoryState, AreTaken, LeavesAll, with_closed_planes}
use Rattle.avc_slice.specs.declared.slice.Slice.{Slice}
use Rattle.avc_types.specs.declared.fault.Fault.{Fault}
use Rattle.avc_decoder.specs.SpareMemory.{AddsClosed, ClosesCurrent, LeavesCurrent, UsesOneAtMost, with_all_closed}
use Rattle.avc_decoder.specs.States.{IsAnswerIn, current_in}
use Rattle.avc_decoder.specs.declared.phase.CurrentPicture.{CurrentPicture}
use Rattle.avc_decoder.specs.declared.phase.Phase.{Phase}
use Rattle.avc_decoder.specs.declared.phase.Phase.TheVariants.{Running}
use Rattle.avc_decoder.specs.declared.slices.SliceAnswer.{SliceAnswer}

-- ---- closed planes that come

-- where there is room for them or not
more_if : (old m : MemoryState) (p : Planes) → AddsClosed old m → (room : Bool) →
    AddsClosed old (record m { planes = if room then record m.planes { closed = (m.planes).closed ++ Some p ∷ [] } else m.planes })
more_if old m p k true = record {
  more = k.more ++ Some p ∷ [];
  is = ap (with_all_closed (Some p ∷ [])) k.is
      ∙ ap (λ xs. record old { planes = record old.planes { closed = xs } }) (append_assoc (old.planes).closed k.more (Some p ∷ []));
}
more_if old m p k false = k

pub one_added : (old m : MemoryState) (p : Planes) → AddsClosed old m → AddsClosed old (with_closed_planes p m)
one_added old m p k = more_if old m p k (nat_lt (length (m.planes).closed) most_closed)

pub none_added : (m : MemoryState) → AddsClosed m m
none_added m = record { more = []; is = ap (λ xs. record m { planes = record m.planes { closed = xs } }) (sym (append-nil (m.planes).closed)) }

-- ---- how many planes of a size are left over

same_is : (a b : ℕ) → a ≡ b → (a == b) ≡ true
same_is a b e = grind (arith, nat_tests)

sized_is : (width height : ℕ) (p : Planes) → AreSized width height p → is_sized width height p ≡ true
sized_is width height p s =
    rw (same_is _ _ s.luma_width, same_is _ _ s.luma_height, same_is _ _ s.cb_width, same_is _ _ s.cb_height, same_is _ _ s.cr_width, same_is _ _ s.cr_height) refl

one_if_is : (width height : ℕ) (place : Option Planes) → IsSomeAnd place (λ p. AreSized width height p) → one_if_sized width height place ≡ 1
one_if_is width height None s = absurd s
one_if_is width height (Some p) s = ap (λ (b : Bool). if b then 1 else 0) (sized_is width height p s)

one_if : (b : Bool) → (if b then 1 else 0) ≤ 1
one_if true = omega arith
one_if false = omega arith

one_at_most : (width height : ℕ) (place : Option Planes) → one_if_sized width height place ≤ 1
one_at_most width height None = omega arith
one_at_most width height (Some p) = one_if (is_sized width height p)

some_more : (a b c d : ℕ) → d ≡ a + (b + c) → a + b ≤ d
some_more a b c d e = omega (arith, e)

-- closed planes came
added : (width height : ℕ) (old new : MemoryState) → AddsClosed old new → left_over width height old.planes ≤ left_over width height new.planes
added width height old new a =
    let count = λ (m : MemoryState). left_over width height m.planes in
    let all = sum_by-append (λ (place : Option Planes). one_if_sized width height place) (old.planes).closed a.more in
    some_more (one_if_sized width height (old.planes).open_planes) (count_sized width height (old.planes).closed) (count_sized width height a.more)
    (left_over width height new.planes) (ap count a.is ∙ ap (λ n. one_if_sized width height (old.planes).open_planes + n) all)

open_ones : (a b c d : ℕ) → a ≤ 1 → c ≡ 1 → d ≡ b → a + b ≤ c + d
open_ones a b c d few one same = omega (arith, few, one, same)

-- a picture of this size was over
left : (width height : ℕ) (old new : MemoryState) → LeavesAll width height old new → left_over width height old.planes ≤ left_over width height new.planes
left width height old new l =
    open_ones (one_if_sized width height (old.planes).open_planes) (count_sized width height (old.planes).closed)
    (one_if_sized width height (new.planes).open_planes) (count_sized width height (new.planes).closed)
    (one_at_most width height (old.planes).open_planes) (one_if_is width height (new.planes).open_planes l.memory.open_planes)
    (ap (count_sized width height) l.closed)

no_fewer : (a b : ℕ) → b ≡ a → a ≤ b
no_fewer a b e = omega (arith, e)

-- it began, and was over at once or not
one_less : (a b c d : ℕ) → a ≤ b → b ≤ c + 1 → c ≤ d → a ≤ d + 1
one_less a b c d e f g = omega (arith, e, f, g)

none_or_one : (a b : ℕ) → (a ≡ b + 0) ⊎ (a ≡ b + 1) → a ≤ b + 1
none_or_one a b (inl e) = omega (arith, e)
none_or_one a b (inr e) = omega (arith, e)

taken : (width height : ℕ) (old new : MemoryState) → AreTaken 0 width height old new ⊎ AreTaken 1 width height old new → UsesOneAtMost width height old new
taken width height old new (inl t) = none_or_one _ _ (inl t.planes)
taken width height old new (inr t) = none_or_one _ _ (inr t.planes)

kept : (sps : Sps) (c : CurrentPicture) (old new : MemoryState) → (c.decoder).sps ≡ sps → (new ≡ old) ⊎ LeavesCurrent (Some c) old new
    → left_over (width_in_mbs sps) (height_in_mbs sps) old.planes ≤ left_over (width_in_mbs sps) (height_in_mbs sps) new.planes
kept sps c old new same (inl e) = no_fewer _ _ (ap (λ (m : MemoryState). left_over (width_in_mbs sps) (height_in_mbs sps) m.planes) e)
kept sps c old new same (inr l) =
    left (width_in_mbs sps) (height_in_mbs sps) old new (subst (λ (s : Sps). LeavesAll (width_in_mbs s) (height_in_mbs s) old new) same l)

-- ---- the first slice of a picture

pub first_uses : (sps : Sps) (pps : Pps) (fs : List (Frame 16)) (c : CurrentPicture) (before with_emptied begun after : MemoryState) → AddsClosed before with_emptied
    → c.decoder ≡ no_slice_yet sps pps fs
    → AreTaken 0 (width_in_mbs sps) (height_in_mbs sps) with_emptied begun ⊎ AreTaken 1 (width_in_mbs sps) (height_in_mbs sps) with_emptied begun
    → (after ≡ begun) ⊎ LeavesCurrent (Some c) begun after → UsesOneAtMost (width_in_mbs sps) (height_in_mbs sps) before after
first_uses sps pps fs c before with_emptied begun after adds is takes leaves =
    one_less _ _ _ _ (added (width_in_mbs sps) (height_in_mbs sps) before with_emptied adds) (taken (width_in_mbs sps) (height_in_mbs sps) with_emptied begun takes)
    (kept sps c begun after (ap (λ (d : Decoding 16). d.sps) is) leaves)

one_to_spare : (a b : ℕ) → b ≡ a → a ≤ b + 1
one_to_spare a b e = omega (arith, e)

stays : (named : Option (Pps × Sps)) (old new : MemoryState) → new ≡ old
    → IfSome named (λ n. UsesOneAtMost (width_in_mbs n.1) (height_in_mbs n.1) old new)
stays None old new e = tt
stays (Some n) old new e = one_to_spare _ _ (ap (λ (m : MemoryState). left_over (width_in_mbs n.1) (height_in_mbs n.1) m.planes) e)

-- it was refused before a picture was open
pub first_stays : (named : Option (Pps × Sps)) (current : Option CurrentPicture) (old new : MemoryState) → current ≡ None
    → LeavesCurrent current old new → IfSome named (λ n. UsesOneAtMost (width_in_mbs n.1) (height_in_mbs n.1) old new)
first_stays named current old new none leaves = stays named old new (subst (λ o. LeavesCurrent o old new) none leaves)

-- ---- a further slice

answered_sps : (d d' : Decoding 16) (s : Slice) (r : Result (Prim.Unit {0}) Fault) → IsSliceAnswer d s r d' → d'.sps ≡ d.sps
answered_sps d d' s (Ok done) is = ap (λ (d : Decoding 16). d.sps) is.0
answered_sps d d' s (Err f) is = ap (λ (d : Decoding 16). d.sps) is.0

-- it was refused, and the picture was over
pub leaves_answered : (p p' : Phase) (s : Slice) (a : SliceAnswer) (old new : MemoryState) → IsAnswerIn p s a p' → LeavesCurrent (current_in p') old new
    → LeavesCurrent (current_in p) old new
leaves_answered (Running (Some c)) (Running (Some c')) s a old new is leaves =
    subst (λ (q : Sps). LeavesAll (width_in_mbs q) (height_in_mbs q) old new) (answered_sps c.decoder c'.decoder s a.answer is.answer) leaves
leaves_answered (Running (Some c)) _ s a old new is leaves = absurd is
leaves_answered p p' s a old new is leaves = subst (λ (q : Phase). LeavesCurrent (current_in q) old new) is.0 leaves

-- ---- the end of a picture

-- nothing is lost where none is open any more
pub left_so : (p : Phase) (old new : MemoryState) → p ≡ Running None → LeavesCurrent (current_in p) old new → new ≡ old
left_so p old new none leaves = subst (λ (q : Phase). LeavesCurrent (current_in q) old new) none leaves

pub closed_with_fault : (c : CurrentPicture) (p : Phase) (old between new : MemoryState) → p ≡ Running None → LeavesCurrent (Some c) old between
    → LeavesCurrent (current_in p) between new → ClosesCurrent (Some c) old new
closed_with_fault c p old between new none leaves stays =
    inr (subst (λ (m : MemoryState). LeavesCurrent (Some c) old m) (sym (left_so p between new none stays)) leaves)
