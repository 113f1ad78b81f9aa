-- What holds of the marks of every history.
use Rattle.std.specs.Prelude.{◌≡◌, ◌⊎◌, ℕ, ◌+◌, ◌%◌, ◌<◌, ◌≤◌, Bool, true, false, List, [], ◌∷◌}
use Rattle.std.specs.Prelude.{◌++◌, length, All, Option, None, Some, Ok}
use Rattle.std.specs.List.{filter, list_any}
use Rattle.std.specs.Result.{is_ok}
use Rattle.avc_types.specs.declared.references.Mark.TheVariants.{Short}
use Rattle.avc_types.specs.declared.references.Marking.{Marking}
use Rattle.avc_types.specs.declared.references.Marking.TheVariants.{Idr, SlidingWindow, Adaptive}
use Rattle.avc_types.specs.References.{Reference, is_short}
use Rattle.avc_marking.specs.Marks.{MarkingEntry, Marks, limit_of, current_frame, is_unmark_all}
use Rattle.avc_marking.specs.Marks.{marks_after, marks}

-- An entry leaves no more reference frames than n, where there were no more before it and it allows
-- no more.
abbrev pub StaysLimited : Type 0
StaysLimited =
    (n : ℕ) (s : MarkingEntry) (decoding_index : ℕ) (m m' : Marks) → limit_of s ≤ n →
    length m.references ≤ n →
    marks_after s decoding_index s.marking m ≡ Ok m' → length m'.references ≤ n

-- nor do all entries of a history
abbrev pub IsLimited : Type 0
IsLimited =
    (n : ℕ) (history : List MarkingEntry) (m : Marks) → All (λ s. limit_of s ≤ n) history →
    marks history ≡ Ok m → length m.references ≤ n

-- ---- which frames an entry leaves

-- the same frame, whose mark may be another
pub record IsSameFrame (new old : Reference) : Type 0 where
  pub same_decoding_index : new.decoding_index ≡ old.decoding_index
  pub same_frame_num : new.frame_num ≡ old.frame_num
  pub same_existing : new.existing ≡ old.existing

-- Each of the first frames is one of the others, in the same order; only marks may differ.
abbrev pub IsPartUpToMarks : (new old : List Reference) → Type 0
IsPartUpToMarks [] old = Unit {0}
IsPartUpToMarks (r ∷ new) [] = ⊥
IsPartUpToMarks (r ∷ new) (s ∷ old) =
    (IsSameFrame r s × IsPartUpToMarks new old) ⊎ IsPartUpToMarks (r ∷ new) old

-- An entry adds no frame but its own, which is the last (8.2.5.1).
abbrev pub AddsOwnFrameAlone : Type 0
AddsOwnFrameAlone =
    (s : MarkingEntry) (decoding_index : ℕ) (m m' : Marks) →
    All (λ r. r.decoding_index < decoding_index) m.references →
    marks_after s decoding_index s.marking m ≡ Ok m' →
    IsPartUpToMarks m'.references (m.references ++ current_frame s decoding_index Short ∷ [])

-- It marks all earlier frames as unused for reference: an IDR picture, or one with operation 5
-- (8.2.5.1,
-- 8.2.5.4.5).
abbrev pub unmarks_all : Option Marking → Bool
unmarks_all None = false
unmarks_all (Some (Idr no_output long_term)) = true
unmarks_all (Some SlidingWindow) = false
unmarks_all (Some (Adaptive operations)) = list_any is_unmark_all operations

-- Such an entry leaves no frame but its own (8.2.5.1).
abbrev pub LeavesOwnFrameAlone : Type 0
LeavesOwnFrameAlone =
    (s : MarkingEntry) (decoding_index : ℕ) (m m' : Marks) → unmarks_all s.marking ≡ true →
    marks_after s decoding_index s.marking m ≡ Ok m' →
    IsPartUpToMarks m'.references (current_frame s decoding_index Short ∷ [])

-- After an entry that was marked by the sliding window the window can slide again: that entry's
-- frame is a short-term one (8.2.5.3).
abbrev pub SlidesAgain : Type 0
SlidesAgain =
    (s s' : MarkingEntry) (decoding_index decoding_index' : ℕ) (m m' : Marks) →
    marks_after s decoding_index (Some SlidingWindow) m ≡ Ok m' →
    is_ok (marks_after s' decoding_index' (Some SlidingWindow) m') ≡ true

-- ---- gaps in frame_num (8.2.5.2)

-- each of the frames has a decoding index below this one
abbrev pub StandBelow : (index : ℕ) → List Reference → Type 0
StandBelow index [] = Unit {0}
StandBelow index (r ∷ rs) = (r.decoding_index < index) × StandBelow index rs

-- later frames have later decoding indices: from `low` on, and before `next`
abbrev pub StandFrom : (low next : ℕ) → List Reference → Type 0
StandFrom low next [] = low ≤ next
StandFrom low next (r ∷ rs) = (low ≤ r.decoding_index) × StandFrom (r.decoding_index + 1) next rs

-- a short-term frame whose FrameNum is this number modulo MaxFrameNum
pub record IsShortTerm (max number : ℕ) (r : Reference) : Type 0 where
  pub frame_num : r.frame_num ≡ number % max
  pub short : r.mark ≡ Short

-- They are short-term, and later ones have greater numbers: from `low` on and below `next`, where
-- numbers go on past MaxFrameNum.
abbrev pub CountFrom : (max low next : ℕ) → List Reference → Type 0
CountFrom max low next [] = low ≤ next
CountFrom max low next (r ∷ rs) =
    (number : ℕ) × (low ≤ number × IsShortTerm max number r × CountFrom max (number + 1) next rs)

-- As many frames are marked as may be: long-term ones, whose decoding indices are below `start`,
-- and short-term ones, from there on and before `next`.
pub record IsFullWindow (start next limit : ℕ) (longs shorts : List Reference) : Type 0 where
  pub long : filter is_short longs ≡ []
  pub full : length longs + length shorts ≡ limit
  pub indices : StandFrom start next shorts
  pub longs_before : StandBelow start longs

-- The sliding window takes the first of short-term frames whose numbers rise up to the current one,
-- if less than MaxFrameNum apart (8.2.5.3).
abbrev pub WindowTakesTheFirst : Type 0
WindowTakesTheFirst =
    (s : MarkingEntry) (decoding_index max low number start : ℕ) (longs shorts : List Reference)
    (first : Reference) (m : Marks) →
    s.current ≡ record { frame_num = number % max; max_frame_num = max } →
    IsFullWindow start decoding_index (limit_of s) longs (first ∷ shorts) →
    CountFrom max low number (first ∷ shorts) → number < low + max →
    m.references ≡ longs ++ first ∷ shorts →
    marks_after s decoding_index (Some SlidingWindow) m
    ≡ Ok (record m {
      references = (longs ++ shorts)
          ++ current_frame s decoding_index Short ∷ [];
    })
