-- Counting places, and marking macroblocks.
use Rattle.std.proofs.Common.{◌≡◌, ◌≢◌, ℕ, zero, suc, ◌+◌, ◌*◌, ◌/◌, ◌^◌, ◌<◌, ◌≤◌, Bool, true, false, ◌&&◌, ◌||◌, not, refl, sym, ap, ◌∙◌, arith, add-one, List, [], ◌∷◌, ◌++◌, length, get_or, set, take, drop}
use Rattle.std.specs.Prelude.{count_by, if◌then◌else◌, ◌==◌, replicate}
use Rattle.std.proofs.lemmas.List.Sums.{count_by_more_no, count_by_more_yes}
use Rattle.std.proofs.lemmas.Bool.{eqb-true}
use Rattle.std.proofs.lemmas.Bool.Decides.{nat_tests}
use Rattle.std.proofs.lemmas.List.{get_or-set_other, get_or-set_same}
use Rattle.std.proofs.Math.Nat.{div-lt_iff_lt-mul, mul-zero}
use Rattle.std.proofs.Math.Seq.{take-append_seam}
use Rattle.avc_plane.specs.declared.component.Component.{Component}
use Rattle.avc_plane.specs.declared.component.Component.TheVariants.{Luma, Cb, Cr}
use Rattle.avc_difference.specs.Differences.{any_below, count_below, differs_at, differs_in_chroma, differs_in_luma, is_luma, is_marked, mark_after, no_mark, with_component, AreMarks}
use Rattle.avc_difference.specs.Places.{place_of, sample_count}
use Rattle.avc_difference.specs.declared.marks.Mark.{Mark}
use Rattle.avc_difference.specs.declared.place.Place.{Place}
use Rattle.avc_difference.specs.declared.place.Shape.{Shape}

pub any_below_more : (n : ℕ) (is : ℕ → Bool) → any_below (n + 1) is ≡ (any_below n is || is n)
unfolding any_below
any_below_more n is = rw add-one refl

pub count_below_more : (n : ℕ) (is : ℕ → Bool) → count_below (n + 1) is ≡ count_below n is + (if is n then 1 else 0)
unfolding count_below
count_below_more n is = rw add-one refl

pub any_below_none : (is : ℕ → Bool) → any_below 0 is ≡ false
unfolding any_below
any_below_none is = refl

pub count_below_none : (is : ℕ → Bool) → count_below 0 is ≡ 0
unfolding count_below
count_below_none is = refl

few : (b : Bool) (c n : ℕ) → c ≤ n → c + (if b then 1 else 0) ≤ suc n
few true c n h = omega arith
few false c n h = omega arith

pub count_below_few : (n : ℕ) (is : ℕ → Bool) → count_below n is ≤ n
unfolding count_below
count_below_few zero is = omega arith
count_below_few (suc n) is = few (is n) (count_below n is) n (count_below_few n is)

pub counted_few : (n count count' : ℕ) (b : Bool) → count ≤ n → count' ≡ count + (if b then 1 else 0) → count' ≤ n + 1
counted_few n count count' true few is = omega (arith, few, is)
counted_few n count count' false few is = omega (arith, few, is)

pub counted_more : (n count count' : ℕ) (b : Bool) (test : ℕ → Bool) → count ≡ count_below n test → b ≡ test n → count' ≡ count + (if b then 1 else 0) → count' ≡ count_below (n + 1) test
counted_more n count count' b test before here is =
    is ∙ ap (λ k. k + (if b then 1 else 0)) before ∙ ap (λ t. count_below n test + (if t then 1 else 0)) here ∙ sym (count_below_more n test)

-- the row of a place
pub row_low : (number r c rows columns : ℕ) → r ≡ rows → c ≡ columns → number < rows * columns → r < 2 ^ 32 → number / c < 2 ^ 32
row_low number r zero rows columns is_r is_c inside low = let none : number < rows * 0 = rw is_c inside in absurd (omega (arith, none, mul-zero rows))
row_low number r (suc c) rows columns is_r is_c inside low =
    let within : number < r * suc c = rw (is_r, is_c) inside in
    let below : number / suc c < r = (div-lt_iff_lt-mul {k = suc c} {x = number} {y = r} (omega arith)).1 within in
    omega (arith, below, low)

-- ---- marks

-- all marks are written anew
pub all_marks : (len : ℕ) (new marks : List Mark) → length new ≡ len → take len (new ++ drop (length new) marks) ≡ new
all_marks len new marks full = ap (λ n. take n (new ++ drop (length new) marks)) (sym full) ∙ take-append_seam new (drop (length new) marks)

-- the mark of one macroblock is written
pub mark_written : (marks : List Mark) (place : Place) (mark : Mark) → place.address < length marks → mark ≡ with_component place.component (get_or marks place.address no_mark) → (address : ℕ)
    → get_or (set marks place.address mark) address no_mark ≡ mark_after place address (get_or marks address no_mark)
mark_written marks place mark inside is address = by_test (place.address == address) refl
  where
    with_test : Bool → Mark
    with_test t = if t then with_component place.component (get_or marks address no_mark) else get_or marks address no_mark

    by_test : (t : Bool) → (place.address == address) ≡ t → get_or (set marks place.address mark) address no_mark ≡ with_test (place.address == address)
    by_test true e =
        let same : place.address ≡ address = eqb-true place.address address e in
        ap (λ k. get_or (set marks place.address mark) k no_mark) (sym same) ∙ get_or-set_same marks place.address mark no_mark inside ∙ is
        ∙ ap (λ k. with_component place.component (get_or marks k no_mark)) same ∙ sym (ap with_test e)
    by_test false e =
        let other : address ≢ place.address = grind (arith, nat_tests, e) in
        get_or-set_other marks place.address address mark no_mark other ∙ sym (ap with_test e)

-- one mark more is counted
pub marked_more : (i count count' : ℕ) (b : Bool) (marks : List Mark) (d : Mark) → i < length marks → count ≡ count_by is_marked (take i marks) → b ≡ is_marked (get_or marks i d)
    → count' ≡ count + (if b then 1 else 0) → count' ≡ count_by is_marked (take (i + 1) marks)
marked_more i count count' true marks d inside before here is = is ∙ ap (λ k. k + 1) before ∙ sym (count_by_more_yes is_marked marks i d inside (sym here))
marked_more i count count' false marks d inside before here is = omega (arith, is) ∙ before ∙ sym (count_by_more_no is_marked marks i d inside (sym here))

or_true : (b : Bool) → (b || true) ≡ true
or_true true = refl
or_true false = refl

or_false : (b : Bool) → (b || false) ≡ b
or_false true = refl
or_false false = refl

luma_after : (c : Component) (t : Bool) (m : Mark) → (if t then with_component c m else m).luma ≡ (m.luma || (is_luma c && t))
luma_after Luma true m = sym (or_true m.luma)
luma_after Luma false m = sym (or_false m.luma)
luma_after Cb true m = sym (or_false m.luma)
luma_after Cb false m = sym (or_false m.luma)
luma_after Cr true m = sym (or_false m.luma)
luma_after Cr false m = sym (or_false m.luma)

chroma_after : (c : Component) (t : Bool) (m : Mark) → (if t then with_component c m else m).chroma ≡ (m.chroma || (not (is_luma c) && t))
chroma_after Luma true m = sym (or_false m.chroma)
chroma_after Luma false m = sym (or_false m.chroma)
chroma_after Cb true m = sym (or_true m.chroma)
chroma_after Cb false m = sym (or_false m.chroma)
chroma_after Cr true m = sym (or_true m.chroma)
chroma_after Cr false m = sym (or_false m.chroma)

unmarked : (n k : ℕ) → get_or (replicate n no_mark) k no_mark ≡ no_mark
unmarked zero k = refl
unmarked (suc n) zero = refl
unmarked (suc n) (suc k) = unmarked n k

-- before the first sample
pub marks_none : (s : Shape) (most : ℕ) (ours theirs : List ℕ) (marks : List Mark) → marks ≡ replicate (length marks) no_mark → AreMarks s most ours theirs 0 marks
marks_none s most ours theirs marks fresh =
    let none : (k : ℕ) → get_or marks k no_mark ≡ no_mark = λ k. ap (λ l. get_or l k no_mark) fresh ∙ unmarked (length marks) k in
    record {
      luma = λ address h. ap (λ (m : Mark). m.luma) (none address) ∙ sym (any_below_none (differs_in_luma s most ours theirs address));
      chroma = λ address h. ap (λ (m : Mark). m.chroma) (none address) ∙ sym (any_below_none (differs_in_chroma s most ours theirs address));
    }

-- a sample that does not differ
pub marks_same : (s : Shape) (most : ℕ) (ours theirs : List ℕ) (n : ℕ) (marks : List Mark) → AreMarks s most ours theirs n marks → differs_at most ours theirs n ≡ false
    → AreMarks s most ours theirs (n + 1) marks
marks_same s most ours theirs n marks m same =
    record {
      luma = λ address h.
          m.luma address h ∙ sym (or_false (any_below n (differs_in_luma s most ours theirs address)))
          ∙ ap (λ b. any_below n (differs_in_luma s most ours theirs address) || (b && (is_luma (place_of s n).component && (place_of s n).address == address))) (sym same)
          ∙ sym (any_below_more n (differs_in_luma s most ours theirs address));
      chroma = λ address h.
          m.chroma address h ∙ sym (or_false (any_below n (differs_in_chroma s most ours theirs address)))
          ∙ ap (λ b. any_below n (differs_in_chroma s most ours theirs address) || (b && (not (is_luma (place_of s n).component) && (place_of s n).address == address))) (sym same)
          ∙ sym (any_below_more n (differs_in_chroma s most ours theirs address));
    }

-- one that differs
pub marks_more : (s : Shape) (most : ℕ) (ours theirs : List ℕ) (n : ℕ) (marks marks' : List Mark) (place : Place) → AreMarks s most ours theirs n marks
    → differs_at most ours theirs n ≡ true → place ≡ place_of s n → length marks' ≡ length marks
    → ((address : ℕ) → address < length marks → get_or marks' address no_mark ≡ mark_after place address (get_or marks address no_mark)) → AreMarks s most ours theirs (n + 1) marks'
marks_more s most ours theirs n marks marks' place m other is_at long after =
    let here : (address : ℕ) → address < length marks → get_or marks' address no_mark ≡ mark_after (place_of s n) address (get_or marks address no_mark) =
    λ address h. after address h ∙ ap (λ p. mark_after p address (get_or marks address no_mark)) is_at in
    record {
      luma = λ address h.
          let inside : address < length marks = omega (arith, h, long) in
          ap (λ (x : Mark). x.luma) (here address inside)
          ∙ luma_after (place_of s n).component ((place_of s n).address == address) (get_or marks address no_mark)
          ∙ ap (λ b. b || (is_luma (place_of s n).component && (place_of s n).address == address)) (m.luma address inside)
          ∙ ap (λ b. any_below n (differs_in_luma s most ours theirs address) || (b && (is_luma (place_of s n).component && (place_of s n).address == address))) (sym other)
          ∙ sym (any_below_more n (differs_in_luma s most ours theirs address));
      chroma = λ address h.
          let inside : address < length marks = omega (arith, h, long) in
          ap (λ (x : Mark). x.chroma) (here address inside)
          ∙ chroma_after (place_of s n).component ((place_of s n).address == address) (get_or marks address no_mark)
          ∙ ap (λ b. b || (not (is_luma (place_of s n).component) && (place_of s n).address == address)) (m.chroma address inside)
          ∙ ap (λ b. any_below n (differs_in_chroma s most ours theirs address) || (b && (not (is_luma (place_of s n).component) && (place_of s n).address == address))) (sym other)
          ∙ sym (any_below_more n (differs_in_chroma s most ours theirs address));
    }

-- ---- worked examples: where samples stand in a picture of 176x144 of which the first eight columns and the last 14 rows are not shown,
-- and samples that differ

abbrev cropped : Shape
cropped = record { width = 176; height = 144; crop = record { left = 8; right = 0; top = 0; bottom = 14 } }

-- 168x130 luma samples, and twice 84x65
samples : sample_count cropped ≡ 32760
samples = refl

-- the luma sample in column 100 and row 70 is in the fifth row of macroblocks, the seventh of its row
luma : place_of cropped 11860 ≡ record { component = Luma; column = 100; row = 70; coded_column = 108; coded_row = 70; macroblock_column = 6; macroblock_row = 4; address = 50 }
luma = refl

-- the first Cb sample
cb : place_of cropped 21840 ≡ record { component = Cb; column = 0; row = 0; coded_column = 4; coded_row = 0; macroblock_column = 0; macroblock_row = 0; address = 0 }
cb = refl

-- the Cr sample in column 5 and row 64
cr : place_of cropped 32681 ≡ record { component = Cr; column = 5; row = 64; coded_column = 9; coded_row = 64; macroblock_column = 1; macroblock_row = 8; address = 89 }
cr = refl

-- samples that are one apart differ where nothing is let pass, and not where one is
apart : differs_at 0 (7 ∷ 9 ∷ []) (7 ∷ 8 ∷ []) 1 ≡ true
apart = refl

near : differs_at 1 (7 ∷ 9 ∷ []) (7 ∷ 8 ∷ []) 1 ≡ false
near = refl
