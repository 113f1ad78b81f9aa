-- The other's bytes, read as long as they are a picture's.
use Rattle.std.proofs.Common.{◌≡◌, ℕ, suc, ◌+◌, ◌-◌, ◌*◌, ◌<◌, ◌≤◌, List, [], ◌∷◌, ◌++◌, length, take, drop, Option, Bool, true, false, Result, Ok, Err, refl, sym, ap, ◌∙◌, subst, arith, append_assoc, append-nil, length-append, length-drop, rules, take_all, take-append-drop}
use Rattle.std.proofs.KnownBytes.{Consumes-nil, Consumes-trans}
use Rattle.std.proofs.Math.Nat.{mul-le-mul_right}
use Rattle.std.proofs.Math.Seq.{take-add, take-append-add}
use Rattle.std.proofs.lemmas.Grind.{flat_map-append}
use Rattle.std.proofs.lemmas.List.{take-append-le, take_rest}
use Rattle.std.specs.Io.KnownBytes.{Consumes}
use Rattle.std.specs.Prelude.{OnErr, OnOk}
use Rattle.avc_types.specs.declared.picture.Picture.{Picture as Decoded}
use Rattle.avc_plane.specs.Shown.{columns_of, samples_of}
use Rattle.avc_plane.specs.declared.component.Component.{Component}
use Rattle.avc_plane.specs.declared.component.Component.TheVariants.{Luma, Cb, Cr}
use Rattle.avc_yuv.proofs.Windows.{length-part_of_row, length-window, range_split}
use Rattle.avc_yuv.specs.Copying.{shown_of, shown_of_row, window_of}
use Rattle.avc_yuv.specs.I420.{i420, window}
use Rattle.avc_compare.specs.Kept.{Waiting}
use Rattle.avc_compare.specs.Meeting.{Meets}
use Rattle.avc_compare.specs.Reading.{Fills}
use Rattle.avc_compare.specs.Samples.{ReadsBeside, ReadsRest}
use Rattle.avc_compare.specs.declared.verdict.CompareFault.{CompareFault}

-- what is so in any case is so after an error
pub on_err : {A E P : Type 0} (r : Result A E) → P → OnErr r P
on_err (Ok x) p = tt
on_err (Err e) p = p

-- ---- bytes of a row

-- none
pub meets_none : (bytes : List ℕ) (left : ℕ) (waiting : List ℕ) (l : Option (List ℕ)) → length waiting ≤ left → Meets bytes left 0 waiting waiting l l
meets_none bytes left waiting l few = record { more = []; consumed = Consumes-nil l; first = append-nil waiting; within = omega arith; few = omega (arith, few) }

-- more were read, which wait
pub meets_read : (bytes : List ℕ) (left met : ℕ) (waited : List ℕ) (before now : Waiting) (l l' l'' : Option (List ℕ)) → Meets bytes left met waited before.bytes l l'
    → Fills l' l'' before now → length now.bytes ≤ left - met → Meets bytes left met waited now.bytes l l''
meets_read bytes left met waited before now l l' l'' m f few = record {
  more = m.more ++ f.more;
  consumed = Consumes-trans l l' l'' m.more f.more m.consumed f.consumed;
  first = sym (append_assoc waited m.more f.more) ∙ ap (λ x. x ++ f.more) m.first ∙ append_assoc (take met bytes) before.bytes f.more ∙ ap (λ x. take met bytes ++ x) (sym f.bytes);
  within = m.within;
  few = omega (arith, m.few, few);
}

-- the first that wait are the next
pub meets_part : (bytes : List ℕ) (left met part : ℕ) (waited waiting : List ℕ) (l l' : Option (List ℕ)) → Meets bytes left met waited waiting l l' → part ≤ length (take (length bytes - met) (drop met bytes))
    → part ≤ length waiting → take part (take (length bytes - met) (drop met bytes)) ≡ take part waiting → Meets bytes left (met + part) waited (drop part waiting) l l'
meets_part bytes left met part waited waiting l l' m inside waits same = record {
  more = m.more;
  consumed = m.consumed;
  first = m.first ∙ ap (λ x. take met bytes ++ x) (sym (take-append-drop part waiting)) ∙ sym (append_assoc (take met bytes) (take part waiting) (drop part waiting))
      ∙ ap (λ x. x ++ drop part waiting) (ap (λ x. take met bytes ++ x) (sym same ∙ ap (take part) (take_rest bytes met)) ∙ sym (take-add met part bytes));
  within = omega (arith, m.within, inside, ap length (take_rest bytes met), length-drop met bytes);
  few = omega (arith, m.few, waits, length-drop part waiting);
}

-- ---- bytes one behind another

-- all of the first were met, and then some of the second
pub meets_then : (a b : List ℕ) (left m n : ℕ) (w w' w'' : List ℕ) (l l' l'' : Option (List ℕ)) → m ≡ length a → Meets a left m w w' l l' → Meets b (left - m) n w' w'' l' l''
    → Meets (a ++ b) left (m + n) w w'' l l''
meets_then a b left m n w w' w'' l l' l'' all p q =
    let whole : take m a ≡ a = take_all m a (omega (arith, all)) in record {
      more = p.more ++ q.more;
      consumed = Consumes-trans l l' l'' p.more q.more p.consumed q.consumed;
      first = sym (append_assoc w p.more q.more) ∙ ap (λ x. x ++ q.more) p.first ∙ append_assoc (take m a) w' q.more ∙ ap (λ x. take m a ++ x) q.first ∙ sym (append_assoc (take m a) (take n b) w'')
          ∙ ap (λ x. x ++ w'') (ap (λ x. x ++ take n b) whole ∙ sym (take-append-add a b n) ∙ ap (λ k. take (k + n) (a ++ b)) (sym all));
      within = omega (arith, all, q.within, length-append a b);
      few = omega (arith, p.few, q.few);
    }

-- some of the first were met
pub meets_front : (a b : List ℕ) (left m : ℕ) (w w' : List ℕ) (l l' : Option (List ℕ)) → Meets a left m w w' l l' → Meets (a ++ b) left m w w' l l'
meets_front a b left m w w' l l' p = record {
  more = p.more;
  consumed = p.consumed;
  first = p.first ∙ ap (λ x. x ++ w') (sym (take-append-le m a b p.within));
  within = omega (arith, p.within, length-append a b);
  few = p.few;
}

-- a fault came behind them
pub meets_fault : (bytes : List ℕ) (left m : ℕ) (w w' : List ℕ) (l l' l'' : Option (List ℕ)) → Meets bytes left m w w' l l' → (here : List ℕ) × Consumes l' l'' here → (here : List ℕ) × Consumes l l'' here
meets_fault bytes left m w w' l l' l'' p rest = (p.more ++ rest.0, Consumes-trans l l' l'' p.more rest.0 p.consumed rest.1)

-- ---- the rows of a component

-- the first rows that are shown
abbrev pub first_rows : Decoded → Component → (n : ℕ) → List ℕ
first_rows p c n = window (columns_of p c) (samples_of p c) (window_of p c).left (window_of p c).top (window_of p c).width n

row_more : (p : Decoded) (c : Component) (n : ℕ) → first_rows p c (n + 1) ≡ first_rows p c n ++ shown_of_row p c ((window_of p c).top + n)
row_more p c n = search (rules, range_split, flat_map-append, append-nil)

rows_split : (p : Decoded) (c : Component) (n more : ℕ)
    → first_rows p c (n + more) ≡ first_rows p c n ++ window (columns_of p c) (samples_of p c) (window_of p c).left ((window_of p c).top + n) (window_of p c).width more
rows_split p c n more = search (rules, range_split, flat_map-append)

length-first_rows : (p : Decoded) (c : Component) (n : ℕ) → length (first_rows p c n) ≡ n * (window_of p c).width
length-first_rows p c n = length-window (columns_of p c) (samples_of p c) (window_of p c).left (window_of p c).top (window_of p c).width n

length-row : (p : Decoded) (c : Component) (y : ℕ) → length (shown_of_row p c y) ≡ (window_of p c).width
length-row p c y = length-part_of_row (columns_of p c) (samples_of p c) (window_of p c).left (window_of p c).width y

-- how many samples are shown of a component
pub length-shown : (p : Decoded) (c : Component) → length (shown_of p c) ≡ (window_of p c).height * (window_of p c).width
length-shown p c = length-first_rows p c (window_of p c).height

-- a row fits in what is left
pub row_left : (p : Decoded) (c : Component) (left met n : ℕ) (row : List ℕ) → length (shown_of p c) ≤ left → met ≡ length (first_rows p c n) → n < (window_of p c).height
    → row ≡ shown_of_row p c ((window_of p c).top + n) → length row ≤ left - met
row_left p c left met n row within all low is =
    let rows : suc n * (window_of p c).width ≤ (window_of p c).height * (window_of p c).width = mul-le-mul_right (window_of p c).width low in
    let one : suc n * (window_of p c).width ≡ (window_of p c).width + n * (window_of p c).width = omega arith in
    omega (arith, rows, one, within, all, length-shown p c, length-first_rows p c n, ap length is, length-row p c ((window_of p c).top + n))

-- some of a row were met, where all of those before were
pub row_met : (p : Decoded) (c : Component) (left n met more : ℕ) (row w w' w'' : List ℕ) (l l' l'' : Option (List ℕ)) → met ≡ length (first_rows p c n) → row ≡ shown_of_row p c ((window_of p c).top + n)
    → Meets (first_rows p c n) left met w w' l l' → Meets row (left - met) more w' w'' l' l'' → Meets (first_rows p c (n + 1)) left (met + more) w w'' l l''
row_met p c left n met more row w w' w'' l l' l'' all is before here =
    subst (λ bytes. Meets bytes left (met + more) w w'' l l'') (ap (λ r. first_rows p c n ++ r) is ∙ sym (row_more p c n))
    (meets_then (first_rows p c n) row left met more w w' w'' l l' l'' all before here)

-- all of it
pub row_place : (p : Decoded) (c : Component) (n met more : ℕ) (row : List ℕ) → met ≡ length (first_rows p c n) → row ≡ shown_of_row p c ((window_of p c).top + n) → more ≡ length row
    → met + more ≡ length (first_rows p c (n + 1))
row_place p c n met more row all is whole =
    omega (arith, all, whole, ap length is, ap length (row_more p c n), length-append (first_rows p c n) (shown_of_row p c ((window_of p c).top + n)))

-- and no more
pub row_ends : (p : Decoded) (c : Component) (left n met : ℕ) (w w' : List ℕ) (l l' : Option (List ℕ)) → n < (window_of p c).height → Meets (first_rows p c (n + 1)) left met w w' l l'
    → Meets (shown_of p c) left met w w' l l'
row_ends p c left n met w w' l l' low m =
    let rest = (window_of p c).height - (n + 1) in
    let all : (window_of p c).height ≡ n + 1 + rest = omega (arith, low) in
    subst (λ bytes. Meets bytes left met w w' l l') (sym (ap (λ h. first_rows p c h) all ∙ rows_split p c (n + 1) rest))
    (meets_front (first_rows p c (n + 1)) (window (columns_of p c) (samples_of p c) (window_of p c).left ((window_of p c).top + (n + 1)) (window_of p c).width rest) left met w w' l l' m)

-- ---- the components of a picture

pub luma_ends : (p : Decoded) (left m : ℕ) (w w' : List ℕ) (l l' : Option (List ℕ)) → Meets (shown_of p Luma) left m w w' l l' → Meets (i420 p) left m w w' l l'
luma_ends p left m w w' l l' a =
    meets_front (shown_of p Luma ++ shown_of p Cb) (shown_of p Cr) left m w w' l l' (meets_front (shown_of p Luma) (shown_of p Cb) left m w w' l l' a)

pub cb_ends : (p : Decoded) (left m n : ℕ) (w w' w'' : List ℕ) (l l' l'' : Option (List ℕ)) → m ≡ length (shown_of p Luma) → Meets (shown_of p Luma) left m w w' l l'
    → Meets (shown_of p Cb) (left - m) n w' w'' l' l'' → Meets (i420 p) left (m + n) w w'' l l''
cb_ends p left m n w w' w'' l l' l'' all a b =
    meets_front (shown_of p Luma ++ shown_of p Cb) (shown_of p Cr) left (m + n) w w'' l l'' (meets_then (shown_of p Luma) (shown_of p Cb) left m n w w' w'' l l' l'' all a b)

pub cr_ends : (p : Decoded) (left m n k : ℕ) (w w' w'' v : List ℕ) (l l' l'' o : Option (List ℕ)) → m ≡ length (shown_of p Luma) → n ≡ length (shown_of p Cb) → Meets (shown_of p Luma) left m w w' l l'
    → Meets (shown_of p Cb) (left - m) n w' w'' l' l'' → Meets (shown_of p Cr) (left - m - n) k w'' v l'' o → Meets (i420 p) left (m + n + k) w v l o
cr_ends p left m n k w w' w'' v l l' l'' o luma cb a b c =
    let both = meets_then (shown_of p Luma) (shown_of p Cb) left m n w w' w'' l l' l'' luma a b in
    let left_is : left - m - n ≡ left - (m + n) = omega arith in
    meets_then (shown_of p Luma ++ shown_of p Cb) (shown_of p Cr) left (m + n) k w w'' v l l'' o (omega (arith, luma, cb, length-append (shown_of p Luma) (shown_of p Cb))) both
    (subst (λ n'. Meets (shown_of p Cr) n' k w'' v l'' o) left_is c)

-- how many samples are shown of them
pub parts_left : (p : Decoded) → length (i420 p) ≡ length (shown_of p Luma) + length (shown_of p Cb) + length (shown_of p Cr)
parts_left p = length-append (shown_of p Luma ++ shown_of p Cb) (shown_of p Cr) ∙ ap (λ n. n + length (shown_of p Cr)) (length-append (shown_of p Luma) (shown_of p Cb))

-- ---- a picture

-- all of its bytes were met, and no others were read
pub all_met : (p : Decoded) (met : ℕ) (w : List ℕ) (l l' : Option (List ℕ)) → met ≡ length (i420 p) → Meets (i420 p) (length (i420 p)) met [] w l l' → Consumes l l' (i420 p)
all_met p met w l l' all m =
    let none : w ≡ [] = nothing w (omega (arith, m.few, all)) in
    let more_is : m.more ≡ i420 p = m.first ∙ ap (λ x. take met (i420 p) ++ x) none ∙ append-nil (take met (i420 p)) ∙ take_all met (i420 p) (omega (arith, all)) in
    subst (Consumes l l') more_is m.consumed
  where
    nothing : (xs : List ℕ) → length xs ≤ 0 → xs ≡ []
    nothing [] short = refl
    nothing (x ∷ xs) short = absurd (omega (arith, short))

-- the rest was read behind those that were met
pub completed : (p : Decoded) (met : ℕ) (w theirs : List ℕ) (l l' l'' : Option (List ℕ)) (result : Result Bool CompareFault) → Meets (i420 p) (length (i420 p)) met [] w l l'
    → ReadsRest (take met (i420 p) ++ w) l' l'' theirs result → OnOk result (length theirs ≡ length (i420 p)) → ReadsBeside p l l'' theirs result
completed p met w theirs l l' l'' result m reads long = by result reads long
  where
    all : (more : List ℕ) → Consumes l' l'' more → Consumes l l'' (m.more ++ more)
    all more rest = Consumes-trans l l' l'' m.more more m.consumed rest

    by : (r : Result Bool CompareFault) → ReadsRest (take met (i420 p) ++ w) l' l'' theirs r → OnOk r (length theirs ≡ length (i420 p)) → ReadsBeside p l l'' theirs r
    by (Ok true) reads' long' =
        let is : theirs ≡ m.more ++ reads'.0 = reads'.2 ∙ ap (λ x. x ++ reads'.0) (sym m.first) in
        (subst (Consumes l l'') (sym is) (all reads'.0 reads'.1), long')
    by (Ok false) reads' long' = (m.more ++ reads'.0, all reads'.0 reads'.1, reads'.2, omega (arith, reads'.3, long', length-append m.more reads'.0, ap length m.first))
    by (Err fault) reads' long' = (m.more ++ reads'.0, all reads'.0 reads'.1, reads'.2)
