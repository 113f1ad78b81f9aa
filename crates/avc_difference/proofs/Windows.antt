-- The samples of a window of a plane, by their places.
use Rattle.std.proofs.Common.{◌≡◌, ℕ, zero, suc, ◌+◌, ◌-◌, ◌*◌, ◌/◌, ◌%◌, ◌<◌, ◌≤◌, Bool, true, false, List, ◌++◌, length, get_or, refl, sym, ap, ◌∙◌, arith, length-append, mod-eq_of_lt}
use Rattle.std.proofs.Math.Nat.{add-div_left, add-mod_left, div-eq_of_lt}
use Rattle.std.proofs.Common.{⊎_elim, suc-mul, add_comm, mul-zero}
use Rattle.std.proofs.lemmas.Bool.{cases_lt}
use borrow.Author.Tests.{ltb-true, ltb-false}
use Rattle.std.proofs.lemmas.Grind.{common_steps}
use Rattle.std.proofs.lemmas.List.FromFn.{get_or-map-range_with_len, length-map-range_with_len}
use Rattle.std.specs.Prelude.{nat_lt, slice_index, if◌then◌else◌}
use Rattle.avc_types.specs.declared.picture.Picture.{Picture}
use Rattle.avc_plane.specs.Shown.{columns_of, samples_of, scaled}
use Rattle.avc_plane.specs.declared.component.Component.{Component}
use Rattle.avc_plane.specs.declared.component.Component.TheVariants.{Luma, Cb, Cr}
use Rattle.avc_yuv.proofs.Windows.{length-window}
use Rattle.avc_yuv.specs.I420.{i420, part_of_row, window}
use Rattle.avc_difference.specs.Places.{component_at, place_in, sample_count, samples_before, shape_of, shown_columns, shown_rows, shown_samples}

in_first : (xs ys : List ℕ) (k : ℕ) → k < length xs → get_or (xs ++ ys) k 0 ≡ get_or xs k 0
in_first xs ys k h = grind (arith, common_steps)

in_second : (xs ys : List ℕ) (k : ℕ) → length xs ≤ k → get_or (xs ++ ys) k 0 ≡ get_or ys (k - length xs) 0
in_second xs ys k h = grind (arith, common_steps)

-- a row further down
further : (width k : ℕ) → 0 < width → width ≤ k → k / width ≡ (k - width) / width + 1
further width k some h = let whole : width + (k - width) ≡ k = omega arith in ap (λ n. n / width) (sym whole) ∙ add-div_left (k - width) some

same_column : (width k : ℕ) → width ≤ k → k % width ≡ (k - width) % width
same_column width k h = let whole : width + (k - width) ≡ k = omega arith in ap (λ n. n % width) (sym whole) ∙ add-mod_left width (k - width)

suc_rows : (n width : ℕ) → suc n * width ≡ width + n * width
suc_rows n width = suc-mul n width ∙ add_comm (n * width) width

some_columns : (n width k : ℕ) → k < suc n * width → 0 < width
some_columns n zero k h = absurd (omega (arith, h, mul-zero (suc n)))
some_columns n (suc w) k h = omega arith

-- where the sample of a number stands
abbrev at_place : (row_length : ℕ) → List ℕ → (left top width k : ℕ) → ℕ
at_place row_length samples left top width k = get_or samples ((top + k / width) * row_length + (left + k % width)) 0

window_at : (row_length : ℕ) (samples : List ℕ) (left top width height k : ℕ) → k < height * width → get_or (window row_length samples left top width height) k 0 ≡ at_place row_length samples left top width k
window_at row_length samples left top width zero k h = absurd (omega (arith, h))
window_at row_length samples left top width (suc n) k h =
    let row = part_of_row row_length samples left width top in
    let rows = window row_length samples left (top + 1) width n in
    let long : length row ≡ width = length-map-range_with_len (λ x. slice_index samples (top * row_length + x)) left width in
    ⊎_elim
    (λ here.
    let first : k / width ≡ 0 = div-eq_of_lt here in
    let column : k % width ≡ k = mod-eq_of_lt here in
    let place : (top + k / width) * row_length + (left + k % width) ≡ top * row_length + (left + k) =
    ap (λ q. (top + q) * row_length + (left + k % width)) first ∙ ap (λ q. (top + 0) * row_length + (left + q)) column ∙ ap (λ t. t * row_length + (left + k)) (omega arith) in
    in_first row rows k (omega (arith, here, long))
    ∙ get_or-map-range_with_len (λ x. slice_index samples (top * row_length + x)) left width k (left + k) 0 here refl
    ∙ ap (λ q. get_or samples q 0) (sym place))
    (λ below.
    let all : suc n * width ≡ width + n * width = suc_rows n width in
    let fewer : k - width < n * width = omega (arith, h, below, all) in
    let some : 0 < width = some_columns n width k h in
    let next : top + 1 + (k - width) / width ≡ top + k / width = omega (arith, further width k some below) in
    in_second row rows k (omega (arith, below, long)) ∙ ap (λ m. get_or rows (k - m) 0) long ∙ window_at row_length samples left (top + 1) width n (k - width) fewer
    ∙ ap (λ q. get_or samples (q * row_length + (left + (k - width) % width)) 0) next
    ∙ ap (λ q. get_or samples ((top + k / width) * row_length + (left + q)) 0) (sym (same_column width k below)))
    (cases_lt k width)

-- ---- the three components, one behind another

-- the places of a component
in_component : (p : Picture) (c : Component) (k : ℕ) → k < shown_samples (shape_of p) c →
    get_or (window (columns_of p c) (samples_of p c) (scaled c (p.crop).left) (scaled c (p.crop).top) (shown_columns (shape_of p) c) (shown_rows (shape_of p) c)) k 0
    ≡ get_or (samples_of p c) ((place_in (shape_of p) c k).coded_row * columns_of p c + (place_in (shape_of p) c k).coded_column) 0
in_component p c k h = window_at (columns_of p c) (samples_of p c) (scaled c (p.crop).left) (scaled c (p.crop).top) (shown_columns (shape_of p) c) (shown_rows (shape_of p) c) k h

abbrev shown : Picture → Component → List ℕ
shown p c = window (columns_of p c) (samples_of p c) (scaled c (p.crop).left) (scaled c (p.crop).top) (shown_columns (shape_of p) c) (shown_rows (shape_of p) c)

long : (p : Picture) (c : Component) → length (shown p c) ≡ shown_samples (shape_of p) c
long p c = length-window (columns_of p c) (samples_of p c) (scaled c (p.crop).left) (scaled c (p.crop).top) (shown_columns (shape_of p) c) (shown_rows (shape_of p) c)

abbrev Named : (p : Picture) (c : Component) (k : ℕ) → Type 0
Named p c k =
    get_or (i420 p) k 0
    ≡ get_or (samples_of p c) ((place_in (shape_of p) c (k - samples_before (shape_of p) c)).coded_row * columns_of p c + (place_in (shape_of p) c (k - samples_before (shape_of p) c)).coded_column) 0

in_luma : (p : Picture) (k : ℕ) → k < shown_samples (shape_of p) Luma → Named p Luma k
in_luma p k h =
    let none : k ≡ k - 0 = omega arith in
    in_first (shown p Luma ++ shown p Cb) (shown p Cr) k (omega (arith, h, long p Luma, length-append (shown p Luma) (shown p Cb))) ∙ in_first (shown p Luma) (shown p Cb) k (omega (arith, h, long p Luma))
    ∙ in_component p Luma k h
    ∙ ap (λ n. get_or (samples_of p Luma) ((place_in (shape_of p) Luma n).coded_row * columns_of p Luma + (place_in (shape_of p) Luma n).coded_column) 0) none

in_cb : (p : Picture) (k : ℕ) → shown_samples (shape_of p) Luma ≤ k → k < samples_before (shape_of p) Cr → Named p Cb k
in_cb p k low h =
    in_first (shown p Luma ++ shown p Cb) (shown p Cr) k (omega (arith, h, long p Luma, long p Cb, length-append (shown p Luma) (shown p Cb))) ∙ in_second (shown p Luma) (shown p Cb) k (omega (arith, low, long p Luma))
    ∙ ap (λ n. get_or (shown p Cb) (k - n) 0) (long p Luma) ∙ in_component p Cb (k - shown_samples (shape_of p) Luma) (omega (arith, h, low))

in_cr : (p : Picture) (k : ℕ) → samples_before (shape_of p) Cr ≤ k → k < sample_count (shape_of p) → Named p Cr k
in_cr p k low h =
    let both : length (shown p Luma ++ shown p Cb) ≡ samples_before (shape_of p) Cr = omega (arith, long p Luma, long p Cb, length-append (shown p Luma) (shown p Cb)) in
    in_second (shown p Luma ++ shown p Cb) (shown p Cr) k (omega (arith, low, both)) ∙ ap (λ n. get_or (shown p Cr) (k - n) 0) both
    ∙ in_component p Cr (k - samples_before (shape_of p) Cr) (omega (arith, h, low))

by_component : (p : Picture) (k : ℕ) (first second : Bool) → nat_lt k (samples_before (shape_of p) Cb) ≡ first → nat_lt k (samples_before (shape_of p) Cr) ≡ second → k < sample_count (shape_of p)
    → Named p (if first then Luma else (if second then Cb else Cr)) k
by_component p k true second f s h = in_luma p k (ltb-true _ _ f)
by_component p k false true f s h = in_cb p k (ltb-false _ _ f) (ltb-true _ _ s)
by_component p k false false f s h = in_cr p k (ltb-false _ _ s) h

pub named : (p : Picture) (k : ℕ) → k < sample_count (shape_of p) → Named p (component_at (shape_of p) k) k
named p k h = by_component p k (nat_lt k (samples_before (shape_of p) Cb)) (nat_lt k (samples_before (shape_of p) Cr)) refl refl h
