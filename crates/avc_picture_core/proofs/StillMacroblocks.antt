-- Rectangles that are copied row by row, and skipped macroblocks whose samples are there already.
use Rattle.avc_picture_core.proofs.InterTiles.{ℕ, pos, ◌≡◌, ◌+◌, ◌-◌, ◌*◌, ◌<◌, ◌≤◌, ◌∙◌, List, length, None, Ok, Option, refl, sym, ap, arith, ints, nat_tests, ◌/◌}
use Rattle.avc_picture_core.proofs.InterTiles.{if◌then◌else◌, cases_lt, ⊎_elim, slice_index, subst, is_some, nat_abs, inter_luma, inter_chroma, Mb, p_skip, MbSyntax}
use Rattle.avc_picture_core.proofs.InterTiles.{Plane, Planes, sample, sample-with_block, plane_of_same, is_inside, with_block, with_block_same, block_of_its_own, padded_planes_of}
use Rattle.avc_picture_core.proofs.InterTiles.{part_unweighted, pictures_shown, all_as_first, all_predicted, whole_is, one_shape, usable_in, inter, planes_skip, canvas_built, Place, NeighbourInfo}
use Rattle.avc_picture_core.proofs.InterTiles.{MacroblocksAround, chroma_qp}
use Rattle.std.proofs.lemmas.Grind.{get_or_default_zero}
use Rattle.std.proofs.lemmas.List.{get_or-take, get_or-drop}
use Rattle.std.proofs.Math.Nat.{add-mul, mul-le-mul_right}
use Rattle.avc_plane.proofs.PlaneMaps.{stride_wide}
use Rattle.avc_plane.specs.Lending.{with_rows}
use Rattle.avc_plane.specs.Padded.{HaveSamples, IsSurrounded, stored_place, stride_of}
use Rattle.std.specs.Prelude.{slice_index_or, take, drop, ◌-ℤ◌, ◌+ℤ◌, true}
use Rattle.avc_types.specs.Arithmetic.{clip3}
use Rattle.avc_motion.specs.Motion.{still_blocks, zero_vector}
use Rattle.avc_plane.specs.Frames.{AreSized}
use Rattle.avc_picture_core.specs.Built.{size_of}
use Rattle.avc_picture_core.specs.Canvas.{CanvasState, IsBuilt, IsPlaceOn}
use Rattle.avc_picture_core.specs.Inter.{CoverMacroblock, predicted_from, with_part, have_pictures, IsMacroblockShape}
use Rattle.avc_picture_core.specs.declared.shape.Shape.TheVariants.{Whole}
use Rattle.avc_picture_core.specs.Places.{IsAt}
use Rattle.avc_picture_core.specs.References.{AreUsable}
use Rattle.avc_picture_core.specs.Sides.{readable_near}
use Rattle.avc_picture_core.specs.Still.{AreInPlace, AreSameIn, IsPieceOf, IsSameIn, with_rectangle_of}
use Rattle.avc_picture_core.specs.declared.inter.ReferencePicture.{ReferencePicture}

-- ---- a rectangle that is copied row by row

-- the place of a sample among the padded rows, held inside the plane
held_back : (pad n x : ℕ) → x < n → nat_abs (clip3 (pos 0) (pos n -ℤ pos 1) (pos (x + pad) -ℤ pos pad)) ≡ x
held_back pad n x low = grind (arith, ints, nat_tests)

module _ (pad : ℕ) (from : Plane) (rows : List ℕ) (all : IsSurrounded pad from rows) (left y width start stride : ℕ) (columns : left + width ≤ from.width) (row : y < from.height)
    (is_first : start ≡ (y + pad) * stride + (left + pad)) (is_stride : stride ≡ stride_of pad from.width) where
  wide : from.width + 2 * pad ≤ stride
  wide = omega (arith, stride_wide pad from.width, is_stride)

  -- a part of a row lies in the padded rows
  pub line_fits : start + width ≤ length rows
  line_fits =
      let below : (y + pad + 1) * stride ≤ (from.height + 2 * pad) * stride = mul-le-mul_right stride (omega (arith, row)) in
      let long : length rows ≡ (from.height + 2 * pad) * stride = all.long ∙ ap (λ n. (from.height + 2 * pad) * n) (sym is_stride) in
      omega (arith, below, long, wide, columns, is_first, add-mul (y + pad) 1 stride)

  -- and has the samples of the row
  pub line_samples : (line : List ℕ) → line ≡ take (start + width - start) (drop start rows) → (x : ℕ) → x < width → slice_index line x ≡ sample from (left + x) y
  line_samples line is x low =
      rw is (
      get_or-take (start + width - start) (drop start rows) x 0 (omega (arith, low))
      ∙ get_or-drop start rows x 0
      ∙ ap (slice_index rows) (omega (arith, is_first))
      ∙ ap (λ n. slice_index rows ((y + pad) * n + (left + x + pad))) is_stride
      ∙ all.near (left + x + pad) (y + pad) (omega (arith, wide, is_stride, low, columns)) (omega (arith, row))
      ∙ rw (held_back pad from.width (left + x) (omega (arith, low, columns)), held_back pad from.height y row) refl
      )

-- no piece, and a piece behind another
pub no_piece : (from : List ℕ) (start : ℕ) (old : List ℕ) → IsPieceOf from start 0 old old
no_piece from start old = record {
  long = refl;
  before = λ k low. refl;
  inside = λ k none. absurd (omega (arith, none));
  behind = λ k high. refl;
}

pub piece_more : (from : List ℕ) (start n m : ℕ) (old mid new : List ℕ) → IsPieceOf from start n old mid → IsPieceOf from (start + n) m mid new
    → IsPieceOf from start (n + m) old new
piece_more from start n m old mid new first more = record {
  long = more.long ∙ first.long;
  before = λ k low. more.before k (omega (arith, low)) ∙ first.before k low;
  inside = λ k few.
      ⊎_elim
      (λ early. more.before (start + k) (omega (arith, early)) ∙ first.inside k early)
      (λ late.
      let is : start + n + (k - n) ≡ start + k = omega (arith, late) in
      ap (slice_index new) (sym is) ∙ more.inside (k - n) (omega (arith, late, few)) ∙ ap (slice_index from) is)
      (cases_lt k n);
  behind = λ k high. more.behind k (omega (arith, high)) ∙ first.behind k (omega (arith, high));
}

-- rows that are copied as one piece
module _ (pad : ℕ) (from p : Plane) (rows old : List ℕ) (all : IsSurrounded pad from rows) (have : HaveSamples pad p old) (top height start stride : ℕ)
    (same_width : p.width ≡ from.width) (inner : top + height ≤ from.height) (low : top + height ≤ p.height)
    (is_start : start ≡ (top + pad) * stride) (is_stride : stride ≡ stride_of pad from.width) where
  wide_rows : from.width + 2 * pad ≤ stride
  wide_rows = omega (arith, stride_wide pad from.width, is_stride)

  -- they lie in both
  pub rows_lie_in : start + height * stride ≤ length rows
  rows_lie_in =
      let below : (top + pad + height) * stride ≤ (from.height + 2 * pad) * stride = mul-le-mul_right stride (omega (arith, inner)) in
      let long : length rows ≡ (from.height + 2 * pad) * stride = all.long ∙ ap (λ n. (from.height + 2 * pad) * n) (sym is_stride) in
      omega (arith, below, long, is_start, add-mul (top + pad) height stride)

  pub rows_fit : start + height * stride ≤ length old
  rows_fit =
      let below : (top + pad + height) * stride ≤ (p.height + 2 * pad) * stride = mul-le-mul_right stride (omega (arith, low)) in
      let long : length old ≡ (p.height + 2 * pad) * stride = have.long ∙ ap (λ n. (p.height + 2 * pad) * n) (ap (stride_of pad) same_width ∙ sym is_stride) in
      omega (arith, below, long, is_start, add-mul (top + pad) height stride)

  module _ (new : List ℕ) (set : IsPieceOf rows start (height * stride) old new) where
    place_is : (x y : ℕ) → stored_place pad p.width x y ≡ (y + pad) * stride + (x + pad)
    place_is x y = ap (λ n. (y + pad) * n + (x + pad)) (ap (stride_of pad) same_width ∙ sym is_stride)

    row_ends : (x y m : ℕ) → x < p.width → y < m → (y + pad) * stride + (x + pad) < (m + pad) * stride
    row_ends x y m column above =
        let below : (y + pad + 1) * stride ≤ (m + pad) * stride = mul-le-mul_right stride (omega (arith, above)) in
        omega (arith, below, wide_rows, column, same_width, add-mul (y + pad) 1 stride)

    from_is : (x y : ℕ) → x < p.width → y < from.height → slice_index rows ((y + pad) * stride + (x + pad)) ≡ sample from x y
    from_is x y column row =
        ap (λ n. slice_index rows ((y + pad) * n + (x + pad))) is_stride
        ∙ all.near (x + pad) (y + pad) (omega (arith, wide_rows, is_stride, column, same_width)) (omega (arith, row))
        ∙ rw (held_back pad from.width x (omega (arith, column, same_width)), held_back pad from.height y row) refl

    p_is : (x y : ℕ) → x < p.width → y < p.height → slice_index old ((y + pad) * stride + (x + pad)) ≡ sample p x y
    p_is x y column row = ap (slice_index old) (sym (place_is x y)) ∙ have.at x y column row

    from_under : (x y : ℕ) → top + height ≤ y → start + height * stride ≤ (y + pad) * stride + (x + pad)
    from_under x y under =
        let below : (top + pad + height) * stride ≤ (y + pad) * stride = mul-le-mul_right stride (omega (arith, under)) in
        omega (arith, below, is_start, add-mul (top + pad) height stride)

    fits_new : (x y : ℕ) → x < p.width → y < p.height → (y + pad) * stride + (x + pad) < length new
    fits_new x y column row =
        let long : length old ≡ (p.height + 2 * pad) * stride = have.long ∙ ap (λ n. (p.height + 2 * pad) * n) (ap (stride_of pad) same_width ∙ sym is_stride) in
        let below : (p.height + pad) * stride ≤ (p.height + 2 * pad) * stride = mul-le-mul_right stride (omega arith) in
        omega (arith, set.long, long, below, row_ends x y p.height column row)

    abbrev copied : ℕ → ℕ → ℕ
    copied x y = if is_inside 0 top from.width height x y then sample from (0 + (x - 0)) (top + (y - top)) else sample p x y

    if_inside : (x y : ℕ) → x < p.width → top ≤ y → y < top + height → copied x y ≡ sample from x y
    if_inside x y column from_top inside =
        let across : 0 + (x - 0) ≡ x = omega arith in
        let down : top + (y - top) ≡ y = omega (arith, from_top) in
        grind (arith, nat_tests)

    each_copied : (x y : ℕ) → x < p.width → y < p.height → slice_index new ((y + pad) * stride + (x + pad)) ≡ copied x y
    each_copied x y column row =
        ⊎_elim
        (λ above. set.before _ (omega (arith, row_ends x y top column above, is_start)) ∙ p_is x y column row ∙ grind (arith, nat_tests))
        (λ from_top. ⊎_elim
        (λ inside.
        let k = (y - top) * stride + (x + pad) in
        let at_k : start + k ≡ (y + pad) * stride + (x + pad) =
        let sum : y - top + (top + pad) ≡ y + pad = omega (arith, from_top) in
        omega (arith, is_start, add-mul (y - top) (top + pad) stride, ap (λ n. n * stride) sum) in
        let few : k < height * stride =
        let ends : (top + height + pad) * stride ≡ (top + pad) * stride + height * stride =
        ap (λ n. n * stride) (omega arith) ∙ add-mul (top + pad) height stride in
        omega (arith, row_ends x y (top + height) column inside, at_k, is_start, ends) in
        ap (slice_index new) (sym at_k) ∙ set.inside k few ∙ ap (slice_index rows) at_k ∙ from_is x y column (omega (arith, inside, inner))
        ∙ sym (if_inside x y column from_top inside))
        (λ under. set.behind _ (from_under x y under) ∙ p_is x y column row ∙ grind (arith, nat_tests))
        (cases_lt y (top + height)))
        (cases_lt y top)

    pub rows_copied : with_rows pad p new ≡ with_rectangle_of from 0 top from.width height p
    rows_copied =
        plane_of_same p.width p.height (λ x y. slice_index_or new (stored_place pad p.width x y) (sample p x y)) copied
        (λ x y column row.
        ap (λ n. slice_index_or new n (sample p x y)) (place_is x y)
        ∙ get_or_default_zero new ((y + pad) * stride + (x + pad)) (sample p x y) (fits_new x y column row)
        ∙ each_copied x y column row)

-- no row
pub no_row : (p from : Plane) (left top width : ℕ) → length p.samples ≡ p.width * p.height → p ≡ with_rectangle_of from left top width 0 p
no_row p from left top width long = block_of_its_own p left top width 0 (λ x y. sample from (left + x) (top + y)) long (λ x y a b c d. absurd (omega (arith, b)))

-- one row more
module _ (p from : Plane) (left top width count : ℕ) where
  abbrev so_far : Plane
  so_far = with_rectangle_of from left top width count p

  abbrev by_row : ℕ → ℕ → ℕ
  by_row x y = if is_inside left (top + count) width 1 x y then sample from (left + (x - left)) (top + count + (y - (top + count))) else sample so_far x y

  abbrev by_all : ℕ → ℕ → ℕ
  by_all x y = if is_inside left top width (count + 1) x y then sample from (left + (x - left)) (top + (y - top)) else sample p x y

  each_row : (x y : ℕ) → x < p.width → y < p.height → by_row x y ≡ by_all x y
  each_row x y column row = grind (arith, nat_tests, sample-with_block)

  first_line : (line : List ℕ) → ((x : ℕ) → x < width → slice_index line x ≡ sample from (left + x) (top + count))
      → (x y : ℕ) → x < width → y < 1 → slice_index line (width * y + x) ≡ sample from (left + x) (top + count + y)
  first_line line same x y low one =
      let none : y ≡ 0 = omega (arith, one) in
      rw none (ap (slice_index line) (omega arith) ∙ same x low ∙ ap (sample from (left + x)) (omega arith))

  pub row_more : (line : List ℕ) → ((x : ℕ) → x < width → slice_index line x ≡ sample from (left + x) (top + count))
      → with_block so_far left (top + count) width 1 (λ x y. slice_index line (width * y + x)) ≡ with_rectangle_of from left top width (count + 1) p
  row_more line same =
      with_block_same so_far left (top + count) width 1 (λ x y. slice_index line (width * y + x)) (λ x y. sample from (left + x) (top + count + y)) (first_line line same)
      ∙ plane_of_same p.width p.height by_row by_all each_row

-- ---- the prediction by a vector of 0 (8.4.2.2.1, 8.4.2.2.2)

held : (n x : ℕ) → x < n → nat_abs (clip3 (pos 0) (pos n -ℤ pos 1) (pos x +ℤ pos 0)) ≡ x
held n x low = grind (arith, ints, nat_tests)

still_luma : (w h : ℕ) (f : ℕ → ℕ → ℕ) (x y : ℕ) → x < w → y < h → inter_luma w h f zero_vector x y ≡ f x y
still_luma w h f x y column row = rw (held w x column, held h y row) refl

whole_of : (a b c d : ℕ) → ((8 - 0) * (8 - 0) * a + 0 * (8 - 0) * b + (8 - 0) * 0 * c + 0 * 0 * d + 32) / 64 ≡ a
whole_of a b c d = omega arith

still_chroma : (w h : ℕ) (f : ℕ → ℕ → ℕ) (x y : ℕ) → x < w → y < h → inter_chroma w h f zero_vector x y ≡ f x y
still_chroma w h f x y column row = whole_of _ _ _ _ ∙ rw (held w x column, held h y row) refl

-- ---- a macroblock whose samples are there already

module _ {PAD : ℕ} (picture : ReferencePicture PAD) (column row : ℕ) (s : Planes) (none : picture.weights ≡ None)
    (same : AreSameIn column row 1 (padded_planes_of picture.planes.now) s) (room : CoverMacroblock column row (padded_planes_of picture.planes.now))
    (l : length s.luma.samples ≡ s.luma.width * s.luma.height) (b : length s.cb.samples ≡ s.cb.width * s.cb.height)
    (r : length s.cr.samples ≡ s.cr.width * s.cr.height) where
  abbrev from_luma : ℕ → ℕ → ℕ
  from_luma x y =
      inter_luma picture.planes.now.luma.width picture.planes.now.luma.height (sample picture.planes.now.luma) zero_vector (16 * column + 0 + x) (16 * row + 0 + y)

  abbrev from_chroma : Plane → ℕ → ℕ → ℕ
  from_chroma t x y = inter_chroma t.width t.height (sample t) zero_vector (8 * column + 0 + x) (8 * row + 0 + y)

  luma_same : (x y : ℕ) → x < 16 → y < 16 → from_luma x y ≡ sample s.luma (16 * column + 0 + x) (16 * row + 0 + y)
  luma_same x y low high =
      still_luma picture.planes.now.luma.width picture.planes.now.luma.height (sample picture.planes.now.luma) (16 * column + 0 + x) (16 * row + 0 + y)
      (omega (arith, low, room.luma.columns)) (omega (arith, high, room.luma.rows))
      ∙ sym (same.luma (16 * column + 0 + x) (16 * row + 0 + y) (omega arith) (omega (arith, low)) (omega arith) (omega (arith, high)))

  chroma_same : (t u : Plane) → 8 * column + 8 ≤ t.width → 8 * row + 8 ≤ t.height → IsSameIn (8 * column) (8 * row) (8 * 1) 8 t u
      → (x y : ℕ) → x < 8 → y < 8 → from_chroma t x y ≡ sample u (8 * column + 0 + x) (8 * row + 0 + y)
  chroma_same t u columns rows here x y low high =
      still_chroma t.width t.height (sample t) (8 * column + 0 + x) (8 * row + 0 + y) (omega (arith, low, columns)) (omega (arith, high, rows))
      ∙ sym (here (8 * column + 0 + x) (8 * row + 0 + y) (omega arith) (omega (arith, low)) (omega arith) (omega (arith, high)))

  pub predicted_in_place : s ≡ with_part column row 0 0 16 16 (λ k x y. predicted_from picture zero_vector k (size_of k * column + x) (size_of k * row + y)) s
  predicted_in_place =
      part_unweighted picture zero_vector column row 0 0 16 16 8 8 s s refl refl none
      (block_of_its_own s.luma (16 * column + 0) (16 * row + 0) 16 16 from_luma l (λ x y low high _ _. luma_same x y low high))
      (block_of_its_own s.cb (8 * column + 0) (8 * row + 0) 8 8 (from_chroma picture.planes.now.cb) b
      (λ x y low high _ _. chroma_same picture.planes.now.cb s.cb room.cb.columns room.cb.rows same.cb x y low high))
      (block_of_its_own s.cr (8 * column + 0) (8 * row + 0) 8 8 (from_chroma picture.planes.now.cr) r
      (λ x y low high _ _. chroma_same picture.planes.now.cr s.cr room.cr.columns room.cr.rows same.cr x y low high))

-- it is built
module _ {PAD : ℕ} (canvas : CanvasState) (address : ℕ) (mb : Mb) (info : NeighbourInfo) (n : MacroblocksAround) (references : List (Option (ReferencePicture PAD)))
    (column row : ℕ) (narrow : column < canvas.width) (low : row < canvas.height) (at : address ≡ row * canvas.width + column)
    (sized : AreSized canvas.width canvas.height canvas.planes) (usable : AreUsable canvas.width canvas.height references)
    (skipped : mb.syntax ≡ p_skip) (still : info.motion ≡ still_blocks) (there : AreInPlace references column row 1 canvas.planes) where
  abbrev s : Planes
  s = canvas.planes

  abbrev picture : ReferencePicture PAD
  picture = there.picture

  module _ (l : length s.luma.samples ≡ s.luma.width * s.luma.height) (b : length s.cb.samples ≡ s.cb.width * s.cb.height)
      (r : length s.cr.samples ≡ s.cr.width * s.cr.height)
      (l' : (x y : ℕ) → x < s.luma.width → y < s.luma.height → sample s.luma x y ≤ 255)
      (b' : (x y : ℕ) → x < s.cb.width → y < s.cb.height → sample s.cb x y ≤ 255)
      (r' : (x y : ℕ) → x < s.cr.width → y < s.cr.height → sample s.cr x y ≤ 255) where
    abbrev shape : IsMacroblockShape still_blocks Whole
    shape = one_shape still_blocks refl

    pictures : have_pictures references still_blocks ≡ true
    pictures = sym (all_as_first references still_blocks refl shape) ∙ ap is_some there.named

    room : CoverMacroblock column row (padded_planes_of picture.planes.now)
    room = (usable_in canvas.width canvas.height column row references (inter 0 zero_vector) picture usable narrow low there.named).planes

    room_here : CoverMacroblock column row s
    room_here = grind arith

    kept : s ≡ with_part column row 0 0 16 16 (λ k x y. predicted_from picture zero_vector k (size_of k * column + x) (size_of k * row + y)) s
    kept = predicted_in_place picture column row s there.unweighted there.same room l b r

    pub built_in_place : (p : Place) → IsPlaceOn canvas address mb info n references p → IsBuilt p (Ok tt) canvas canvas
    built_in_place p on =
        canvas_built canvas address (chroma_qp canvas.chroma_qp_index_offset mb.qp) mb info n (readable_near canvas.constrained_intra_pred n) references p on
        column row narrow at refl (λ _. refl) (Ok tt) s
        (λ place. planes_skip p column row mb.qp (chroma_qp canvas.chroma_qp_index_offset mb.qp) still_blocks s s
        (subst (λ (t : MbSyntax). IsAt column row t mb.qp (chroma_qp canvas.chroma_qp_index_offset mb.qp) p) skipped place.at) (place.motion_is ∙ still) room_here (
          pictures_shown p.coded p.slice references still_blocks place.references_are ∙ pictures,
          all_predicted references canvas.width canvas.height column row still_blocks s s p.coded p.slice refl usable pictures
              (whole_is references column row still_blocks picture zero_vector s s shape there.named refl kept)
              place.width_is place.height_is place.references_are,
        ) l' b' r')
