-- The planes of an open picture, where rows are filtered late.
pub mod Neighbourhoods
unfoldable pub use Neighbourhoods.*

-- ---- what holds of the three planes, by component

module _ (w h : ℕ) where
  pub sized_in : (s : Planes) → IsSized w h s → (k : ℕ) → HasSize (size_of k * w) (size_of k * h) (component s k)
  sized_in s sized zero = sized.luma
  sized_in s sized (suc zero) = sized.cb
  sized_in s sized (suc (suc k)) = sized.cr

  -- one component is changed
  sized_with : (k : ℕ) (g : Plane → Plane) (s : Planes) → IsSized w h s → HasSize (size_of k * w) (size_of k * h) (g (component s k))
      → IsSized w h (in_component k g s)
  sized_with zero g s sized changed = record { luma = changed; cb = sized.cb; cr = sized.cr }
  sized_with (suc zero) g s sized changed = record { luma = sized.luma; cb = changed; cr = sized.cr }
  sized_with (suc (suc k)) g s sized changed = record { luma = sized.luma; cb = sized.cb; cr = changed }

  pub agree_in : (n : ℕ) (s t : Planes) → AgreeBefore w h n s t
      → (k : ℕ) → Agree (size_of k * w) (size_of k * h) (λ x y. address_at (size_of k) w x y < n) (component s k) (component t k)
  agree_in n s t agree zero = agree.luma
  agree_in n s t agree (suc zero) = agree.cb
  agree_in n s t agree (suc (suc k)) = agree.cr

pub some_size : (k : ℕ) → 0 < size_of k
some_size zero = omega arith
some_size (suc k) = omega arith

-- ---- building and filtering keep the sizes of planes: a plane

pub with_block_sized : (w h : ℕ) (s : Plane) (left top width height : ℕ) (f : ℕ → ℕ → ℕ) → HasSize w h s → HasSize w h (with_block s left top width height f)
with_block_sized w h s left top width height f size =
    let changed : ℕ → ℕ → ℕ = λ x y. if is_inside left top width height x y then f (x - left) (y - top) else sample s x y in
    record { columns = size.columns; rows = size.rows; all = length-plane_of s.width s.height changed ∙ ap (λ a. a * s.height) size.columns ∙ ap (λ b. w * b) size.rows }

with_sample_sized : (w h : ℕ) (s : Plane) (x y value : ℕ) → HasSize w h s → HasSize w h (with_sample s x y value)
with_sample_sized w h s x y value size =
    record { columns = size.columns; rows = size.rows; all = length-set s.samples (y * s.width + x) value ∙ size.all }

-- ---- a macroblock

pub with_blocks4x4_sized : (w h : ℕ) (p : Place) (n : ℕ) (s : Plane) → HasSize w h s → HasSize w h (with_blocks4x4 p n s)
with_blocks4x4_sized w h p zero s size = size
with_blocks4x4_sized w h p (suc n) s size =
    let before : HasSize w h (with_blocks4x4 p n s) = with_blocks4x4_sized w h p n s size in
    search with_block_sized

luma_after_sized : (w h : ℕ) (p : Place) (syntax : MbSyntax) (s : Plane) → HasSize w h s → HasSize w h (luma_after p syntax s)
luma_after_sized w h p (i_nxn m k r) s size = with_blocks4x4_sized w h p 16 s size
luma_after_sized w h p syntax s size = search with_block_sized

chroma_after_sized : (w h : ℕ) (p : Place) (k : ℕ) (syntax : MbSyntax) (s : Plane) → HasSize w h s → HasSize w h (chroma_after p k syntax s)
chroma_after_sized w h p k p_skip s size = search with_block_sized
chroma_after_sized w h p k syntax s size = search with_block_sized

-- ---- the picture

pub built_on_sized : (w h : ℕ) (c : Coded) (modes : List (List NearMode)) (motion : List (List Motion)) (a : ℕ) (s : Planes) (ms : List PicMb)
    → IsSized w h s → IsSized w h (built_on c modes motion a s ms)
built_on_sized w h c modes motion a s [] size = size
built_on_sized w h c modes motion a s (m ∷ ms) size =
    let p = place_of c modes motion a m in
    built_on_sized w h c modes motion (a + 1) (planes_after p s) ms (record {
      luma = luma_after_sized _ _ p p.mb.syntax s.luma size.luma;
      cb = chroma_after_sized _ _ p 1 p.mb.syntax s.cb size.cb;
      cr = chroma_after_sized _ _ p 2 p.mb.syntax s.cr size.cr;
    })

pub empty_sized : (w h : ℕ) → IsSized w h (empty_planes w h)
empty_sized w h = search (rules, length-plane_of)

built_sized : (c : Coded) → IsSized c.width c.height (built c)
built_sized c = built_on_sized c.width c.height c (modes_before c (length c.mbs)) (motion_before c (length c.mbs)) 0 (empty_planes c.width c.height) c.mbs (empty_sized c.width c.height)

-- ---- the filters

with_line_sized : (w h : ℕ) (s : Plane) (is_vertical : Bool) (x y : ℕ) (l : Line) → HasSize w h s → HasSize w h (with_line s is_vertical x y l)
with_line_sized w h s true x y l size = search with_sample_sized depth 8
with_line_sized w h s false x y l size = search with_sample_sized depth 8

pub all_sized : (w h : ℕ) (c : Coded) (motion : List (List Motion)) (s : Planes) (fs : List LineFilter) → IsSized w h s → IsSized w h (all_filtered c motion s fs)
all_sized w h c motion s [] size = size
all_sized w h c motion s (f ∷ fs) size =
    all_sized w h c motion (step_filtered c motion s f) fs (sized_with w h f.component (line_filtered (setting_at c motion f) f.is_vertical f.x f.y) s size
    (with_line_sized _ _ _ f.is_vertical f.x f.y (filtered (setting_at c motion f) (line_at (component s f.component) f.is_vertical f.x f.y)) (sized_in w h s size f.component)))

pub pictures_sized : PicturesAreSized
pictures_sized p slices =
    let c = coded_of p (progress p slices) in
    all_sized (width_in_mbs p.sps) (height_in_mbs p.sps) c (motion_before c (length c.mbs)) (built c) (line_filters c) (built_sized c)

-- ---- a picture does not depend on the planes in which it began: none, and all

address_below : (size w h x y : ℕ) → 0 < size → x < size * w → y < size * h → address_at size w x y < h * w
address_below size w h x y some column row =
    let across : x / size < w = (div-lt_iff_lt-mul some).1 (omega (arith, mul_comm size w)) in
    let down : y / size < h = (div-lt_iff_lt-mul some).1 (omega (arith, mul_comm size h)) in
    let under : (y / size + 1) * w ≤ h * w = mul-le-mul_right w (omega arith) in
    omega (arith, add-mul (y / size) 1 w)

-- planes of a size that agree on all macroblocks are the same
agree_all : (size width height : ℕ) → 0 < size → 0 < width → (s t : Plane) → HasSize (size * width) (size * height) s → HasSize (size * width) (size * height) t
    → Agree (size * width) (size * height) (λ x y. address_at size width x y < width * height) s t → s ≡ t
agree_all size width height some wide s t s_size t_size agree =
    ap (λ n. record { width = n; height = s.height; samples = s.samples }) (s_size.columns ∙ sym t_size.columns)
    ∙ ap (λ n. record { width = t.width; height = n; samples = s.samples }) (s_size.rows ∙ sym t_size.rows)
    ∙ ap (λ (l : List ℕ). record { width = t.width; height = t.height; samples = l }) (ext_get_or 0 s.samples t.samples (s_size.all ∙ sym t_size.all) each)
  where
    each : (i : ℕ) → i < length s.samples → slice_index s.samples i ≡ slice_index t.samples i
    each i less =
        let w : ℕ = size * width in
        let some_column : 0 < w = let e : 1 * width ≤ size * width = mul-le-mul_right width some in omega arith in
        let x : ℕ = i % w in
        let y : ℕ = i / w in
        let parts : y * w + x ≡ i = div-add-mod' i w in
        let column : x < w = mod_below i w some_column in
        let row : y < size * height = (div-lt_iff_lt-mul some_column).1 (omega (arith, mul_comm w (size * height))) in
        let inside : address_at size width x y < width * height = omega (arith, address_below size width height x y some column row, mul_comm width height) in
        let here : slice_index s.samples (y * s.width + x) ≡ slice_index t.samples (y * t.width + x) = agree.samples x y column row inside in
        rw (s_size.columns, t_size.columns, parts) at here

pub none_agree : (width height : ℕ) (s t : Planes) → IsSized width height s → IsSized width height t → AgreeBefore width height 0 s t
none_agree width height s t a b = grind arith

pub all_agree : (width height : ℕ) → 0 < width → (s t : Planes) → IsSized width height s → IsSized width height t → AgreeBefore width height (width * height) s t → s ≡ t
all_agree width height wide s t s_sized t_sized agree =
    let same = λ (k : ℕ). agree_all (size_of k) width height (some_size k) wide (component s k) (component t k) (sized_in _ _ s s_sized k) (sized_in _ _ t t_sized k) (agree_in _ _ _ _ _ agree k) in
    planes_same s t (same 0) (same 1) (same 2)

-- ---- the picture

module _ (c : Coded) (some : 0 < c.width) (modes : List (List NearMode)) (motion : List (List Motion)) where
  pub built_agrees : (a : ℕ) (s t : Planes) (ms : List PicMb) → a + length ms ≤ c.width * c.height → AgreeBefore c.width c.height a s t
      → AgreeBefore c.width c.height (a + length ms) (built_on c modes motion a s ms) (built_on c modes motion a t ms)
  built_agrees a s t [] within agree = let same : a ≡ a + 0 = omega arith in subst (λ n. AgreeBefore c.width c.height n s t) same agree
  built_agrees a s t (m ∷ ms) within agree =
      let p : Place = place_of c modes motion a m in
      let room : a / c.width < c.height = (div-lt_iff_lt-mul some).1 (omega (arith, within, mul_comm c.width c.height)) in
      let more = planes_agree p c.height some room s t agree in
      let next : AgreeBefore c.width c.height (a + 1) (planes_after p s) (planes_after p t) = subst (λ n. AgreeBefore c.width c.height n (planes_after p s) (planes_after p t)) (sym (add-one a)) more in
      let count : a + 1 + length ms ≡ a + suc (length ms) = omega arith in
      subst (λ n. AgreeBefore c.width c.height n (built_on c modes motion (a + 1) (planes_after p s) ms) (built_on c modes motion (a + 1) (planes_after p t) ms)) count
      (built_agrees (a + 1) (planes_after p s) (planes_after p t) ms (omega (arith, within)) next)

-- a full picture is the same, whatever its planes were before
pub built_anyhow : (c : Coded) → 0 < c.width → length c.mbs ≡ c.width * c.height → (s : Planes) → IsSized c.width c.height s
    → built_on c (modes_before c (length c.mbs)) (motion_before c (length c.mbs)) 0 s c.mbs ≡ built c
built_anyhow c some all s sized = grind (arith, empty_sized, built_agrees, none_agree, all_agree, built_on_sized, AgreeBefore)

-- ---- the planes of a picture's first macroblocks, over one macroblock more

-- the place of a macroblock with these modes and this motion
abbrev place : Coded → ℕ → PicMb → List NearMode → List Motion → Place
place c a m modes motion = record { coded = c; address = a; slice = m.slice; mb = m.mb; modes = modes; motion = motion }

module _ (c : Coded) (modes modes' : List (List NearMode)) (motion motion' : List (List Motion)) where
  same_place : (a : ℕ) (m : PicMb) → slice_index_or modes a [] ≡ slice_index_or modes' a []
      → slice_index_or motion a [] ≡ slice_index_or motion' a [] → place_of c modes motion a m ≡ place_of c modes' motion' a m
  same_place a m e f = grind arith

  same_built : (a : ℕ) (s : Planes) (ms : List PicMb)
      → ((k : ℕ) → k < a + length ms → slice_index_or modes k [] ≡ slice_index_or modes' k [])
      → ((k : ℕ) → k < a + length ms → slice_index_or motion k [] ≡ slice_index_or motion' k [])
      → built_on c modes motion a s ms ≡ built_on c modes' motion' a s ms
  same_built a s [] e f = refl
  same_built a s (m ∷ ms) e f =
      grind (arith, same_place, same_built (a + 1) (planes_after (place_of c modes motion a m) s) ms (λ k h. e k (omega (arith, h))) (λ k h. f k (omega (arith, h))))

  built_more : (a n : ℕ) (s : Planes) (ms : List PicMb) (m : PicMb) → n ≡ a + length ms
      → built_on c modes motion a s (ms ++ m ∷ []) ≡ planes_after (place_of c modes motion n m) (built_on c modes motion a s ms)
  built_more a n s [] m at = ap (λ k. planes_after (place_of c modes motion k m) s) (omega (arith, at))
  built_more a n s (x ∷ ms) m at = built_more (a + 1) n (planes_after (place_of c modes motion a x) s) ms m (omega (arith, at))

module _ (c : Coded) (s : Planes) (n : ℕ) (m : PicMb) (is : slice_get c.mbs n ≡ Some m) where
  pub first_built_more : first_built c s (suc n)
      ≡ planes_after (place_of c (modes_before c (suc n)) (motion_before c (suc n)) n m) (first_built c s n)
  first_built_more =
      let modes = modes_before c (suc n) in
      let motion = motion_before c (suc n) in
      let within : n < length c.mbs = slice_get_within c.mbs n m is in
      let long : length (take n c.mbs) ≡ n = length-take-le n c.mbs (omega arith) in
      ap (built_on c modes motion 0 s) (take-suc c.mbs n m within ∙ ap (λ x. take n c.mbs ++ x ∷ []) (get_or_from_slice_get c.mbs n m m is))
      ∙ built_more c modes modes motion motion 0 n s (take n c.mbs) m (omega (arith, long))
      ∙ ap (planes_after (place_of c modes motion n m))
      (same_built c modes (modes_before c n) motion (motion_before c n) 0 s (take n c.mbs)
      (λ k h. grown_entry (modes_before c) _ refl (λ j. refl) n (suc n) k [] (omega (arith, h, long)) (omega arith))
      (λ k h. grown_entry (motion_before c) _ refl (λ j. refl) n (suc n) k [] (omega (arith, h, long)) (omega arith)))

-- ---- the filter of the last whole row of macroblocks, from the info of the rows that are kept

-- the info that is kept of a row, from those of all macroblocks
pub part : (c : Coded) (motion : List (List Motion)) (names : Names) (all kept : List MbInfo) (address first n : ℕ) → AreFrom all address n kept
    → length kept ≡ n → address + n ≤ length all → first ≡ address → HaveInfo c motion names 0 all → HaveInfo c motion names first kept
part c motion names all kept address first n from long within same have = λ k other below. grind arith

row_are : (c : Coded) (names : Names) (offset : ℤ) {info : List MbInfo} {width : ℕ} → AreInfoOf c names offset (record { width = width; info = info }) → (row : ℕ)
    → {above last : List MbInfo} → length above ≡ width → length last ≡ width → row * width + width ≤ length info → AreFrom info (row * width) width last
    → (1 ≤ row → AreFrom info ((row - 1) * width) width above) → AreOfRow c (motion_before c (length c.mbs)) names row offset above last
row_are c names offset {info} {width} of row {above} {last} above_long last_long within last_is above_is = grind (arith, mul-le-mul_right, part)

module _ {info : List MbInfo} {width column row : ℕ} {current last above : List MbInfo} (kept : AreLastRows info width column row current last above) where
  -- the row of the macroblock that comes next
  pub row_of_last : length info / width ≡ row
  row_of_last = ap (λ n. n / width) kept.count ∙ div-mul-add row width column kept.narrow

  pub same_row : column + 1 < width → suc (length info) / width ≡ row
  same_row more = ap (λ n. n / width) (omega (arith, kept.count)) ∙ div-mul-add row width (column + 1) more

  pub next_row : column + 1 ≡ width → suc (length info) / width ≡ suc row
  next_row end = grind (arith, div-mul-add)

  pub row_filtered : (c : Coded) (names : Names) (offset : ℤ) → AreInfoOf c names offset (record { width = width; info = info }) → 1 ≤ row
      → (old new : Planes) → new ≡ row_by_info offset (row - 1) above last (length last) old
      → FiltersUpTo c (filtered_rows width (length info)) (length info / width) old new
  row_filtered c names offset of some old new new_is s old_is =
      let motion = motion_before c (length c.mbs) in
      let r : ℕ = row - 1 in
      let whole : row ≡ suc r = omega arith in
      let rows : row * width ≡ r * width + width = ap (λ n. n * width) whole ∙ omega arith in
      let two : r - 1 ≡ row - 2 = omega arith in
      let are : AreOfRow c motion names r offset above last =
      row_are c names offset of r kept.above_long kept.last_long (omega (arith, rows, kept.count)) (kept.last_is some) (λ more. rw two (kept.above_is (omega (arith, more, whole)))) in
      new_is
      ∙ row_lines_filtered c motion names r offset above last old are
      ∙ ap (λ t. all_filtered c motion t (row_lines c r)) (old_is ∙ ap (λ n. rows_filtered c (n - 1) s) row_of_last)
      ∙ ap (λ n. rows_filtered c n s) (sym whole ∙ sym row_of_last)

-- ---- what the filter is told of one macroblock, where it is kept

-- an entry of what is kept, from the info of all macroblocks
entry_kept : (all kept : List MbInfo) (first n k : ℕ) → AreFrom all first n kept → n ≤ length kept → first + n ≤ length all → k < n
    → slice_get kept k ≡ slice_get all (first + k)
entry_kept all kept first n k from long within below = elim (slice_get_cases kept k).1 [
  | inl found ↦ found.2 ∙ sym (slice_get-get_or all (first + k) found.0 (omega arith) ∙ ap Some (sym (from k found.0 below) ∙ found.3))
  | inr past ↦ absurd (omega (arith, past.0))
]

-- an entry of a list that is lent
pub lent_entry : {A : Type 0} (lent : Option (Bor A)) (xs : List A) (k : ℕ) → is_some lent ≡ nat_lt k (length xs)
    → IfSome lent (λ x. x.now ≡ slice_index_or xs k x.now) → option_copied lent ≡ slice_get xs k
lent_entry (Some x) xs k some at = let low : k < length xs = grind (arith, nat_tests) in sym (slice_get_read xs (length xs) k x.now refl low at)
lent_entry None xs k some at = let past : length xs ≤ k = grind (arith, nat_tests) in sym (slice_get_past xs k past)

within_rows : (first address n : ℕ) → first ≤ address → address < n → (nat_le first address && nat_lt address n) ≡ true
within_rows first address n low high = grind (arith, nat_tests)

behind_rows : (first address n : ℕ) → n ≤ address → (nat_le first address && nat_lt address n) ≡ false
behind_rows first address n past = grind (arith, nat_tests)

module _ {info : List MbInfo} {width column row : ℕ} {current last above : List MbInfo} (kept : AreLastRows info width column row current last above) (address : ℕ) where
  abbrev own_row : ℕ
  own_row = address / width

  abbrev own_column : ℕ
  own_column = address % width

  abbrev if_kept : Bool → Option MbInfo
  if_kept is = if is then slice_get info address else None

  some_width : 0 < width
  some_width = omega (arith, kept.narrow)

  own_place : own_row * width + own_column ≡ address
  own_place = div-add-mod' address width

  own_narrow : own_column < width
  own_narrow = mod_below address width some_width

  first_is : (length info / width - 2) * width ≡ (row - 2) * width
  first_is = ap (λ r. (r - 2) * width) (row_of_last kept)

  is_there_still : (row - 2) * width ≤ address → address < length info → kept_info width info address ≡ slice_get info address
  is_there_still low high = ap if_kept (within_rows ((length info / width - 2) * width) address (length info) (omega (arith, low, first_is)) high)

  is_not_yet : length info ≤ address → kept_info width info address ≡ None
  is_not_yet past = ap if_kept (behind_rows ((length info / width - 2) * width) address (length info) past)

  -- the entry of one of the rows that are kept
  entry_of_row : (r : ℕ) (xs : List MbInfo) (n : ℕ) → r ≡ own_row → r ≤ row → row - 2 ≤ r → AreFrom info (r * width) n xs → n ≤ length xs → r * width + n ≤ length info
      → own_column < n → slice_get xs own_column ≡ kept_info width info address
  entry_of_row r xs n is low near from long within below =
      let place : r * width + own_column ≡ address = ap (λ k. k * width + own_column) is ∙ own_place in
      let first : (row - 2) * width ≤ r * width = mul-le-mul_right width near in
      entry_kept info xs (r * width) n own_column from long within below ∙ ap (slice_get info) place ∙ sym (is_there_still (omega (arith, first, place)) (omega (arith, within, place, below)))

  pub current_entry : own_row ≡ row → slice_get (take column current) own_column ≡ kept_info width info address
  current_entry is =
      let long : length (take column current) ≡ column = length-take-le column current (omega (arith, kept.narrow, kept.current_long)) in
      let place : row * width + own_column ≡ address = ap (λ k. k * width + own_column) (sym is) ∙ own_place in
      elim (cases_lt own_column column) [
        | inl below ↦ entry_of_row row (take column current) column (sym is) (omega arith) (omega arith)
            (λ k other low. get_or-take column current k other low ∙ kept.current_is k other low) (omega (arith, long)) (omega (arith, kept.count)) below
        | inr past ↦ slice_get_past (take column current) own_column (omega (arith, long, past)) ∙ sym (is_not_yet (omega (arith, kept.count, place, past)))
      ]

  -- a row above that of the macroblock that comes next is whole
  whole_row : (r : ℕ) → suc r ≤ row → r * width + width ≤ length info
  whole_row r less = let above_it : suc r * width ≤ row * width = mul-le-mul_right width less in omega (arith, above_it, kept.count)

  pub last_entry : suc own_row ≡ row → slice_get last own_column ≡ kept_info width info address
  last_entry is =
      let r : row - 1 ≡ own_row = omega (arith, is) in
      entry_of_row own_row last width refl (omega (arith, is)) (omega (arith, is)) (subst (λ k. AreFrom info (k * width) width last) r (kept.last_is (omega (arith, is))))
      (omega (arith, kept.last_long)) (whole_row own_row (omega (arith, is))) own_narrow

  pub above_entry : suc (suc own_row) ≡ row → slice_get above own_column ≡ kept_info width info address
  above_entry is =
      let r : row - 2 ≡ own_row = omega (arith, is) in
      entry_of_row own_row above width refl (omega (arith, is)) (omega (arith, is)) (subst (λ k. AreFrom info (k * width) width above) r (kept.above_is (omega (arith, is))))
      (omega (arith, kept.above_long)) (whole_row own_row (omega (arith, is))) own_narrow

-- the filter of a row keeps the size of the planes
pub row_sized : (offset : ℤ) (row : ℕ) (above info : List MbInfo) (s : Planes) → ((column : ℕ) → column < length info → HasRoom column row s)
    → (w h : ℕ) → AreSized w h s → AreSized w h (row_by_info offset row above info (length info) s)
row_sized offset row above info s room w h sized =
    let a = row_acts s.luma.width s.cb.width s.cr.width row offset above info (length info)
    (λ k low. (room k low).luma_columns) (λ k low. (room k low).cb_columns) (λ k low. (room k low).cr_columns) in
    rw (a.is s) (grind (arith, a.luma_local.width, a.luma_local.height, a.cb_local.width, a.cb_local.height, a.cr_local.width, a.cr_local.height))

-- ---- a macroblock can be built before the filter of the rows two and more above it, or after it: below what a filter changes

agree_below : (first end : ℕ) (s t : Plane) → ChangesWithin first end s t → length s.samples ≡ s.width * s.height → AgreeFrom end s t
agree_below first end s t changes full x y low =
    let i : ℕ = y * s.width + x in
    rw changes.width (elim (cases_lt i (s.width * s.height)) [
      | inl less ↦
          let some = some_column i s.width s.height less in
          let column : ℕ = i % s.width in
          let row : ℕ = i / s.width in
          let parts : row * s.width + column ≡ i = div-add-mod' i s.width in
          let narrow : column < s.width = mod_below i s.width some in
          let deep : y ≤ row = ⊎_elim
          (λ above. let over : (row + 1) * s.width ≤ y * s.width = mul-le-mul_right s.width (omega (arith, above)) in absurd (omega (arith, over, parts, narrow)))
          (λ no. no) (cases_lt row y) in
          rw (changes.width, parts) at (changes.samples column row narrow (row_of i s.width s.height less) (λ lo hi. omega arith))
      | inr past ↦ get_or_past t.samples i 0 (omega (arith, changes.long)) ∙ sym (get_or_past s.samples i 0 (omega arith))
    ])

full_of : {w h : ℕ} {s : Plane} → HasSize w h s → length s.samples ≡ s.width * s.height
full_of size = rw (size.columns, size.rows) size.all

-- two changes that do the same to a component
same_in : (k : ℕ) (g h : Plane → Plane) (s : Planes) → g (component s k) ≡ h (component s k) → in_component k g s ≡ in_component k h s
same_in zero g h s e = ap (λ p. record { luma = p; cb = s.cb; cr = s.cr }) e
same_in (suc zero) g h s e = ap (λ p. record { luma = s.luma; cb = p; cr = s.cr }) e
same_in (suc (suc k)) g h s e = ap (λ p. record { luma = s.luma; cb = s.cb; cr = p }) e

-- ---- the row of a filter, in planes of a picture's size

module _ (offset : ℤ) (row : ℕ) (above info : List MbInfo) (w h : ℕ) (wide : length info ≡ w) (in_picture : row < h) where
  abbrev filter_by_info : Planes → Planes
  filter_by_info s = row_by_info offset row above info (length info) s

  pub has_row : (s : Planes) → IsSized w h s → HasRow row (length info) s
  has_row s sized = record {
    full = record { luma = full_of sized.luma; cb = full_of sized.cb; cr = full_of sized.cr };
    luma_rows = omega arith;
    cb_rows = omega arith;
    cr_rows = omega arith;
    room = λ column low. grind arith;
  }

  changes : (s : Planes) → IsSized w h s → ChangesInRow row s (filter_by_info s)
  changes s sized = row_changes offset row above info s (has_row s sized)

  -- the samples of a component across a macroblock
  abbrev size : ℕ → ℕ
  size k = 16 / luma_per_sample k

  pub same_below : (s : Planes) → IsSized w h s → (k : ℕ) → AgreeFrom (size k * row + size k) (component s k) (component (filter_by_info s) k)
  same_below s sized zero = agree_below (16 * row - 3) (16 * row + 16) s.luma (filter_by_info s).luma (changes s sized).luma (has_row s sized).full.luma
  same_below s sized (suc zero) = agree_below (8 * row - 1) (8 * row + 8) s.cb (filter_by_info s).cb (changes s sized).cb (has_row s sized).full.cb
  same_below s sized (suc (suc k)) = agree_below (8 * row - 1) (8 * row + 8) s.cr (filter_by_info s).cr (changes s sized).cr (has_row s sized).full.cr

  -- a block that is built from the samples before it
  block_built : (k left top width height : ℕ) (f : Plane → ℕ → ℕ → ℕ) (s : Planes) → IsSized w h s → size k * (row + 1) ≤ top
      → ((x y : ℕ) → x < width → y < height → f (component (filter_by_info s) k) x y ≡ f (component s k) x y)
      → filter_by_info (in_component k (λ p. with_block p left top width height (f p)) s) ≡ in_component k (λ p. with_block p left top width height (f p)) (filter_by_info s)
  block_built k left top width height f s sized below same =
      let given : Plane → Plane = λ p. with_block p left top width height (f (component s k)) in
      ap filter_by_info (same_in k (λ p. with_block p left top width height (f p)) given s refl)
      ∙ row_commutes offset row above info s (has_row s sized) k left top width height (f (component s k)) below
      ∙ same_in k given (λ p. with_block p left top width height (f p)) (filter_by_info s)
      (sym (with_block_same (component (filter_by_info s) k) left top width height (f (component (filter_by_info s) k)) (f (component s k)) same))

  -- ---- a macroblock two rows further down

  module _ (p : Place) (down : row + 2 ≤ p.address / p.coded.width) where
    blocks4x4 : (n : ℕ) (s : Planes) → IsSized w h s
        → filter_by_info (in_component 0 (with_blocks4x4 p n) s) ≡ in_component 0 (with_blocks4x4 p n) (filter_by_info s)
    blocks4x4 zero s sized = refl
    blocks4x4 (suc n) s sized =
        let t : Planes = in_component 0 (with_blocks4x4 p n) s in
        let t_sized : IsSized w h t = record { luma = with_blocks4x4_sized (16 * w) (16 * h) p n s.luma sized.luma; cb = sized.cb; cr = sized.cr } in
        block_built 0 (left_of_mb p 0 + block_x n) (top_of_mb p 0 + block_y n) 4 4 (block_from p n) t t_sized (omega arith)
        (block_same (16 * row + 16) t.luma (filter_by_info t).luma (same_below t t_sized 0) p (omega arith) n)
        ∙ ap (in_component 0 (with_block4x4 p n)) (blocks4x4 n s sized)

    -- a macroblock built by f from the samples of a component
    mb_built : (k : ℕ) (f : Plane → ℕ → ℕ → ℕ) (s : Planes) → IsSized w h s
        → ((x y : ℕ) → x < size_of k → y < size_of k → f (component (filter_by_info s) k) x y ≡ f (component s k) x y)
        → filter_by_info (in_component k (λ q. with_macroblock p k (f q) q) s) ≡ in_component k (λ q. with_macroblock p k (f q) q) (filter_by_info s)
    mb_built zero f s sized same = block_built 0 (left_of_mb p 0) (top_of_mb p 0) 16 16 f s sized (omega arith) same
    mb_built (suc k) f s sized same = block_built (suc k) (left_of_mb p (suc k)) (top_of_mb p (suc k)) 8 8 f s sized (omega arith) same

    luma_built : (syntax : MbSyntax) (s : Planes) → IsSized w h s
        → filter_by_info (in_component 0 (luma_after p syntax) s) ≡ in_component 0 (luma_after p syntax) (filter_by_info s)
    luma_built (i_pcm luma cb cr) s sized = mb_built 0 (λ q x y. slice_index luma (16 * y + x)) s sized (λ x y across low. refl)
    luma_built (i_16x16 m chroma r) s sized =
        mb_built 0 (luma_from p m) s sized (luma_same (16 * row + 16) s.luma (filter_by_info s).luma (same_below s sized 0) p (omega arith) m)
    luma_built (i_nxn modes chroma r) s sized = blocks4x4 16 s sized
    luma_built syntax s sized = mb_built 0 (λ q. inter_at p 0) s sized (λ x y across low. refl)

    intra_built : (k chroma : ℕ) (s : Planes) → IsSized w h s → filter_by_info (in_component (suc k) (λ q. with_macroblock p (suc k) (chroma_from p chroma (suc k) q) q) s)
        ≡ in_component (suc k) (λ q. with_macroblock p (suc k) (chroma_from p chroma (suc k) q) q) (filter_by_info s)
    intra_built k chroma s sized =
        mb_built (suc k) (chroma_from p chroma (suc k)) s sized
        (chroma_same (8 * row + 8) (component s (suc k)) (component (filter_by_info s) (suc k)) (same_below s sized (suc k)) p (suc k) (omega arith) chroma)

    chroma_built : (k : ℕ) (syntax : MbSyntax) (s : Planes) → IsSized w h s
        → filter_by_info (in_component (suc k) (chroma_after p (suc k) syntax) s) ≡ in_component (suc k) (chroma_after p (suc k) syntax) (filter_by_info s)
    chroma_built k (i_pcm luma cb cr) s sized = mb_built (suc k) (λ q x y. slice_index (if suc k == 1 then cb else cr) (8 * y + x)) s sized (λ x y across low. refl)
    chroma_built k (i_16x16 m chroma r) s sized = intra_built k chroma s sized
    chroma_built k (i_nxn modes chroma r) s sized = intra_built k chroma s sized
    chroma_built k syntax s sized = mb_built (suc k) (λ q. inter_at p (suc k)) s sized (λ x y across low. refl)

    pub built_after : (s : Planes) → IsSized w h s → filter_by_info (planes_after p s) ≡ planes_after p (filter_by_info s)
    built_after s sized =
        let syntax : MbSyntax = p.mb.syntax in
        let l : Planes → Planes = in_component 0 (luma_after p syntax) in
        let b : Planes → Planes = in_component 1 (chroma_after p 1 syntax) in
        let r : Planes → Planes = in_component 2 (chroma_after p 2 syntax) in
        let one : IsSized w h (l s) = record { luma = luma_after_sized (16 * w) (16 * h) p syntax s.luma sized.luma; cb = sized.cb; cr = sized.cr } in
        let two : IsSized w h (b (l s)) = record { luma = one.luma; cb = chroma_after_sized (8 * w) (8 * h) p 1 syntax s.cb sized.cb; cr = sized.cr } in
        chroma_built 1 syntax (b (l s)) two
        ∙ ap r (chroma_built 0 syntax (l s) one)
        ∙ ap (λ t. r (b t)) (luma_built syntax s sized)

-- ---- the planes with a macroblock more, where all whole rows but the last are filtered: the info of one row

abbrev from : List MbInfo → (address n : ℕ) → List MbInfo
from all address n = take n (drop address all)

are_from : (all : List MbInfo) (address n : ℕ) → AreFrom all address n (from all address n)
are_from all address n k other low = get_or-take n (drop address all) k other low ∙ get_or-drop address all k other

pub from_long : (all : List MbInfo) (address n : ℕ) → address + n ≤ length all → length (from all address n) ≡ n
from_long all address n within = length-take-le n (drop address all) (omega (arith, within, length-drop address all))

-- ---- rows that are filtered

module _ (c : Coded) (names : Names) (offset : ℤ) (f : FilterInfo) (of : AreInfoOf c names offset f) where
  abbrev motion : List (List Motion)
  motion = motion_before c (length c.mbs)

  abbrev pub row_info : ℕ → List MbInfo
  row_info row = from f.info (row * f.width) f.width

  pub row_info_are : (row : ℕ) → row * f.width + f.width ≤ length f.info → AreOfRow c motion names row offset (row_info (row - 1)) (row_info row)
  row_info_are row within = grind (arith, mul-le-mul_right, from_long, part, are_from)

  pub rows_sized : (w h rows : ℕ) (s : Planes) → IsSized w h s → IsSized w h (rows_filtered c rows s)
  rows_sized w h zero s sized = sized
  rows_sized w h (suc row) s sized = all_sized w h c motion (rows_filtered c row s) (row_lines c row) (rows_sized w h row s sized)

  pub rows_and_macroblock : (p : Place) (h rows : ℕ) → rows ≤ h
      → ((row : ℕ) → row < rows → (row * f.width + f.width ≤ length f.info) × (row + 2 ≤ p.address / p.coded.width))
      → (s : Planes) → IsSized f.width h s → rows_filtered c rows (planes_after p s) ≡ planes_after p (rows_filtered c rows s)
  rows_and_macroblock p h zero high ready s sized = refl
  rows_and_macroblock p h (suc row) high ready s sized =
      let t : Planes = rows_filtered c row s in
      let lines = row_lines c row in
      let there = (ready row (omega arith)).0 in
      let are = row_info_are row there in
      let long = from_long f.info (row * f.width) f.width there in
      let by_row : (u : Planes) → row_by_info offset row (row_info (row - 1)) (row_info row) (length (row_info row)) u ≡ all_filtered c motion u lines =
      λ u. row_lines_filtered c motion names row offset (row_info (row - 1)) (row_info row) u are in
      ap (λ u. all_filtered c motion u lines)
      (rows_and_macroblock p h row (omega arith) (λ k low. ready k (omega arith)) s sized)
      ∙ sym (by_row (planes_after p t))
      ∙ built_after offset row (row_info (row - 1)) (row_info row) f.width h long (omega arith) p (ready row (omega arith)).1 t (rows_sized f.width h row s sized)
      ∙ ap (planes_after p) (by_row t)

  -- One macroblock more is built.
  pub late_more : (n : ℕ) (m : PicMb) → slice_get c.mbs n ≡ Some m → length f.info ≡ n → 0 < c.width → n < c.width * c.height
      → (begun : Planes) → IsSized c.width c.height begun → (planes : Planes) → planes ≡ row_late c begun n
      → planes_after (place_of c (modes_before c (suc n)) (motion_before c (suc n)) n m) planes ≡ rows_filtered c (filtered_rows c.width n) (first_built c begun (suc n))
  late_more n m is count some room begun begun_sized planes e =
      let p : Place = place_of c (modes_before c (suc n)) (motion_before c (suc n)) n m in
      let rows : ℕ = filtered_rows c.width n in
      let s : Planes = first_built c begun n in
      let sized : IsSized c.width c.height s = built_on_sized c.width c.height c (modes_before c n) (motion_before c n) 0 begun (take n c.mbs) begun_sized in
      let high : n / c.width < c.height = (div-lt_iff_lt-mul some).1 (omega (arith, room, mul_comm c.width c.height)) in
      let all : n / c.width * c.width ≤ n = div-mul-le_self n c.width in
      ap (planes_after p) e
      ∙ sym (rows_and_macroblock p c.height rows (omega arith) (λ row low.
      let next : (row + 1) * c.width ≤ n / c.width * c.width = mul-le-mul_right c.width (omega arith) in
      (rw (← of.width_is) (omega (arith, next, all, count)), omega arith))
      s (rw (← of.width_is) sized))
      ∙ ap (rows_filtered c rows) (sym (first_built_more c begun n m is))

-- ---- the samples of an open picture's macroblocks do not depend on the planes in which it began, where rows of them are filtered

-- ---- one plane, over the filter of a row

module _ (size w h row n : ℕ) (some : 0 < size) (within : (row + 1) * w ≤ n) (room : size * row + size ≤ size * h) {s t : Plane}
    (agree : Agree (size * w) (size * h) (λ x y. address_at size w x y < n) s t) where
  -- the premise of what the filter reads
  agrees_above : length t.samples ≡ length s.samples → AgreesAbove (size * row + size) s t
  agrees_above long = record {
    width = agree.other_width ∙ sym agree.width;
    height = agree.other_height ∙ sym agree.height;
    long = long;
    samples = λ x y column above.
        let narrow : x < size * w = omega (arith, column, agree.width) in
        let low : y < size * (row + 1) = omega (arith, add-mul row 1 size, mul_comm size row, mul_comm size (row + 1)) in
        sym (agree.samples x y narrow (omega (arith, above, room)) (omega (arith, address_below size w (row + 1) x y some narrow low)));
  }

  -- and what holds thereafter
  agree_then : {s' t' : Plane} {first : ℕ} → AgreesAbove (size * row + size) s' t' → ChangesWithin first (size * row + size) s s'
      → ChangesWithin first (size * row + size) t t' → Agree (size * w) (size * h) (λ x y. address_at size w x y < n) s' t'
  agree_then read s_same t_same = grind (arith, read.samples, s_same.samples, t_same.samples, agree.samples)

-- ---- the three planes, over rows that are filtered

module _ (c : Coded) (names : Names) (offset : ℤ) (f : FilterInfo) (of : AreInfoOf c names offset f) (h n : ℕ) (counted : n ≤ length f.info) where
  pub rows_agree : (rows : ℕ) → rows ≤ h → ((row : ℕ) → row < rows → row * f.width + f.width ≤ n) → (s t : Planes) → IsSized f.width h s → IsSized f.width h t
      → AgreeBefore f.width h n s t → AgreeBefore f.width h n (rows_filtered c rows s) (rows_filtered c rows t)
  rows_agree zero high whole s t s_sized t_sized agree = agree
  rows_agree (suc row) high whole s t s_sized t_sized agree =
      let next : (row + 1) * f.width ≤ n = omega (arith, add-mul row 1 f.width, whole row (omega arith)) in
      let a : Planes = rows_filtered c row s in
      let b : Planes = rows_filtered c row t in
      let so_far : AgreeBefore f.width h n a b = rows_agree row (omega arith) (λ r low. whole r (omega arith)) s t s_sized t_sized agree in
      let above : List MbInfo = row_info c names offset f of (row - 1) in
      let info : List MbInfo = row_info c names offset f of row in
      let there : row * f.width + f.width ≤ length f.info = omega (arith, whole row (omega arith)) in
      let long = from_long f.info (row * f.width) f.width there in
      let a_sized = rows_sized c names offset f of f.width h row s s_sized in
      let b_sized = rows_sized c names offset f of f.width h row t t_sized in
      let a_has = has_row offset row above info f.width h long (omega (arith, high)) a a_sized in
      let b_has = has_row offset row above info f.width h long (omega (arith, high)) b b_sized in
      let g : Planes → Planes = λ u. row_by_info offset row above info (length info) u in
      let by_row : (u : Planes) → g u ≡ all_filtered c (motion_before c (length c.mbs)) u (row_lines c row) =
      λ u. row_lines_filtered c (motion_before c (length c.mbs)) names row offset above info u (row_info_are c names offset f of row there) in
      let reads = row_reads offset row above info a b a_has (record {
        luma = agrees_above 16 f.width h row n (omega arith) next (omega arith) so_far.luma (b_sized.luma.all ∙ sym a_sized.luma.all);
        cb = agrees_above 8 f.width h row n (omega arith) next (omega arith) so_far.cb (b_sized.cb.all ∙ sym a_sized.cb.all);
        cr = agrees_above 8 f.width h row n (omega arith) next (omega arith) so_far.cr (b_sized.cr.all ∙ sym a_sized.cr.all);
      }) in
      let a_changes = row_changes offset row above info a a_has in
      let b_changes = row_changes offset row above info b b_has in
      rw (← by_row a, ← by_row b) (record {
        luma = agree_then 16 f.width h row n (omega arith) next (omega arith) so_far.luma reads.luma a_changes.luma b_changes.luma;
        cb = agree_then 8 f.width h row n (omega arith) next (omega arith) so_far.cb reads.cb a_changes.cb b_changes.cb;
        cr = agree_then 8 f.width h row n (omega arith) next (omega arith) so_far.cr reads.cr a_changes.cr b_changes.cr;
      })

pub first_built_sized : (c : Coded) (s : Planes) (n : ℕ) → IsSized c.width c.height s → IsSized c.width c.height (first_built c s n)
first_built_sized c s n sized = built_on_sized c.width c.height c (modes_before c n) (motion_before c n) 0 s (take n c.mbs) sized

-- ---- a sample

module _ {c : Coded} {names : Names} {m : MbsState} (holds : HoldsFirst c names m) (kept : PartsAgree m) where
  -- of macroblocks that are decoded, whatever planes they were decoded in
  pub late_anyhow : (s : Planes) → IsSized c.width c.height s → (k x y : ℕ) → x < size_of k * c.width → y < size_of k * c.height
      → covering_address c.width k x y < m.next → samples_of (row_late c s m.next) k x y ≡ samples_of (row_late c (empty_planes c.width c.height) m.next) k x y
  late_anyhow s sized k x y column row less =
      let n = m.next in
      let w = c.width in
      let h = c.height in
      let wide : 0 < w = rw holds.width at kept.wide in
      let within : n ≤ w * h = rw (holds.width, holds.height) at kept.within in
      let empty = empty_planes w h in
      let long : length (take n c.mbs) ≡ n = length-take-le n c.mbs holds.within in
      let none = none_agree w h s empty sized (empty_sized w h) in
      let built : AgreeBefore w h n (first_built c s n) (first_built c empty n) =
      subst (λ v. AgreeBefore w h v (first_built c s n) (first_built c empty n)) (omega arith)
      (built_agrees c wide (modes_before c n) (motion_before c n) 0 s empty (take n c.mbs) (omega arith) none) in
      let told : FilterInfo = record { width = w; info = m.filter_info } in
      let of : AreInfoOf c names c.chroma_qp_index_offset told = record { width_is = refl; offset_is = refl; info_are = holds.filter } in
      let rows = filtered_rows w n in
      let fewer : n / w < suc h = (div-lt_iff_lt-mul wide).1 (omega (arith, mul_comm w h, add-mul h 1 w)) in
      let below : (row : ℕ) → row < rows → row * w + w ≤ n =
      λ row low. let next : (row + 1) * w ≤ (n / w) * w = mul-le-mul_right w (omega arith) in omega (arith, add-mul row 1 w, div-mul-le_self n w) in
      let late = rows_agree c names c.chroma_qp_index_offset told of h n (omega arith) rows (omega arith) below
      (first_built c s n) (first_built c empty n) (first_built_sized c s n sized) (first_built_sized c empty n (empty_sized w h)) built in
      (agree_in w h n (row_late c s n) (row_late c empty n) late k).samples x y column row less

  pub sample_late : (k x y : ℕ) → x < size_of k * m.canvas.width → y < size_of k * m.canvas.height → covering_address m.canvas.width k x y < m.next
      → samples_of m.canvas.planes k x y ≡ samples_of (row_late c (empty_planes c.width c.height) m.next) k x y
  sample_late k x y column row less =
      ap (λ s. samples_of s k x y) holds.built
      ∙ late_anyhow holds.begun holds.begun_sized k x y (rw holds.width at column) (rw holds.height at row) (rw holds.width at less)

-- ---- the plane of a component

pub component_size : (w h : ℕ) (s : Planes) → AreSized w h s → (k : ℕ) → ((component s k).width ≡ size_of k * w) × ((component s k).height ≡ size_of k * h)
component_size w h s sized zero = (sized.luma_width, sized.luma_height)
component_size w h s sized (suc zero) = (sized.cb_width, sized.cb_height)
component_size w h s sized (suc (suc k)) = (sized.cr_width, sized.cr_height)

-- ---- a picture all of whose macroblocks are decoded

pub all_built : (c : Coded) (s : Planes)
    → first_built c s (length c.mbs) ≡ built_on c (modes_before c (length c.mbs)) (motion_before c (length c.mbs)) 0 s c.mbs
all_built c s = ap (built_on c (modes_before c (length c.mbs)) (motion_before c (length c.mbs)) 0 s) (take-length c.mbs)

-- rows one after another are all their line filters
rows_are : (c : Coded) (rows : ℕ) (s : Planes)
    → rows_filtered c rows s ≡ all_filtered c (motion_before c (length c.mbs)) s (flat_map (row_lines c) (range_with_len 0 rows))
rows_are c zero s = refl
rows_are c (suc row) s = grind (arith, all_filtered-append, row_more, rows_are c row s)

-- all rows of the picture
all_rows_filtered : (c : Coded) (height : ℕ) → length c.mbs ≡ height * c.width → (s : Planes)
    → rows_filtered c height s ≡ all_filtered c (motion_before c (length c.mbs)) s (line_filters c)
all_rows_filtered c height all s = grind (arith, rows_are, rows_are_all)

module _ {c : Coded} {names : Names} {m : MbsState} (holds : HoldsFirst c names m) (kept : PartsAgree m) (whole : m.next ≡ length c.mbs)
    (all : length c.mbs ≡ c.width * c.height) where
  pub filtered_is : (before after : Planes) → before ≡ m.canvas.planes → FiltersUpTo c (filtered_rows c.width m.next) (m.next / c.width) before after
      → after ≡ deblocked c
  filtered_is before after e filters =
      let s : Planes = holds.begun in
      let rows : m.next / c.width ≡ c.height = grind (arith, mul_comm, div-mul-add) in
      filters (first_built c s m.next) (e ∙ holds.built)
      ∙ ap (λ n. rows_filtered c n (first_built c s m.next)) rows
      ∙ all_rows_filtered c c.height (all ∙ mul_comm c.width c.height) (first_built c s m.next)
      ∙ ap (λ t. all_filtered c (motion_before c (length c.mbs)) t (line_filters c))
      (ap (first_built c s) whole ∙ all_built c s ∙ built_anyhow c (subst (λ w. 0 < w) holds.width kept.wide) all s holds.begun_sized)

-- room for each macroblock of a picture of this size
pub sized_room : (width height column row : ℕ) (s : Planes) → AreSized width height s → column < width → row < height → HasRoom column row s
sized_room width height column row s sized h k = grind arith

-- the row of a place in the picture
pub row_below : (width height column row n : ℕ) → row * width + column ≡ n → n < width * height → row < height
row_below width height column row n at low =
    let high : height ≤ row → ⊥ = λ (h : height ≤ row). let more : height * width ≤ row * width = mul-le-mul_right width h in omega (arith, mul_comm width height) in
    omega arith

-- room for the row that is filtered next
pub late_room : (m : MbsState) → PartsAgree m → (w : ℕ) → w ≡ m.canvas.width → (s : Planes) → AreSized m.canvas.width m.canvas.height s
    → (column : ℕ) → column < w → HasRoom column (length m.filter_info / w - 1) s
late_room m kept w w_is s sized column low = grind (arith, mul_comm, div-lt_iff_lt-mul, sized_room)
