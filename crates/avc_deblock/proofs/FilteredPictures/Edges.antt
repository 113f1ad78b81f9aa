-- The edges of macroblocks at the strengths of their info, in the order of the standard.
pub mod Common
unfoldable pub use Common.*
use Rattle.avc_neigh.specs.declared.neighbour_info.Motion.TheVariants.{Inter as inter_motion}

-- ---- the macroblocks and blocks on both sides of a place of an edge, and the setting of its line: addresses

address_is : (c : Coded) (x y column row : ℕ) → x / 16 ≡ column → y / 16 ≡ row → address_of c x y ≡ row * c.width + column
address_is c x y column row e f = ap (λ u. (y / 16) * c.width + u) e ∙ ap (λ v. v * c.width + column) f

-- a coordinate of sample j along an edge that lies d samples behind x: that across the edge, or that along it
abbrev pub along : Bool → (x d j : ℕ) → ℕ
along true x d j = x + d
along false x d j = x + j

-- that coordinate on the other side
abbrev before_edge : Bool → ℕ → ℕ
before_edge true x = x - 1
before_edge false x = x

row_back : (row width : ℕ) → 1 ≤ row → row * width ≡ (row - 1) * width + width
row_back row width some = let back : row ≡ (row - 1) + 1 = omega arith in ap (λ r. r * width) back ∙ omega arith

module _ (c : Coded) (column row a j : ℕ) (at : IsAt c column row a) (j_low : j < 16) where
  here : (v : Bool) (n : ℕ) → n < 4 → address_of c (along v (16 * column) (4 * n) j) (along (not v) (16 * row) (4 * n) j) ≡ a
  here true n low = address_is c _ _ column row (omega arith) (omega arith) ∙ sym at.address
  here false n low = address_is c _ _ column row (omega arith) (omega arith) ∙ sym at.address

  before : (v : Bool) (n : ℕ) → n < 4 → (v ≡ true → 1 ≤ 4 * column + n) → (v ≡ false → 1 ≤ 4 * row + n) →
      address_of c (before_edge v (along v (16 * column) (4 * n) j)) (before_edge (not v) (along (not v) (16 * row) (4 * n) j)) ≡ p_address c v n a
  before true zero low across down =
      let some = across refl in
      address_is c _ _ (column - 1) row (omega arith) (omega arith) ∙ omega (arith, at.address)
  before true (suc n) low across down = address_is c _ _ column row (omega arith) (omega arith) ∙ sym at.address
  before false zero low across down =
      let some = down refl in
      address_is c _ _ column (row - 1) (omega arith) (omega arith) ∙ omega (arith, at.address, row_back row c.width (omega arith))
  before false (suc n) low across down = address_is c _ _ column row (omega arith) (omega arith) ∙ sym at.address

-- whether both sides are one macroblock
pub same_mb : (c : Coded) (v : Bool) (column row a n : ℕ) → IsAt c column row a → (v ≡ true → 1 ≤ 4 * column + n) → (v ≡ false → 1 ≤ 4 * row + n) → (p_address c v n a == a) ≡ not (n == 0)
same_mb c v column row a n at across down = grind (arith, nat_tests, row_back)

-- ---- settings

four : (H : ℕ → ℕ → ℕ → ℕ → Setting) (a b c d a' b' c' d' : ℕ) → a ≡ a' → b ≡ b' → c ≡ c' → d ≡ d' → H a b c d ≡ H a' b' c' d'
four H a b c d a' b' c' d' e f g h = rw (e, f, g, h) refl

module _ (c : Coded) (motion : List (List Motion)) (k : ℕ) where
  -- the setting between two blocks
  abbrev pub between : (pa bp qa bq : ℕ) → Setting
  between pa bp qa bq =
      setting_of (k == 0) (strength_between c motion pa bp qa bq) (component_qp c k pa) (component_qp c k qa) (slice_at c qa).filter_offset_a (slice_at c qa).filter_offset_b

  -- the setting of the line at luma sample j along edge n
  pub setting_along : (v : Bool) (column row a n j x y : ℕ) → IsAt c column row a → n < 4 → j < 16 → (v ≡ true → 1 ≤ 4 * column + n) → (v ≡ false → 1 ≤ 4 * row + n) →
      luma_per_sample k * x ≡ along v (16 * column) (4 * n) j → luma_per_sample k * y ≡ along (not v) (16 * row) (4 * n) j →
      setting_at c motion (record { component = k; is_vertical = v; x = x; y = y })
      ≡ between (p_address c v n a) (edge_block v ((n + 3) % 4) (j / 4)) a (edge_block v n (j / 4))
  setting_along true column row a n j x y at low j_low across down e f =
      let G : ℕ → ℕ → Setting = λ X Y. between (address_of c (X - 1) Y) (block_at ((X - 1) % 16) (Y % 16)) (address_of c X Y) (block_at (X % 16) (Y % 16)) in
      let some = across refl in
      ap (λ X. G X (luma_per_sample k * y)) e ∙ ap (G (16 * column + 4 * n)) f
      ∙ four between _ _ _ _ _ _ _ _ (before c column row a j at j_low true n low across down) (omega arith) (here c column row a j at j_low true n low) (omega arith)
  setting_along false column row a n j x y at low j_low across down e f =
      let G : ℕ → ℕ → Setting = λ X Y. between (address_of c X (Y - 1)) (block_at (X % 16) ((Y - 1) % 16)) (address_of c X Y) (block_at (X % 16) (Y % 16)) in
      let some = down refl in
      ap (λ X. G X (luma_per_sample k * y)) e ∙ ap (G (16 * column + j)) f
      ∙ four between _ _ _ _ _ _ _ _ (before c column row a j at j_low false n low across down) (omega arith) (here c column row a j at j_low false n low) (omega arith)

-- ---- the lines of an edge at the strengths and QPs of info are those of the picture

-- the strengths and the QPs of edge n of macroblock a, for component k
pub record IsSetting (c : Coded) (motion : List (List Motion)) (k : ℕ) (v : Bool) (n a : ℕ) (st : ℕ → ℕ) (qp : EdgeQp) : Type 0 where
  pub strengths : (j : ℕ) → j < 4 → st j ≡ strength_between c motion (p_address c v n a) (edge_block v ((n + 3) % 4) j) a (edge_block v n j)
  pub p_is : qp.p ≡ component_qp c k (p_address c v n a)
  pub q_is : qp.q ≡ component_qp c k a
  pub a_is : qp.offset_a ≡ (slice_at c a).filter_offset_a
  pub b_is : qp.offset_b ≡ (slice_at c a).filter_offset_b

pub column_is : (c : Coded) (column row a : ℕ) → IsAt c column row a → a % c.width ≡ column
column_is c column row a at = rw (at.address) (mod-mul-add row c.width column at.within)

row_is : (c : Coded) (column row a : ℕ) → IsAt c column row a → a / c.width ≡ row
row_is c column row a at = rw (at.address) (div-mul-add row c.width column at.within)

pub three : (l l' b b' r r' : Plane) → l ≡ l' → b ≡ b' → r ≡ r' → (let s : Planes = record { luma = l; cb = b; cr = r } in s) ≡ record { luma = l'; cb = b'; cr = r' }
three l l' b b' r r' e f g = rw (e, f, g) refl

-- a coordinate of an edge that lies d samples behind a side: that across it moves by d
abbrev pub behind : Bool → (x d : ℕ) → ℕ
behind true x d = x + d
behind false x d = x

-- a plane after the lines of an edge d samples behind the left side, or the upper side, of a macroblock of this size
abbrev pub edge_behind : (size : ℕ) → (ℕ → Setting) → Bool → (column row d : ℕ) → Plane → Plane
edge_behind size f v column row d s = edge_filtered f v (behind v (size * column) d) (behind (not v) (size * row) d) size s

abbrev pub luma_behind : Bool → (column row n : ℕ) → (ℕ → ℕ) → EdgeQp → Plane → Plane
luma_behind v column row n st qp s = edge_behind 16 (luma_setting st qp) v column row (4 * n) s

-- chroma has every second edge
abbrev pub chroma_behind : Bool → (column row n : ℕ) → (ℕ → ℕ) → EdgeQp → Plane → Plane
chroma_behind v column row n st qp s = if n % 2 == 0 then edge_behind 8 (chroma_setting st qp) v column row (2 * n) s else s

-- each plane by itself
pub in_parts : (v : Bool) (column row n : ℕ) (st : ℕ → ℕ) (luma chroma : EdgeQp) (s : Planes) → lines_of_edge v column row n st luma chroma s
    ≡ record { luma = luma_behind v column row n st luma s.luma; cb = chroma_behind v column row n st chroma s.cb; cr = chroma_behind v column row n st chroma s.cr }
in_parts true column row n st luma chroma s = refl
in_parts false column row n st luma chroma s = refl

-- ---- equal strengths give equal lines

module _ (column row n : ℕ) (f g : ℕ → ℕ) (qp : EdgeQp) (same : (k : ℕ) → k < 4 → f k ≡ g k) (v : Bool) (s : Plane) where
  pub luma_same : luma_behind v column row n f qp s ≡ luma_behind v column row n g qp s
  luma_same =
      edge_same (luma_setting f qp) (luma_setting g qp) v _ _ 16 s
      (λ i less. ap (λ b. setting_of true b qp.p qp.q qp.offset_a qp.offset_b) (same (i / 4) (omega arith)))

  pub chroma_same : chroma_behind v column row n f qp s ≡ chroma_behind v column row n g qp s
  chroma_same =
      ap (λ (p : Plane). if n % 2 == 0 then p else s)
      (edge_same (chroma_setting f qp) (chroma_setting g qp) v _ _ 8 s
      (λ i less. ap (λ b. setting_of false b qp.p qp.q qp.offset_a qp.offset_b) (same (i / 2) (omega arith))))

pub same_strengths : (column row n : ℕ) (f g : ℕ → ℕ) (luma chroma : EdgeQp) (s : Planes) → ((k : ℕ) → k < 4 → f k ≡ g k) → (v : Bool) →
    lines_of_edge v column row n f luma chroma s ≡ lines_of_edge v column row n g luma chroma s
same_strengths column row n f g luma chroma s same v =
    in_parts v column row n f luma chroma s
    ∙ three _ _ _ _ _ _ (luma_same column row n f g luma same v s.luma) (chroma_same column row n f g chroma same v s.cb) (chroma_same column row n f g chroma same v s.cr)
    ∙ sym (in_parts v column row n g luma chroma s)

-- three planes after the lines of an edge
pub in_three : (v : Bool) (column row n : ℕ) (f g : ℕ → ℕ) (luma chroma : EdgeQp) (s : Planes) (l b r : Plane) → ((k : ℕ) → k < 4 → f k ≡ g k) →
    l ≡ luma_of_edge v column row n f luma s.luma → b ≡ chroma_of_edge v column row n f chroma s.cb → r ≡ chroma_of_edge v column row n f chroma s.cr →
    (let t : Planes = record { luma = l; cb = b; cr = r } in t) ≡ lines_of_edge v column row n g luma chroma s
in_three true column row n f g luma chroma s l b r same e h i = three _ _ _ _ _ _ e h i ∙ same_strengths column row n f g luma chroma s same true
in_three false column row n f g luma chroma s l b r same e h i = three _ _ _ _ _ _ e h i ∙ same_strengths column row n f g luma chroma s same false

-- ---- the edge of a picture

-- chroma samples, and the luma samples that they stand for
both_along : (n : ℕ) (v : Bool) (x i : ℕ) → 2 * along v (8 * x) (2 * n) i ≡ along v (16 * x) (4 * n) (2 * i)
both_along n true x i = omega arith
both_along n false x i = omega arith

module _ (c : Coded) (motion : List (List Motion)) (column row a : ℕ) (at : IsAt c column row a) where
  -- where all lines have the settings of the picture
  edge_of_picture : (v : Bool) (k d : ℕ) (f : ℕ → Setting) (s : Plane) → (let size : ℕ = 16 / luma_per_sample k in
      (i : ℕ) → i < size → f i ≡ setting_at c motion (record { component = k; is_vertical = v; x = along v (size * column) d i; y = along (not v) (size * row) d i })) →
      edge_behind (16 / luma_per_sample k) f v column row d s ≡ component_edge c motion k v a d s
  edge_of_picture true k d f s same = rw (column_is c column row a at, row_is c column row a at) (edge_same f _ true _ _ _ s same)
  edge_of_picture false k d f s same = rw (column_is c column row a at, row_is c column row a at) (edge_same f _ false _ _ _ s same)

  module _ (v : Bool) (n : ℕ) (low : n < 4) (across : v ≡ true → 1 ≤ 4 * column + n) (down : v ≡ false → 1 ≤ 4 * row + n) where
    same_setting : (k : ℕ) (is_luma : Bool) → (k == 0) ≡ is_luma → (i j x y : ℕ) (st : ℕ → ℕ) (qp : EdgeQp) → IsSetting c motion k v n a st qp → j < 16 → i ≡ j / 4 →
        luma_per_sample k * x ≡ along v (16 * column) (4 * n) j → luma_per_sample k * y ≡ along (not v) (16 * row) (4 * n) j →
        setting_of is_luma (st i) qp.p qp.q qp.offset_a qp.offset_b ≡ setting_at c motion (record { component = k; is_vertical = v; x = x; y = y })
    same_setting k is_luma first i j x y st qp is j_low quarter e f =
        rw (← first, quarter, is.strengths (j / 4) (omega arith), is.p_is, is.q_is, is.a_is, is.b_is) (sym (setting_along c motion k v column row a n j x y at low j_low across down e f))

    pub edge_planes : (st : ℕ → ℕ) (luma chroma : EdgeQp) (s : Planes) → IsSetting c motion 0 v n a st luma → ((k : ℕ) → IsSetting c motion (suc k) v n a st chroma) →
        lines_of_edge v column row n st luma chroma s ≡ planes_edge c motion v a n s
    edge_planes st luma chroma s is_luma is_chroma =
        let component : (k : ℕ) (p : Plane) → edge_behind 8 (chroma_setting st chroma) v column row (2 * n) p ≡ component_edge c motion (suc k) v a (2 * n) p =
        λ k p. edge_of_picture v (suc k) (2 * n) (chroma_setting st chroma) p
        (λ i less. same_setting (suc k) false (grind (arith, nat_tests)) (i / 2) (2 * i) _ _ st chroma (is_chroma k) (omega arith) (omega arith) (both_along n v column i) (both_along n (not v) row i)) in
        in_parts v column row n st luma chroma s
        ∙ three _ _ _ _ _ _
        (edge_of_picture v 0 (4 * n) (luma_setting st luma) s.luma (λ i less. same_setting 0 true refl (i / 4) i _ _ st luma is_luma less refl (omega arith) (omega arith)))
        (ap (λ p. if n % 2 == 0 then p else s.cb) (component 0 s.cb)) (ap (λ p. if n % 2 == 0 then p else s.cr) (component 1 s.cr))

-- ---- strength 0 at all lines

kept_if : (b : Bool) (p s : Plane) → (b ≡ true → p ≡ s) → (if b then p else s) ≡ s
kept_if true p s h = h refl
kept_if false p s h = refl

pub far_enough : (column n : ℕ) → 1 ≤ 4 * column + n → (n % 2 == 0) ≡ true → 4 ≤ 8 * column + 2 * n
far_enough column n some even = grind (arith, nat_tests)

module _ (column row n : ℕ) (st : ℕ → ℕ) (qp : EdgeQp) (s : Plane) (none : (k : ℕ) → k < 4 → st k ≡ 0) (v : Bool) where
  pub luma_zero : luma_behind v column row n st qp s ≡ s
  luma_zero = edge_none (luma_setting st qp) v _ _ 16 s (λ i less. none (i / 4) (omega arith))

  pub chroma_zero : chroma_behind v column row n st qp s ≡ s
  chroma_zero = kept_if (n % 2 == 0) _ s (λ even. edge_none (chroma_setting st qp) v _ _ 8 s (λ i less. none (i / 2) (omega arith)))

pub edge_zero : (v : Bool) (column row n : ℕ) (st : ℕ → ℕ) (luma chroma : EdgeQp) (s : Planes) → ((k : ℕ) → k < 4 → st k ≡ 0) → lines_of_edge v column row n st luma chroma s ≡ s
edge_zero v column row n st luma chroma s none =
    in_parts v column row n st luma chroma s
    ∙ three _ _ _ _ _ _ (luma_zero column row n st luma s.luma none v) (chroma_zero column row n st chroma s.cb none v) (chroma_zero column row n st chroma s.cr none v)

-- ---- sizes

size_if : (b : Bool) (p s : Plane) → (p.width ≡ s.width) × (p.height ≡ s.height) → ((if b then p else s).width ≡ s.width) × ((if b then p else s).height ≡ s.height)
size_if true p s h = h
size_if false p s h = (refl, refl)

module _ (v : Bool) (column row n : ℕ) (st : ℕ → ℕ) (qp : EdgeQp) (s : Plane) where
  pub luma_size : ((luma_behind v column row n st qp s).width ≡ s.width) × ((luma_behind v column row n st qp s).height ≡ s.height)
  luma_size = let e = edge_size (luma_setting st qp) v _ _ 16 s in (e.width, e.height)

  pub chroma_size : ((chroma_behind v column row n st qp s).width ≡ s.width) × ((chroma_behind v column row n st qp s).height ≡ s.height)
  chroma_size = let e = edge_size (chroma_setting st qp) v _ _ 8 s in size_if (n % 2 == 0) _ s (e.width, e.height)

pub room_kept : (v : Bool) (at_column at_row n : ℕ) (st : ℕ → ℕ) (luma chroma : EdgeQp) (s t : Planes) → t ≡ lines_of_edge v at_column at_row n st luma chroma s →
    (column row : ℕ) → HasRoom column row s → HasRoom column row t
room_kept v at_column at_row n st luma chroma s t is column row h =
    let l = luma_size v at_column at_row n st luma s.luma in
    let b = chroma_size v at_column at_row n st chroma s.cb in
    let r = chroma_size v at_column at_row n st chroma s.cr in
    rw (is, in_parts v at_column at_row n st luma chroma s) (record {
      luma_columns = subst (λ m. 16 * column + 16 ≤ m) (sym l.0) h.luma_columns;
      luma_rows = subst (λ m. 16 * row + 16 ≤ m) (sym l.1) h.luma_rows;
      cb_columns = subst (λ m. 8 * column + 8 ≤ m) (sym b.0) h.cb_columns;
      cb_rows = subst (λ m. 8 * row + 8 ≤ m) (sym b.1) h.cb_rows;
      cr_columns = subst (λ m. 8 * column + 8 ≤ m) (sym r.0) h.cr_columns;
      cr_rows = subst (λ m. 8 * row + 8 ≤ m) (sym r.1) h.cr_rows;
    })

-- ---- the lines of a macroblock in their order, as its edges one after another

pub all_filtered-append : (c : Coded) (motion : List (List Motion)) (s : Planes) (fs gs : List LineFilter) → all_filtered c motion s (fs ++ gs) ≡ all_filtered c motion (all_filtered c motion s fs) gs
all_filtered-append c motion s [] gs = refl
all_filtered-append c motion s (f ∷ fs) gs = all_filtered-append c motion (step_filtered c motion s f) fs gs

twice : (k : ℕ) (g h : Plane → Plane) (s : Planes) → in_component k g (in_component k h s) ≡ in_component k (λ p. g (h p)) s
twice zero g h s = refl
twice (suc zero) g h s = refl
twice (suc (suc k)) g h s = refl

nothing : (k : ℕ) (s : Planes) → s ≡ in_component k (λ p. p) s
nothing zero s = refl
nothing (suc zero) s = refl
nothing (suc (suc k)) s = refl

-- a coordinate of line i of an edge, where that of line 0 is x: that across the edge, or that along it
abbrev beside_edge : Bool → (x i : ℕ) → ℕ
beside_edge true x i = x
beside_edge false x i = x + i

module _ (c : Coded) (motion : List (List Motion)) (k x y : ℕ) where
  abbrev line_of_edge : Bool → ℕ → LineFilter
  line_of_edge v i = record { component = k; is_vertical = v; x = beside_edge v x i; y = beside_edge (not v) y i }

  lines_in_order : (v : Bool) (is : List ℕ) (s : Planes) →
      all_filtered c motion s (map (line_of_edge v) is) ≡ in_component k (lines_filtered (λ i. setting_at c motion (line_of_edge v i)) v x y is) s
  lines_in_order true [] s = nothing k s
  lines_in_order false [] s = nothing k s
  lines_in_order true (i ∷ is) s = lines_in_order true is _ ∙ twice k _ _ s
  lines_in_order false (i ∷ is) s = lines_in_order false is _ ∙ twice k _ _ s

-- edges of one direction, those that are filtered
abbrev pub edges_filtered : (filters : ℕ → Bool) (edge : ℕ → Plane → Plane) → List ℕ → Plane → Plane
edges_filtered filters edge [] p = p
edges_filtered filters edge (e ∷ es) p = edges_filtered filters edge es (if filters e then edge e p else p)

module _ (c : Coded) (motion : List (List Motion)) (k : ℕ) (filters : ℕ → Bool) (edge : ℕ → Plane → Plane) (lines : ℕ → List LineFilter)
    (is : (e : ℕ) (s : Planes) → all_filtered c motion s (lines e) ≡ in_component k (edge e) s) where
  one_edge : (b : Bool) (e : ℕ) (s : Planes) → all_filtered c motion s (if b then lines e else []) ≡ in_component k (λ p. if b then edge e p else p) s
  one_edge true e s = is e s
  one_edge false e s = nothing k s

  pub edges_in_order : (es : List ℕ) (s : Planes) →
      all_filtered c motion s (flat_map (λ e. if filters e then lines e else []) es) ≡ in_component k (edges_filtered filters edge es) s
  edges_in_order [] s = nothing k s
  edges_in_order (e ∷ es) s =
      let one : Plane → Plane = λ p. if filters e then edge e p else p in
      let rest = flat_map (λ e. if filters e then lines e else []) es in
      all_filtered-append c motion s (if filters e then lines e else []) rest
      ∙ ap (λ t. all_filtered c motion t rest) (one_edge (filters e) e s)
      ∙ edges_in_order es (in_component k one s)
      ∙ twice k (edges_filtered filters edge es) one s

-- the plane of component k after the edges of macroblock a
abbrev component_mb : Coded → List (List Motion) → ℕ → ℕ → Plane → Plane
component_mb c motion a k p =
    edges_filtered (filters_horizontal c a) (component_edge c motion k false a) (edges_below (16 / luma_per_sample k))
    (edges_filtered (filters_vertical c a) (component_edge c motion k true a) (edges_below (16 / luma_per_sample k)) p)

component_in_order : (c : Coded) (motion : List (List Motion)) (a k : ℕ) (s : Planes) →
    all_filtered c motion s (component_lines c a k) ≡ in_component k (component_mb c motion a k) s
unfolding edge_filtered
component_in_order c motion a k s =
    let n = 16 / luma_per_sample k in
    let left = n * (a % c.width) in
    let top = n * (a / c.width) in
    simp (
      all_filtered-append,
      edges_in_order c motion k (filters_vertical c a) (component_edge c motion k true a) (vertical_lines k left top n)
          (λ e t. lines_in_order c motion k (left + e) top true (range_with_len 0 n) t),
      edges_in_order c motion k (filters_horizontal c a) (component_edge c motion k false a) (horizontal_lines k left top n)
          (λ e t. lines_in_order c motion k left (top + e) false (range_with_len 0 n) t),
    ) (twice k _ _ s)

-- whether an edge is filtered, from whether the outer one is and whether the inner ones are
abbrev filters_by : Bool → Bool → ℕ → Bool
filters_by outer inner zero = outer
filters_by outer inner (suc e) = inner

module _ (c : Coded) (motion : List (List Motion)) (a : ℕ) where
  abbrev by_edges : (outer_v outer_h inner : Bool) → ℕ → Plane → Plane
  by_edges outer_v outer_h inner k p =
      edges_filtered (filters_by outer_h inner) (component_edge c motion k false a) (edges_below (16 / luma_per_sample k))
      (edges_filtered (filters_by outer_v inner) (component_edge c motion k true a) (edges_below (16 / luma_per_sample k)) p)

  same_planes : (outer_v outer_h inner : Bool) (s : Planes) →
      record { luma = by_edges outer_v outer_h inner 0 s.luma; cb = by_edges outer_v outer_h inner 1 s.cb; cr = by_edges outer_v outer_h inner 2 s.cr }
      ≡ planes_edges c motion false outer_h inner a (planes_edges c motion true outer_v inner a s)
  same_planes true true true s = refl
  same_planes true true false s = refl
  same_planes true false true s = refl
  same_planes true false false s = refl
  same_planes false true true s = refl
  same_planes false true false s = refl
  same_planes false false true s = refl
  same_planes false false false s = refl

  pub mb_in_order : (s : Planes) → all_filtered c motion s (flat_map (component_lines c a) (0 ∷ 1 ∷ 2 ∷ [])) ≡ planes_mb c motion a s
  mb_in_order s =
      let s1 : Planes = in_component 0 (component_mb c motion a 0) s in
      let s2 : Planes = in_component 1 (component_mb c motion a 1) s1 in
      all_filtered-append c motion s (component_lines c a 0) (component_lines c a 1 ++ (component_lines c a 2 ++ []))
      ∙ ap (λ (t : Planes). all_filtered c motion t (component_lines c a 1 ++ (component_lines c a 2 ++ []))) (component_in_order c motion a 0 s)
      ∙ all_filtered-append c motion s1 (component_lines c a 1) (component_lines c a 2 ++ [])
      ∙ ap (λ (t : Planes). all_filtered c motion t (component_lines c a 2 ++ [])) (component_in_order c motion a 1 s1)
      ∙ all_filtered-append c motion s2 (component_lines c a 2) []
      ∙ component_in_order c motion a 2 s2
      ∙ same_planes (filters_vertical c a 0) (filters_horizontal c a 0) (filters_edge_to c a a) s

-- ---- the macroblocks of a row, one after another: which edges are filtered

filters_is : (e : FilteredEdges) (b : Bool) → filters_at e b ≡ (elim e [
  | All ↦ true
  | NoEdges ↦ false
  | WithinSlice ↦ b
])
filters_is All b = refl
filters_is NoEdges b = refl
filters_is WithinSlice b = refl

pub between_is : (c : Coded) (motion : List (List Motion)) (names : Names) (a b : ℕ) (f g : MbInfo) → HasInfo c motion names a f → HasInfo c motion names b g → filters_between f g ≡ filters_edge_to c a b
between_is c motion names a b f g hf hg =
    rw (hf.edges_is, hf.slice_is, hg.slice_is) (filters_is (slice_at c a).disable_deblocking_filter_idc ((mb_at c a).slice == (mb_at c b).slice))

pub left_is : (c : Coded) (motion : List (List Motion)) (names : Names) (column row a : ℕ) (f g : MbInfo) → IsAt c column row a → HasInfo c motion names a f →
    (1 ≤ column → HasInfo c motion names (a - 1) g) → (nat_lt 0 column && filters_between f g) ≡ filters_vertical c a 0
left_is c motion names column row a f g at hf hg = grind (arith, nat_tests, nat_lt, between_is, column_is)

pub above_is : (c : Coded) (motion : List (List Motion)) (names : Names) (column row a : ℕ) (f g : MbInfo) → IsAt c column row a → HasInfo c motion names a f →
    (1 ≤ row → HasInfo c motion names (a - c.width) g) → (nat_lt 0 row && filters_between f g) ≡ filters_horizontal c a 0
above_is c motion names column zero a f g at hf hg = grind (arith, nat_tests, nat_lt)
above_is c motion names column (suc row) a f g at hf hg = grind (arith, nat_tests, nat_lt, between_is)

-- ---- one macroblock more

range-append : (a m n : ℕ) → range_with_len a (m + n) ≡ range_with_len a m ++ range_with_len (a + m) n
range-append a zero n = grind (arith, nat_tests)
range-append a (suc m) n =
    let e : suc m + n ≡ suc (m + n) = omega arith in
    let f : a + 1 + m ≡ a + suc m = omega arith in
    ap (range_with_len a) e ∙ ap (λ (l : List ℕ). a ∷ l) (range-append (a + 1) m n ∙ ap (λ (b : ℕ). range_with_len (a + 1) m ++ range_with_len b n) f)

range_more : (a n : ℕ) → range_with_len a (suc n) ≡ range_with_len a n ++ (a + n) ∷ []
range_more a n = let e : suc n ≡ n + 1 = omega arith in ap (range_with_len a) e ∙ range-append a n 1

flat_more : (f : ℕ → List LineFilter) (a n : ℕ) → flat_map f (range_with_len a (suc n)) ≡ flat_map f (range_with_len a n) ++ f (a + n)
flat_more f a n =
    ap (flat_map f) (range_more a n) ∙ flat_map-append f (range_with_len a n) ((a + n) ∷ []) ∙ ap (λ l. flat_map f (range_with_len a n) ++ l) (append-nil (f (a + n)))

pub one_more : (c : Coded) (motion : List (List Motion)) (first n m : ℕ) (s t u : Planes) → m ≡ n + 1 → t ≡ all_filtered c motion s (flat_map (mb_lines c) (range_with_len first n)) →
    u ≡ planes_mb c motion (first + n) t → u ≡ all_filtered c motion s (flat_map (mb_lines c) (range_with_len first m))
one_more c motion first n m s t u next before here =
    let suc_is : m ≡ suc n = omega arith in
    rw (
      here,
      suc_is,
      flat_more (mb_lines c) first n,
      all_filtered-append c motion s (flat_map (mb_lines c) (range_with_len first n)) (mb_lines c (first + n)),
      ← before,
    )
    (sym (mb_in_order c motion (first + n) t))

pub shifted : (c : Coded) (motion : List (List Motion)) (names : Names) (a b : ℕ) (f : MbInfo) → a ≡ b → HasInfo c motion names a f → HasInfo c motion names b f
shifted c motion names a b f e h = subst (λ (n : ℕ). HasInfo c motion names n f) e h

-- ---- one row more

pub row_more : (c : Coded) (n : ℕ) → flat_map (row_lines c) (range_with_len 0 (suc n)) ≡ flat_map (row_lines c) (range_with_len 0 n) ++ row_lines c n
row_more c n = let e : 0 + n ≡ n = omega arith in flat_more (row_lines c) 0 n ∙ ap (λ k. flat_map (row_lines c) (range_with_len 0 n) ++ row_lines c k) e

-- the lines of the first rows are those of their macroblocks
pub rows_are_all : (c : Coded) (n : ℕ) → flat_map (row_lines c) (range_with_len 0 n) ≡ flat_map (mb_lines c) (range_with_len 0 (n * c.width))
unfolding row_lines
rows_are_all c zero = let e : zero * c.width ≡ 0 = omega arith in sym (ap (λ (m : ℕ). flat_map (mb_lines c) (range_with_len 0 m)) e)
rows_are_all c (suc n) =
    let e : suc n * c.width ≡ n * c.width + c.width = omega arith in
    let f : 0 + n * c.width ≡ n * c.width = omega arith in
    row_more c n ∙ ap (λ (l : List LineFilter). l ++ row_lines c n) (rows_are_all c n)
    ∙ rw (e, range-append 0 (n * c.width) c.width, f) (sym (flat_map-append (mb_lines c) (range_with_len 0 (n * c.width)) (range_with_len (n * c.width) c.width)))

pub one_row_more : (c : Coded) (motion : List (List Motion)) (n m : ℕ) (s t u : Planes) → m ≡ n + 1 → t ≡ all_filtered c motion s (flat_map (row_lines c) (range_with_len 0 n)) →
    u ≡ all_filtered c motion t (row_lines c n) → u ≡ all_filtered c motion s (flat_map (row_lines c) (range_with_len 0 m))
one_row_more c motion n m s t u next before here = grind (arith, nat_tests, all_filtered-append, row_more)

-- info of one row, from those of all macroblocks
pub part_info : (c : Coded) (motion : List (List Motion)) (names : Names) (info part : List MbInfo) (w y h : ℕ) → c.width ≡ w → length info ≡ h * w → y < h → length part ≡ w →
    ((k : ℕ) (other : MbInfo) → k < w → slice_index_or part k other ≡ slice_index_or info (y * w + k) other) → HaveInfo c motion names 0 info → HaveInfo c motion names (y * c.width) part
part_info c motion names info part w y h width all low long value have k other k_low = grind (arith, nat_tests, shifted, mul-add-lt, mul_comm)

-- ---- the vertical edges of a macroblock, component by component

module _ (column row n : ℕ) (f g : ℕ → ℕ) (qp : EdgeQp) (s t : Plane) where
  pub luma_lines : 1 ≤ 4 * column + n → ((k : ℕ) → k < 4 → f k ≡ g k) →
      t ≡ edge_filtered (luma_setting f qp) true (16 * column + 4 * n - 4 + 4) (16 * row) 16 s →
      t ≡ edge_filtered (luma_setting g qp) true (16 * column + 4 * n) (16 * row) 16 s
  luma_lines some same is = grind (arith, nat_tests, edge_same)

-- the left edge of chroma and the one in the middle
pub both_chroma : (column row : ℕ) (f f' g g' : ℕ → ℕ) (qp next : EdgeQp) (s t : Plane) → 1 ≤ column →
    ((k : ℕ) → k < 4 → f k ≡ f' k) → ((k : ℕ) → k < 4 → g k ≡ g' k) →
    t ≡ edge_filtered (chroma_setting g next) true (8 * column - 4 + 8) (8 * row) 8 (edge_filtered (chroma_setting f qp) true (8 * column - 4 + 4) (8 * row) 8 s) →
    t ≡ chroma_of_edge true column row 2 g' next (chroma_of_edge true column row 0 f' qp s)
both_chroma column row f f' g g' qp next s t some first second is = grind (arith, nat_tests, edge_same)

pub edges_room : (column row : ℕ) (offset : ℤ) (p q : MbInfo) (s t : Planes) →
    t ≡ edges_by_info true column row offset false true q q (edges_by_info true column row offset true false p q s) → (a b : ℕ) → HasRoom a b s → HasRoom a b t
edges_room column row offset p q s t is a b h =
    let kept : (n : ℕ) (m : MbInfo) (r : Planes) → HasRoom a b r → HasRoom a b (edge_by_info true column row n offset m q r) =
    λ n m r. room_kept true column row n (strength_of m q true n) (luma_qp_of m q) (chroma_qp_of offset m q) r _ refl a b in
    rw is (kept 3 q _ (kept 2 q _ (kept 1 q _ (kept 0 p s h))))

-- ---- the strength of an edge by whether a macroblock at it is intra

module _ (p q : MbInfo) (v : Bool) (n k : ℕ) where
  abbrev strength_if : Bool → ℕ
  strength_if b = if b then (if n == 0 then 4 else 3) else inter_strength p (edge_block v ((n + 3) % 4) k) q (edge_block v n k)

  pub intra_strength : (p.is_intra || q.is_intra) ≡ true → strength_of p q v n k ≡ (if n == 0 then 4 else 3)
  intra_strength e = ap strength_if e

  pub inter_strength_of : (p.is_intra || q.is_intra) ≡ false → strength_of p q v n k ≡ inter_strength p (edge_block v ((n + 3) % 4) k) q (edge_block v n k)
  inter_strength_of e = ap strength_if e

pub zeros : (k : ℕ) → k < 4 → slice_index (0 ∷ 0 ∷ 0 ∷ 0 ∷ []) k ≡ 0
zeros = same_below 4 (slice_index (0 ∷ 0 ∷ 0 ∷ 0 ∷ [])) (λ (k : ℕ). 0) refl

-- what holds of each number that is stored
pub stored_below : (P : ℕ → ℕ → Type 0) (xs : List ℕ) (n v : ℕ) → n < length xs → P n v → ((k : ℕ) → k < n → P k (slice_index xs k)) →
    (k : ℕ) → k < n + 1 → P k (slice_index (slice_set xs n v) k)
stored_below P xs n v room here before =
    below_more (λ k. P k (slice_index (slice_set xs n v) k)) n
    (λ k low. let other : k ≢ n = omega arith in rw (get_or-set_other) (before k low))
    (rw (get_or-set_same) here)

-- ---- strengths are low

pub low_inter : (p q : MbInfo) (j k : ℕ) → inter_strength p j q k < 4
low_inter p q j k = grind (arith, nat_tests)

pub low_inside : (q : MbInfo) (v : Bool) (n k : ℕ) → 1 ≤ n → strength_of q q v n k < 4
low_inside q v n k some = grind (arith, nat_tests, low_inter)

-- ---- the edges inside an intra macroblock: all strengths are 3

pub threes : (k : ℕ) → k < 4 → slice_index (3 ∷ 3 ∷ 3 ∷ 3 ∷ []) k ≡ 3
threes = same_below 4 (slice_index (3 ∷ 3 ∷ 3 ∷ 3 ∷ [])) (λ (k : ℕ). 3) refl

pub inside_intra : (q : MbInfo) (v : Bool) (st : List ℕ) → q.is_intra ≡ true → ((k : ℕ) → k < 4 → slice_index st k ≡ 3) → (n : ℕ) → 1 ≤ n → (k : ℕ) → k < 4 →
    strength_along (BelowFour st) k ≡ strength_of q q v n k
inside_intra q v st intra same n some k low = grind (arith, nat_tests)

pub intra_lines : (column row : ℕ) (q : MbInfo) (v : Bool) (st : List ℕ) (s t : Plane) → q.is_intra ≡ true → ((k : ℕ) → k < 4 → slice_index st k ≡ 3) →
    (let f : ℕ → Setting = luma_setting (strength_along (BelowFour st)) (luma_qp_of q q) in
    t ≡ edge_behind 16 f v column row 12 (edge_behind 16 f v column row 8 (edge_behind 16 f v column row 4 s))) →
    t ≡ luma_behind v column row 3 (strength_of q q v 3) (luma_qp_of q q)
    (luma_behind v column row 2 (strength_of q q v 2) (luma_qp_of q q) (luma_behind v column row 1 (strength_of q q v 1) (luma_qp_of q q) s))
intra_lines column row q v st s t intra same is =
    let qp = luma_qp_of q q in
    let f : ℕ → ℕ = strength_along (BelowFour st) in
    let alike : (n : ℕ) → 1 ≤ n → (r : Plane) → luma_behind v column row n f qp r ≡ luma_behind v column row n (strength_of q q v n) qp r =
    λ n some r. luma_same column row n f (strength_of q q v n) qp (inside_intra q v st intra same n some) v r in
    is
    ∙ alike 3 (omega arith) _
    ∙ ap (luma_behind v column row 3 (strength_of q q v 3) qp)
    (alike 2 (omega arith) _ ∙ ap (luma_behind v column row 2 (strength_of q q v 2) qp) (alike 1 (omega arith) s))

pub inner_room : (column row : ℕ) (offset : ℤ) (q : MbInfo) (s t : Planes) →
    t ≡ edges_by_info false column row offset false true q q s → (a b : ℕ) → HasRoom a b s → HasRoom a b t
inner_room column row offset q s t is a b h =
    let kept : (n : ℕ) (r : Planes) → HasRoom a b r → HasRoom a b (edge_by_info false column row n offset q q r) =
    λ n r. room_kept false column row n (strength_of q q false n) (luma_qp_of q q) (chroma_qp_of offset q q) r _ refl a b in
    rw is (kept 3 _ (kept 2 _ (kept 1 s h)))

-- ---- the strength of info is that of the picture

-- entries are equal where the numbers are
same_index : (names : Names) (m n : ℕ) → m < names.count → n < names.count → (names.decoding_index m == names.decoding_index n) ≡ (m == n)
same_index names m n m_low n_low = grind (arith, nat_tests, cases_eq)

named_both : (c : Coded) (pa qa r s : ℕ) (u v : Mv) (x y : ℕ) → picture_named c pa r ≡ Some x → picture_named c qa s ≡ Some y →
    moves_differently c pa qa (inter_motion r u) (inter_motion s v) ≡ (not (x == y) || are_far u v)
named_both c pa qa r s u v x y e f = rw (e, f) (or_assoc (not (x == y)) (nat_le 4 (nat_abs (u.x -ℤ v.x))) (nat_le 4 (nat_abs (u.y -ℤ v.y))))

pub inter_between : (c : Coded) (motion : List (List Motion)) (names : Names) (pa qa : ℕ) (p : MbInfo) (kp : ℕ) (q : MbInfo) (kq : ℕ) → kp < 16 → kq < 16 →
    HasInfo c motion names pa p → HasInfo c motion names qa q → p.is_intra ≡ false → q.is_intra ≡ false → inter_strength p kp q kq ≡ strength_between c motion pa kp qa kq
inter_between c motion names pa qa p kp q kq kp_low kq_low hp hq np nq = grind (arith, nat_tests, named_both, same_index)

pub intra_between : (c : Coded) (motion : List (List Motion)) (names : Names) (pa qa : ℕ) (p : MbInfo) (kp : ℕ) (q : MbInfo) (kq : ℕ) →
    HasInfo c motion names pa p → HasInfo c motion names qa q → (p.is_intra || q.is_intra) ≡ true → strength_between c motion pa kp qa kq ≡ (if pa == qa then 3 else 4)
intra_between c motion names pa qa p kp q kq hp hq either = grind (arith, nat_tests)

pub both_false : (a b : Bool) → (a || b) ≡ false → (a ≡ false) × (b ≡ false)
both_false a b e = grind (arith, nat_tests)

pub low_block : (v : Bool) (n k : ℕ) → n < 4 → k < 4 → edge_block v n k < 16
low_block v n k n_low k_low = grind (arith, nat_tests)

-- ---- between blocks that stand still in one frame the strength is 0

not_far : (u : Mv) → are_far u u ≡ false
not_far u = grind (arith, nat_tests)

pub one_picture : (m : ℕ) → (m == m) ≡ true
one_picture m = grind (arith, nat_tests)

-- blocks of one motion without coefficients
pub quiet : (p : MbInfo) (kp : ℕ) (q : MbInfo) (kq : ℕ) → HaveOneMotion p kp q kq → inter_strength p kp q kq ≡ 0
quiet p kp q kq h = rw (h.no_p_levels, h.no_q_levels, h.picture, h.vector, one_picture (slice_index q.pictures (kq / 4)), not_far (slice_index_or q.vectors kq zero_vector)) refl

-- ---- a macroblock with strengths of 0 inside has no edge inside it that is filtered

module _ (column row : ℕ) (offset : ℤ) (f : MbInfo) (v : Bool) (none : (n k : ℕ) → 1 ≤ n → n < 4 → k < 4 → strength_of f f v n k ≡ 0) where
  still_edge : (n : ℕ) → 1 ≤ n → n < 4 → (s : Planes) → edge_by_info v column row n offset f f s ≡ s
  still_edge n some low s =
      edge_zero v column row n (strength_of f f v n) (luma_qp_of f f) (chroma_qp_of offset f f) s (λ k k_low. none n k some low k_low)

  still_edges : (inner : Bool) (s : Planes) → edges_by_info v column row offset false inner f f s ≡ s
  still_edges false s = refl
  still_edges true s =
      ap (λ t. edge_by_info v column row 3 offset f f (edge_by_info v column row 2 offset f f t)) (still_edge 1 (omega arith) (omega arith) s)
      ∙ ap (edge_by_info v column row 3 offset f f) (still_edge 2 (omega arith) (omega arith) s) ∙ still_edge 3 (omega arith) (omega arith) s

-- Edges inside such a macroblock can go.
pub without_still : (column row : ℕ) (offset : ℤ) (f : MbInfo) (still : Bool) →
    (still ≡ true → (v : Bool) (n k : ℕ) → 1 ≤ n → n < 4 → k < 4 → strength_of f f v n k ≡ 0) → (v inner : Bool) (s : Planes) →
    edges_by_info v column row offset false (inner && not still) f f s ≡ edges_by_info v column row offset false inner f f s
without_still column row offset f false none v inner s = grind (arith, nat_tests)
without_still column row offset f true none v inner s = grind (arith, nat_tests, still_edges column row offset f v (none refl v))

-- ---- a macroblock

-- inner edges over the outer one
over : (v : Bool) (o i : Bool) (column row : ℕ) (e : ℤ) (p q : MbInfo) (s : Planes) →
    edges_by_info v column row e false i q q (edges_by_info v column row e o false p q s) ≡ edges_by_info v column row e o i p q s
over v true i column row e p q s = refl
over v false i column row e p q s = refl

-- an outer edge at strength 0 can go
outer_kept : (v : Bool) (column row : ℕ) (e : ℤ) (p q : MbInfo) (acts joins : Bool) → (acts ≡ true → joins ≡ true) →
    (acts ≡ false → joins ≡ true → (k : ℕ) → k < 4 → strength_of p q v 0 k ≡ 0) → (s : Planes) →
    edges_by_info v column row e acts false p q s ≡ edges_by_info v column row e joins false p q s
outer_kept v column row e p q acts joins on off s = grind (arith, nat_tests, edge_zero)

module _ (column row : ℕ) (e : ℤ) (left above mb : MbInfo) (still i l u : Bool)
    (none : still ≡ true → (v : Bool) (n k : ℕ) → 1 ≤ n → n < 4 → k < 4 → strength_of mb mb v n k ≡ 0)
    (inner_is : i ≡ (filters_between mb mb && not still)) (left_on : l ≡ true → (nat_lt 0 column && filters_between mb left) ≡ true)
    (left_off : l ≡ false → (nat_lt 0 column && filters_between mb left) ≡ true → (k : ℕ) → k < 4 → strength_of left mb true 0 k ≡ 0)
    (top_on : u ≡ true → (nat_lt 0 row && filters_between mb above) ≡ true)
    (top_off : u ≡ false → (nat_lt 0 row && filters_between mb above) ≡ true → (k : ℕ) → k < 4 → strength_of above mb false 0 k ≡ 0) (s : Planes) where
  pub mb_kept : edges_by_info false column row e false i mb mb (edges_by_info false column row e u false above mb (edges_by_info true column row e false i mb mb (edges_by_info true column row e l false left mb s)))
      ≡ mb_by_info e column row left above mb s
  mb_kept =
      rw (
        inner_is,
        without_still column row e mb still none false,
        without_still column row e mb still none true,
        outer_kept false column row e above mb u (nat_lt 0 row && filters_between mb above) top_on top_off,
        outer_kept true column row e left mb l (nat_lt 0 column && filters_between mb left) left_on left_off s,
        over false,
        over true,
      ) refl
