-- The lines of an edge in a plane: what they change, and what they read.
pub mod EdgeLines
unfoldable pub use EdgeLines.*

-- ---- what the lines of one edge leave of a plane: each sample of it, and the block that they change: sizes

-- a plane of this size, with so many samples
pub record IsSized (w h n : ℕ) (s : Plane) : Type 0 where
  pub width : s.width ≡ w
  pub height : s.height ≡ h
  pub long : length s.samples ≡ n

module _ {w h n : ℕ} where
  line_sized : (setting : Setting) (v : Bool) (x y : ℕ) (s : Plane) → IsSized w h n s → IsSized w h n (line_filtered setting v x y s)
  line_sized setting true x y s is = record { width = is.width; height = is.height; long = simp length-set is.long }
  line_sized setting false x y s is = record { width = is.width; height = is.height; long = simp length-set is.long }

  lines_sized : (f : ℕ → Setting) (v : Bool) (x y : ℕ) (is : List ℕ) (s : Plane) → IsSized w h n s → IsSized w h n (lines_filtered f v x y is s)
  lines_sized f true x y [] s sized = sized
  lines_sized f false x y [] s sized = sized
  lines_sized f true x y (i ∷ is) s sized = lines_sized f true x y is (line_filtered (f i) true x (y + i) s) (line_sized (f i) true x (y + i) s sized)
  lines_sized f false x y (i ∷ is) s sized = lines_sized f false x y is (line_filtered (f i) false (x + i) y s) (line_sized (f i) false (x + i) y s sized)

  pub edge_sized : (f : ℕ → Setting) (v : Bool) (x y m : ℕ) (s : Plane) → IsSized w h n s → IsSized w h n (edge_filtered f v x y m s)
  unfolding edge_filtered
  edge_sized f v x y m s sized = lines_sized f v x y (range_with_len 0 m) s sized

-- the size stays
pub edge_size : (f : ℕ → Setting) (v : Bool) (x y n : ℕ) (s : Plane) → IsSized s.width s.height (length s.samples) (edge_filtered f v x y n s)
edge_size f v x y n s = edge_sized f v x y n s (record { width = refl; height = refl; long = refl })

pub edge_width : (f : ℕ → Setting) (v : Bool) (x y n : ℕ) (s : Plane) → (edge_filtered f v x y n s).width ≡ s.width
edge_width f v x y n s = (edge_size f v x y n s).width

pub edge_height : (f : ℕ → Setting) (v : Bool) (x y n : ℕ) (s : Plane) → (edge_filtered f v x y n s).height ≡ s.height
edge_height f v x y n s = (edge_size f v x y n s).height

abbrev pub with_samples : Plane → List ℕ → Plane
with_samples s xs = record { width = s.width; height = s.height; samples = xs }

-- ---- places of samples

pub some_column : (k width height : ℕ) → k < width * height → 0 < width
some_column k width height below = grind (arith, cases_lt)

pub row_of : (k width height : ℕ) → k < width * height → k / width < height
row_of k width height below = (div-lt_iff_lt-mul (some_column k width height below)).1 (omega (arith, mul_comm width height))

same_size : (s t : Plane) → t.width ≡ s.width → t.height ≡ s.height → t ≡ with_samples s t.samples
same_size s t e h = rw (sym e, sym h) refl

-- A plane is another with a block changed, if it is so at each place.
pub block_is : (s t : Plane) (left top width height : ℕ) (f : ℕ → ℕ → ℕ) → IsSized s.width s.height (s.width * s.height) t →
    ((a b : ℕ) → a < s.width → b < s.height → left ≤ a → a < left + width → top ≤ b → b < top + height → sample t a b ≡ f (a - left) (b - top)) →
    ((a b : ℕ) → a < s.width → b < s.height → (left ≤ a → a < left + width → top ≤ b → b < top + height → ⊥) → sample t a b ≡ sample s a b) →
    t ≡ with_block s left top width height f
block_is s t left top width height f sized in_it out =
    let g : ℕ → ℕ → ℕ = λ x y. if is_inside left top width height x y then f (x - left) (y - top) else sample s x y in
    same_size s t sized.width sized.height
    ∙ ap (with_samples s) (fill_by_all (λ i. g (i % s.width) (i / s.width)) t.samples (s.width * s.height) 0 sized.long
    (λ j less.
    let a = j % s.width in
    let b = j / s.width in
    let column = mod_below j s.width (some_column j s.width s.height less) in
    let row = row_of j s.width s.height less in
    let parts : j ≡ b * s.width + a = sym (omega (arith, mul_comm b s.width)) in
    ap (slice_index t.samples) parts ∙ ap (λ w. slice_index t.samples (b * w + a)) (sym sized.width)
    ∙ by_place (λ c. sample t a b ≡ (if c then f (a - left) (b - top) else sample s a b)) left top width height a b (in_it a b column row) (out a b column row)))

-- ---- one line

-- f(k) put at each place at(k), for k from 1 to n
unfoldable sets : (xs : List ℕ) (at f : ℕ → ℕ) → ℕ → List ℕ
sets xs at f zero = xs
sets xs at f (suc n) = slice_set (sets xs at f n) (at (suc n)) (f (suc n))

module _ (xs : List ℕ) (at f : ℕ → ℕ) where
  length-sets : (n : ℕ) → length (sets xs at f n) ≡ length xs
  unfolding sets
  length-sets zero = refl
  length-sets (suc n) = length-set (sets xs at f n) (at (suc n)) (f (suc n)) ∙ length-sets n

  -- the sample at a place is u, if what is put there is u, and u stands there where nothing is put
  sets_value : (n j u : ℕ) → ((k : ℕ) → k ≤ n → at k < length xs) → ((k : ℕ) → 1 ≤ k → k ≤ n → j ≡ at k → f k ≡ u) →
      (((k : ℕ) → 1 ≤ k → k ≤ n → j ≢ at k) → slice_index xs j ≡ u) → slice_index (sets xs at f n) j ≡ u
  unfolding sets
  sets_value zero j u within put kept = kept (λ k some low. absurd (omega arith))
  sets_value (suc n) j u within put kept =
      grind (
        arith,
        get_or-set_same,
        get_or-set_other,
        length-sets,
        cases_eq,
        cases_lt,
        sets_value n j u (λ k low. within k (omega arith)) (λ k some low. put k some (omega arith)),
      )

-- the coordinate of q0 of a line, where that of p3 is z: that across the edge, or that along it
abbrev pub from_p3 : Bool → ℕ → ℕ
from_p3 true z = z + 4
from_p3 false z = z

eight : (F : ℕ → ℕ) (z : ℕ) → line (F (z + 4 - 4)) (F (z + 4 - 3)) (F (z + 4 - 2)) (F (z + 4 - 1)) (F (z + 4)) (F (z + 4 + 1)) (F (z + 4 + 2)) (F (z + 4 + 3)) ≡ line_of (λ k. F (z + k))
eight F z = grind (arith, same_line)

six : (G : Plane → ℕ → ℕ → Plane) (z : ℕ) (l : Line) (s : Plane) →
    G (G (G (G (G (G s (z + 4 - 3) l.p2) (z + 4 - 2) l.p1) (z + 4 - 1) l.p0) (z + 4) l.q0) (z + 4 + 1) l.q1) (z + 4 + 2) l.q2
    ≡ G (G (G (G (G (G s (z + 1) l.p2) (z + 2) l.p1) (z + 3) l.p0) (z + 4) l.q0) (z + 5) l.q1) (z + 6) l.q2
six G z l s = search (rules)

-- the samples of the line whose p3 is at (left, top)
abbrev pub seen : Plane → Bool → (left top k : ℕ) → ℕ
seen s v left top k = sample s (place v left k) (place (not v) top k)

line_shown : (setting : Setting) (v : Bool) (left top : ℕ) (s : Plane) → line_filtered setting v (from_p3 v left) (from_p3 (not v) top) s
    ≡ with_samples s (sets s.samples (λ k. place (not v) top k * s.width + place v left k) (sample_of (filtered setting (line_of (seen s v left top)))) 6)
unfolding sets
line_shown setting true left top s = grind (arith, eight, sample, six)
line_shown setting false left top s = grind (arith, eight, sample, six)

-- the sample at (p, q) after a line is u, if the line's new sample there is u, and u stands there where the line puts none
line_value : (setting : Setting) (v : Bool) (left top w h : ℕ) (s : Plane) → IsSized w h (w * h) s → ((k : ℕ) → k < 8 → (place v left k < w) × (place (not v) top k < h)) →
    (p q u : ℕ) → p < w →
    ((k : ℕ) → 1 ≤ k → k < 7 → p ≡ place v left k → q ≡ place (not v) top k → sample_of (filtered setting (line_of (seen s v left top))) k ≡ u) →
    (((k : ℕ) → 1 ≤ k → k < 7 → p ≡ place v left k → q ≡ place (not v) top k → ⊥) → sample s p q ≡ u) →
    sample (line_filtered setting v (from_p3 v left) (from_p3 (not v) top) s) p q ≡ u
line_value setting v left top w h s sized inside p q u narrow hit miss =
    let at : ℕ → ℕ = λ k. place (not v) top k * s.width + place v left k in
    ap (λ t. sample t p q) (line_shown setting v left top s)
    ∙ sets_value s.samples at (sample_of (filtered setting (line_of (seen s v left top)))) 6 (q * s.width + p) u
    (λ k low.
    let h = inside k (omega arith) in
    omega (
      arith,
      sized.long,
      mul-add-lt (place (not v) top k) s.width (place v left k) s.height (omega (arith, sized.height, h.1)) (omega (arith, sized.width, h.0)),
      ap (λ n. n * s.height) sized.width,
      ap (λ n. w * n) sized.height,
    ))
    (λ k some low e.
    let same = same_from_place q p (place (not v) top k) (place v left k) s.width (omega (arith, sized.width)) (omega (arith, sized.width, (inside k (omega arith)).0)) e in
    hit k some (omega arith) same.1 same.0)
    (λ none. miss (λ k some low e f. none k some (omega arith) (ap (λ n. n * s.width + p) f ∙ ap (λ n. place (not v) top k * s.width + n) e)))

-- ---- all lines

-- a coordinate of p3 of line i, where that of line 0 is z
abbrev pub beside : Bool → (z i : ℕ) → ℕ
beside true z i = z
beside false z i = z + i

-- and of sample k of line i
abbrev pub coordinate : Bool → (z i k : ℕ) → ℕ
coordinate v z i k = place v (beside v z i) k

-- the samples of line i
abbrev pub line_seen : Plane → Bool → (left top i k : ℕ) → ℕ
line_seen s v left top i k = sample s (coordinate v left i k) (coordinate (not v) top i k)

-- (p, q) is the place of sample k of line i, which the line may change
pub record IsChanged (v : Bool) (left top n p q i k : ℕ) : Type 0 where
  pub below : i < n
  pub some : 1 ≤ k
  pub last : k < 7
  pub column : p ≡ coordinate v left i k
  pub row : q ≡ coordinate (not v) top i k

pub seen_at : (s : Plane) (v : Bool) (left top p q i k : ℕ) → p ≡ coordinate v left i k → q ≡ coordinate (not v) top i k → sample s p q ≡ line_seen s v left top i k
seen_at s v left top p q i k e f = rw (e, f) refl

-- no two samples have one place
pub apart : (v : Bool) (left top i j k m : ℕ) → coordinate v left i k ≡ coordinate v left j m → coordinate (not v) top i k ≡ coordinate (not v) top j m → (i ≡ j) × (k ≡ m)
apart true left top i j k m e f = (omega arith, omega arith)
apart false left top i j k m e f = (omega arith, omega arith)

no_lines : (setting : ℕ → Setting) (v : Bool) (x y : ℕ) (s : Plane) → lines_filtered setting v x y [] s ≡ s
no_lines setting true x y s = refl
no_lines setting false x y s = refl

lines_more : (setting : ℕ → Setting) (v : Bool) (left top i : ℕ) (is : List ℕ) (s : Plane) →
    lines_filtered setting v (from_p3 v left) (from_p3 (not v) top) (i ∷ is) s
    ≡ lines_filtered setting v (from_p3 v left) (from_p3 (not v) top) is (line_filtered (setting i) v (from_p3 v (beside v left i)) (from_p3 (not v) (beside (not v) top i)) s)
lines_more setting true left top i is s = refl
lines_more setting false left top i is s = refl

-- n lines from p3 of the first, at (left, top), on
module _ (setting : ℕ → Setting) (v : Bool) (left top n w h : ℕ) (inside : (i k : ℕ) → i < n → k < 8 → (coordinate v left i k < w) × (coordinate (not v) top i k < h)) where
  abbrev pub new : Plane → (i k : ℕ) → ℕ
  new s i k = sample_of (filtered (setting i) (line_of (line_seen s v left top i))) k

  lines_value : (a m : ℕ) → a + m ≡ n → (s : Plane) → IsSized w h (w * h) s → (p q u : ℕ) → p < w →
      ((i k : ℕ) → a ≤ i → IsChanged v left top n p q i k → new s i k ≡ u) → (((i k : ℕ) → a ≤ i → IsChanged v left top n p q i k → ⊥) → sample s p q ≡ u) →
      sample (lines_filtered setting v (from_p3 v left) (from_p3 (not v) top) (range_with_len a m) s) p q ≡ u
  lines_value a zero all s sized p q u narrow hit miss =
      ap (λ r. sample r p q) (no_lines setting v (from_p3 v left) (from_p3 (not v) top) s) ∙ miss (λ i k more c. absurd (omega arith))
  lines_value a (suc m) all s sized p q u narrow hit miss =
      let t : Plane = line_filtered (setting a) v (from_p3 v (beside v left a)) (from_p3 (not v) (beside (not v) top a)) s in
      let one = line_value (setting a) v (beside v left a) (beside (not v) top a) w h s sized (λ k low. inside a k (omega arith) low) in
      let same : (i k : ℕ) → a < i → i < n → k < 8 → line_seen t v left top i k ≡ line_seen s v left top i k =
      λ i k more below low. one (coordinate v left i k) (coordinate (not v) top i k) (line_seen s v left top i k) (inside i k below low).0
      (λ j some last e f. let other = (apart v left top i a k j e f).0 in absurd (omega arith)) (λ none. refl) in
      ap (λ r. sample r p q) (lines_more setting v left top a (range_with_len (a + 1) m) s)
      ∙ lines_value (a + 1) m (omega arith) t (line_sized (setting a) v _ _ s sized) p q u narrow
      (λ i k more c.
      ap (λ l. sample_of (filtered (setting i) l) k) (same_samples (line_seen t v left top i) (line_seen s v left top i) (λ j low. same i j (omega arith) c.below low))
      ∙ hit i k (omega arith) c)
      (λ none.
      one p q u narrow (λ k some last e f. hit a k (omega arith) (record { below = omega arith; some = some; last = last; column = e; row = f }))
      (λ other. miss (λ i k more c.
      ⊎_elim (λ less. none i k (omega arith) c)
      (λ first. let is : i ≡ a = omega arith in other k c.some c.last (c.column ∙ ap (λ j. coordinate v left j k) is) (c.row ∙ ap (λ j. coordinate (not v) top j k) is))
      (cases_lt a i))))

  -- the sample at (p, q) after all lines is u, if a line's new sample there is u, and u stands there where none changes it
  pub edge_value : (s : Plane) → IsSized w h (w * h) s → (p q u : ℕ) → p < w → ((i k : ℕ) → IsChanged v left top n p q i k → new s i k ≡ u) →
      (((i k : ℕ) → IsChanged v left top n p q i k → ⊥) → sample s p q ≡ u) → sample (edge_filtered setting v (from_p3 v left) (from_p3 (not v) top) n s) p q ≡ u
  unfolding edge_filtered
  edge_value s sized p q u narrow hit miss =
      lines_value 0 n (omega arith) s sized p q u narrow (λ i k low c. hit i k c) (λ none. miss (λ i k c. none i k (omega arith) c))

-- ---- the block that they change

-- f by the place in a block, as a function of the line and the sample in it
abbrev pub by_line : Bool → (f : ℕ → ℕ → ℕ) → (i k : ℕ) → ℕ
by_line true f i k = f k i
by_line false f i k = f i k

in_block : (v : Bool) (f : ℕ → ℕ → ℕ) (left top a b i k : ℕ) → a ≡ coordinate v left i k → b ≡ coordinate (not v) top i k → by_line v f i k ≡ f (a - left) (b - top)
in_block true f left top a b i k e h = let column : a - left ≡ k = omega arith in let row : b - top ≡ i = omega arith in rw (column, row) refl
in_block false f left top a b i k e h = let column : a - left ≡ i = omega arith in let row : b - top ≡ k = omega arith in rw (column, row) refl

within : (v : Bool) (left top n i k : ℕ) → i < n → k < 8 →
    (left ≤ coordinate v left i k) × (coordinate v left i k < left + (if v then 8 else n)) × (top ≤ coordinate (not v) top i k) × (coordinate (not v) top i k < top + (if v then n else 8))
within true left top n i k less low = (omega arith, omega arith, omega arith, omega arith)
within false left top n i k less low = (omega arith, omega arith, omega arith, omega arith)

covered : (v : Bool) (left top n a b : ℕ) → left ≤ a → a < left + (if v then 8 else n) → top ≤ b → b < top + (if v then n else 8) →
    (i : ℕ) × (k : ℕ) × (i < n) × (k < 8) × (a ≡ coordinate v left i k) × (b ≡ coordinate (not v) top i k)
covered true left top n a b p q r u = (b - top, a - left, omega arith, omega arith, omega arith, omega arith)
covered false left top n a b p q r u = (a - left, b - top, omega arith, omega arith, omega arith, omega arith)

-- n rows of eight samples, or eight rows of n samples
pub edge_as_block : (v : Bool) (setting : ℕ → Setting) (left top n : ℕ) (s : Plane) → length s.samples ≡ s.width * s.height → (f : ℕ → ℕ → ℕ) →
    left + (if v then 8 else n) ≤ s.width → top + (if v then n else 8) ≤ s.height →
    ((i : ℕ) → i < n → filtered (setting i) (line_of (line_seen s v left top i)) ≡ line_of (λ k. by_line v f i k)) →
    edge_filtered setting v (from_p3 v left) (from_p3 (not v) top) n s ≡ with_block s left top (if v then 8 else n) (if v then n else 8) f
edge_as_block v setting left top n s long f columns rows lines =
    let sized : IsSized s.width s.height (s.width * s.height) s = record { width = refl; height = refl; long = long } in
    let inside : (i k : ℕ) → i < n → k < 8 → (coordinate v left i k < s.width) × (coordinate (not v) top i k < s.height) =
    λ i k less low. let h = within v left top n i k less low in (omega (arith, h.1), omega (arith, h.3)) in
    let value = edge_value setting v left top n s.width s.height inside s sized in
    block_is s (edge_filtered setting v (from_p3 v left) (from_p3 (not v) top) n s) left top _ _ f (edge_sized setting v _ _ n s sized)
    (λ a b a_in b_in p q r u.
    let c = covered v left top n a b p q r u in
    value a b (f (a - left) (b - top)) a_in
    (λ i k d. ap (λ l. sample_of l k) (lines i d.below) ∙ sample_is (by_line v f i) k (omega arith) ∙ in_block v f left top a b i k d.column d.row)
    (λ none.
    seen_at s v left top a b c.0 c.1 c.4 c.5
    ∙ sym (kept_by (setting c.0) (line_seen s v left top c.0) (by_line v f c.0) 3 (luma_reach (setting c.0)) (lines c.0 c.2) c.1 c.3
    (λ some last. none c.0 c.1 (record { below = c.2; some = some; last = last; column = c.4; row = c.5 })))
    ∙ in_block v f left top a b c.0 c.1 c.4 c.5))
    (λ a b a_in b_in out.
    value a b (sample s a b) a_in
    (λ i k d.
    let h = within v left top n i k d.below (omega arith) in
    absurd (out (omega (arith, h.0, d.column)) (omega (arith, h.1, d.column)) (omega (arith, h.2, d.row)) (omega (arith, h.3, d.row))))
    (λ none. refl))

-- ---- what edges read and change of the samples of a plane: changes of a plane

-- g changes samples of a plane of w columns in the rows from `first` on, up to `end`, and reads none from there on.
pub record IsLocal (w first end : ℕ) (g : Plane → Plane) : Type 0 where
  pub width : (s : Plane) → (g s).width ≡ s.width
  pub height : (s : Plane) → (g s).height ≡ s.height
  pub long : (s : Plane) → length (g s).samples ≡ length s.samples
  pub kept : (h : ℕ) (s : Plane) → IsSized w h (w * h) s → end ≤ h → (x y : ℕ) → x < w → (first ≤ y → y < end → ⊥) → sample (g s) x y ≡ sample s x y
  pub same : (h : ℕ) (s t : Plane) → IsSized w h (w * h) s → IsSized w h (w * h) t → end ≤ h → ((x y : ℕ) → x < w → y < end → sample t x y ≡ sample s x y) →
      (x y : ℕ) → x < w → y < end → sample (g t) x y ≡ sample (g s) x y

pub sized_after : {w first end a b n : ℕ} {g : Plane → Plane} → IsLocal w first end g → (s : Plane) → IsSized a b n s → IsSized a b n (g s)
sized_after local s sized = record { width = local.width s ∙ sized.width; height = local.height s ∙ sized.height; long = local.long s ∙ sized.long }

pub local_none : {w first end : ℕ} → IsLocal w first end (λ s. s)
local_none = record { width = λ s. refl; height = λ s. refl; long = λ s. refl; kept = λ h s sized high x y narrow out. refl; same = λ h s t sized t_sized high agree. agree }

pub local_then : {w first end : ℕ} {g h : Plane → Plane} → IsLocal w first end g → IsLocal w first end h → IsLocal w first end (λ s. h (g s))
local_then {w} {first} {end} {g} {h} a b = record {
  width = λ s. b.width (g s) ∙ a.width s;
  height = λ s. b.height (g s) ∙ a.height s;
  long = λ s. b.long (g s) ∙ a.long s;
  kept = λ rows s sized high x y narrow out. b.kept rows (g s) (sized_after a s sized) high x y narrow out ∙ a.kept rows s sized high x y narrow out;
  same = λ rows s t sized t_sized high agree.
      b.same rows (g s) (g t) (sized_after a s sized) (sized_after a t t_sized) high (a.same rows s t sized t_sized high agree);
}

pub local_if : (w first end : ℕ) (b : Bool) (g : Plane → Plane) → (b ≡ true → IsLocal w first end g) → IsLocal w first end (λ s. if b then g s else s)
local_if w first end true g h = h refl
local_if w first end false g h = local_none

-- ---- an edge

same_pair : (F : ℕ → ℕ → ℕ) {i j k m : ℕ} → i ≡ j → k ≡ m → F i k ≡ F j m
same_pair F e f = rw (e, f) refl

module _ (w first end : ℕ) (f : ℕ → Setting) (v : Bool) (left top n reach : ℕ) (keeps : (i : ℕ) → HasReach (f i) reach)
    (inside : (i k : ℕ) → i < n → k < 8 → (coordinate v left i k < w) × (coordinate (not v) top i k < end))
    (from : (i k : ℕ) → i < n → 4 - reach ≤ k → k < 4 + reach → first ≤ coordinate (not v) top i k) where
  -- the sample at (x, y) after the edge is u
  value : (h : ℕ) (s : Plane) → IsSized w h (w * h) s → end ≤ h → (x y u : ℕ) → x < w →
      ((i k : ℕ) → IsChanged v left top n x y i k → sample_of (filtered (f i) (line_of (line_seen s v left top i))) k ≡ u) →
      (((i k : ℕ) → IsChanged v left top n x y i k → ⊥) → sample s x y ≡ u) → sample (edge_filtered f v (from_p3 v left) (from_p3 (not v) top) n s) x y ≡ u
  value h s sized high = edge_value f v left top n w h (λ i k less low. let at = inside i k less low in (at.0, omega (arith, at.1))) s sized

  pub local_edge : IsLocal w first end (edge_filtered f v (from_p3 v left) (from_p3 (not v) top) n)
  local_edge = record {
    width = λ s. (edge_size f v (from_p3 v left) (from_p3 (not v) top) n s).width;
    height = λ s. (edge_size f v (from_p3 v left) (from_p3 (not v) top) n s).height;
    long = λ s. (edge_size f v (from_p3 v left) (from_p3 (not v) top) n s).long;
    kept = λ h s sized high x y narrow out.
        value h s sized high x y (sample s x y) narrow
        (λ i k c.
        keeps i (line_of (line_seen s v left top i)) k (omega arith)
        (λ p q. out (omega (arith, from i k c.below p q, c.row)) (omega (arith, (inside i k c.below (omega arith)).1, c.row)))
        ∙ sample_is (line_seen s v left top i) k (omega arith) ∙ sym (seen_at s v left top x y i k c.column c.row))
        (λ none. refl);
    same = λ h s t sized t_sized high agree x y narrow low.
        let new : ℕ → ℕ → ℕ = λ i k. sample_of (filtered (f i) (line_of (line_seen s v left top i))) k in
        value h t t_sized high x y _ narrow
        (λ i k c.
        ap (λ l. sample_of (filtered (f i) l) k) (same_samples (line_seen t v left top i) (line_seen s v left top i) (λ j less. let at = inside i j c.below less in agree _ _ at.0 at.1))
        ∙ sym (value h s sized high x y (new i k) narrow
        (λ j m d. let is = apart v left top j i m k (sym d.column ∙ c.column) (sym d.row ∙ c.row) in same_pair new is.0 is.1) (λ none. absurd (none i k c))))
        (λ none. agree x y narrow low ∙ sym (value h s sized high x y (sample s x y) narrow (λ j m d. absurd (none j m d)) (λ other. refl)));
  }

-- ---- a block of a plane of which only a part changes

pub outside_block : (s : Plane) (left top width height : ℕ) (f : ℕ → ℕ → ℕ) (x y : ℕ) → x < s.width → y < s.height →
    (left ≤ x → x < left + width → top ≤ y → y < top + height → ⊥) → sample (with_block s left top width height f) x y ≡ sample s x y
outside_block s left top width height f x y column row out = grind (arith, sample-with_block, by_place)

pub inside_block : (s : Plane) (left top width height : ℕ) (f : ℕ → ℕ → ℕ) (x y : ℕ) → x < s.width → y < s.height →
    left ≤ x → x < left + width → top ≤ y → y < top + height → sample (with_block s left top width height f) x y ≡ f (x - left) (y - top)
inside_block s left top width height f x y column row p q r u = grind (arith, sample-with_block, inside)

-- the rectangle of w' columns and h' rows at (a, b) of one of w columns and h rows
pub within_block : (s : Plane) (left top w h a b w' h' left' top' : ℕ) (f g : ℕ → ℕ → ℕ) → left' ≡ left + a → top' ≡ top + b → a + w' ≤ w → b + h' ≤ h →
    ((x y : ℕ) → x < w' → y < h' → g x y ≡ f (a + x) (b + y)) →
    ((x y : ℕ) → x < w → y < h → (a ≤ x → x < a + w' → b ≤ y → y < b + h' → ⊥) → f x y ≡ sample s (left + x) (top + y)) →
    with_block s left' top' w' h' g ≡ with_block s left top w h f
within_block s left top w h a b w' h' left' top' f g lefts tops columns rows same others =
    plane_of_same s.width s.height _ _
    (λ x y column row.
    by_place (λ (t : Bool). (if t then g (x - left') (y - top') else sample s x y) ≡ (if is_inside left top w h x y then f (x - left) (y - top) else sample s x y)) left' top' w' h' x y
    (λ p q r u. grind (arith, inside, same (x - left') (y - top')))
    (λ out.
    by_place (λ (t : Bool). sample s x y ≡ (if t then f (x - left) (y - top) else sample s x y)) left top w h x y
    (λ p q r u. grind (arith, others (x - left) (y - top))) (λ none. refl)))

-- ---- two vertical edges of chroma, four columns apart, as one block of a plane that is changed

-- a block that covers one that was changed before
covered_block : (s : Plane) (l t w h l' w' : ℕ) (f k : ℕ → ℕ → ℕ) → l ≤ l' → l' + w' ≤ l + w → with_block (with_block s l' t w' h f) l t w h k ≡ with_block s l t w h k
covered_block s l t w h l' w' f k from to =
    plane_of_same s.width s.height
    (λ x y. if is_inside l t w h x y then k (x - l) (y - t) else sample (with_block s l' t w' h f) x y)
    (λ x y. if is_inside l t w h x y then k (x - l) (y - t) else sample s x y)
    (λ x y column row.
    by_place (λ (b : Bool). (if b then k (x - l) (y - t) else sample (with_block s l' t w' h f) x y) ≡ (if b then k (x - l) (y - t) else sample s x y)) l t w h x y
    (λ p q r u. refl) (λ out. outside_block s l' t w' h f x y column row (λ p q. out (omega arith) (omega arith))))

-- ---- a vertical edge inside a square of which the columns stand in a table as rows

abbrev pub square : List ℕ → ℕ → ℕ → ℕ
square t x y = slice_index t (16 * x + y)

-- a block of the samples that stand there
pub square_itself : (s : Plane) (left top : ℕ) (f : ℕ → ℕ → ℕ) → length s.samples ≡ s.width * s.height
    → ((x y : ℕ) → x < 16 → y < 16 → f x y ≡ sample s (left + x) (top + y)) → s ≡ with_block s left top 16 16 f
square_itself s left top f long same =
    block_is s s left top 16 16 f (record { width = refl; height = refl; long = long })
    (λ a b column row p q r u. ap (λ x. sample s x b) (let e : a ≡ left + (a - left) = omega arith in e)
    ∙ ap (λ y. sample s (left + (a - left)) y) (let e : b ≡ top + (b - top) = omega arith in e) ∙ sym (same (a - left) (b - top) (omega arith) (omega arith)))
    (λ a b column row out. refl)

module _ (setting : ℕ → Setting) (left top e from : ℕ) (s : Plane) (t u : List ℕ) (at : from ≡ 16 * e) (room : e + 8 ≤ 16)
    (columns : left + 16 ≤ s.width) (rows : top + 16 ≤ s.height)
    (lines : (i : ℕ) → i < 16 → filtered (setting i) (line_down (samples_at from t) i) ≡ line_down (samples_at from u) i) (others : IsInnerSet from t u) where
  abbrev before : Plane
  before = with_block s left top 16 16 (square t)

  seen_before : (x y : ℕ) → x < 16 → y < 16 → sample before (left + x) (top + y) ≡ square t x y
  seen_before x y x_low y_low =
      inside_block s left top 16 16 (square t) (left + x) (top + y) (omega arith) (omega arith) (omega arith) (omega arith) (omega arith) (omega arith)
      ∙ ap (λ a. square t a (top + y - top)) (let e : left + x - left ≡ x = omega arith in e) ∙ ap (square t x) (let e : top + y - top ≡ y = omega arith in e)

  place_in : (x y : ℕ) → from + (16 * x + y) ≡ 16 * (e + x) + y
  place_in x y = omega (arith, at)

  same_outside : (x y : ℕ) → x < 16 → y < 16 → (e ≤ x → x < e + 8 → ⊥) → square u x y ≡ square t x y
  same_outside x y x_low y_low out = elim (cases_lt x e) [
    | inl less ↦ others.before (16 * x + y) (omega (arith, at))
    | inr more ↦ elim (cases_lt x (e + 8)) [
      | inl inside ↦ absurd (out more inside)
      | inr far ↦ others.behind (16 * x + y) (omega (arith, at))
    ]
  ]

  pub edge_on_square : edge_filtered setting true (left + e + 4) top 16 before ≡ with_block s left top 16 16 (square u)
  edge_on_square =
      edge_as_block true setting (left + e) top 16 before (length-plane_of s.width s.height (λ x y. if is_inside left top 16 16 x y then square t (x - left) (y - top) else sample s x y))
      (λ x y. square u (e + x) y) (omega arith) rows
      (λ i low.
      ap (filtered (setting i))
      (same_samples (λ k. sample before (left + e + k) (top + i)) (λ k. slice_index t (from + (16 * k + i)))
      (λ k less. ap (λ a. sample before a (top + i)) (let p : left + e + k ≡ left + (e + k) = omega arith in p) ∙ seen_before (e + k) i (omega arith) low ∙ ap (slice_index t) (sym (place_in k i))))
      ∙ lines i low
      ∙ same_samples (λ k. slice_index u (from + (16 * k + i))) (λ k. square u (e + k) i) (λ k less. ap (slice_index u) (place_in k i)))
      ∙ within_block before left top 16 16 e 0 8 16 (left + e) top (square u) (λ x y. square u (e + x) y) refl (omega arith) (omega arith) (omega arith)
      (λ x y x_low y_low. ap (square u (e + x)) (let p : y ≡ 0 + y = omega arith in p))
      (λ x y x_low y_low out. same_outside x y x_low y_low (λ p q. out p q (omega arith) (omega arith)) ∙ sym (seen_before x y x_low y_low))
      ∙ covered_block s left top 16 16 left 16 (square t) (square u) (omega arith) (omega arith)

-- the samples of a line across an edge, of which the four in the middle are anew
abbrev across_edge : (s : Plane) (left top : ℕ) (g : ℕ → ℕ → ℕ) → ℕ → ℕ → ℕ
across_edge s left top g x y =
    let old : ℕ → ℕ = λ k. sample s (left + k) (top + y) in
    sample_of (line (old 0) (old 1) (g 0 y) (g 1 y) (g 2 y) (g 3 y) (old 6) (old 7)) x

module _ (s : Plane) (left top : ℕ) (g : ℕ → ℕ → ℕ) where
  new_samples : (x y : ℕ) → x < 4 → g x y ≡ across_edge s left top g (2 + x) y
  new_samples x y = each_of_four (λ x. g x y ≡ across_edge s left top g (2 + x) y) refl refl refl refl x

  old_samples : (x y : ℕ) → x < 8 → (2 ≤ x → x < 6 → ⊥) → across_edge s left top g x y ≡ sample s (left + x) (top + y)
  old_samples x y low out = grind (arith, each_of_eight)

-- the four columns about an edge, where no line reads more
as_one_edge : (setting : ℕ → Setting) (left top : ℕ) (s : Plane) (g : ℕ → ℕ → ℕ) → length s.samples ≡ s.width * s.height → left + 8 ≤ s.width → top + 8 ≤ s.height →
    ((p3 p2 q2 q3 i : ℕ) → i < 8 →
    filtered (setting i) (line p3 p2 (sample s (left + 2) (top + i)) (sample s (left + 3) (top + i)) (sample s (left + 4) (top + i)) (sample s (left + 5) (top + i)) q2 q3)
    ≡ line p3 p2 (g 0 i) (g 1 i) (g 2 i) (g 3 i) q2 q3) →
    edge_filtered setting true (left + 4) top 8 s ≡ with_block s (left + 2) top 4 8 g
as_one_edge setting left top s g long columns rows lines =
    edge_as_block true setting left top 8 s long (across_edge s left top g) columns rows
    (λ i low. lines (sample s (left + 0) (top + i)) (sample s (left + 1) (top + i)) (sample s (left + 6) (top + i)) (sample s (left + 7) (top + i)) i low)
    ∙ sym (within_block s left top 8 8 2 0 4 8 (left + 2) top (across_edge s left top g) g refl (omega arith) (omega arith) (omega arith)
    (λ x y x_low y_low. new_samples s left top g x y x_low ∙ ap (across_edge s left top g (2 + x)) (let e : y ≡ 0 + y = omega arith in e))
    (λ x y x_low y_low out. old_samples s left top g x y x_low (λ p q. out p (omega arith) (omega arith) (omega arith))))

module _ (first second : ℕ → Setting) (left top b : ℕ) (s : Plane) (before after t u v w z : List ℕ) (bit : b < 2) (long : length s.samples ≡ s.width * s.height)
    (columns : left + 12 ≤ s.width) (rows : top + 8 ≤ s.height)
    (loaded : (x y : ℕ) → x < 8 → y < 8 → slice_index before (8 * y + x) ≡ sample s (left + 2 + x) (top + y))
    (joined : (k : ℕ) → k < 64 → slice_index t (64 * b + k) ≡ slice_index before k) (from : IsTransposed 8 t u) (to : IsTransposed 8 z w)
    (parted : (k : ℕ) → k < 64 → slice_index after k ≡ slice_index z (64 * b + k))
    (first_set : IsNearSet 0 u v) (second_set : IsNearSet 64 v w)
    (first_lines : (p3 p2 q2 q3 b i : ℕ) → b < 2 → i < 8 → filtered (first i) (line_near p3 p2 q2 q3 u 0 (8 * b + i)) ≡ line_near p3 p2 q2 q3 v 0 (8 * b + i))
    (second_lines : (p3 p2 q2 q3 b i : ℕ) → b < 2 → i < 8 → filtered (second i) (line_near p3 p2 q2 q3 v 64 (8 * b + i)) ≡ line_near p3 p2 q2 q3 w 64 (8 * b + i)) where
  at : (c x i : ℕ) → c < 8 → i < 8 → x ≡ left + 2 + c → sample s x (top + i) ≡ slice_index u (16 * c + (8 * b + i))
  at c x i c_low i_low e = grind arith

  abbrev new_at : ℕ → ℕ → ℕ
  new_at x y = slice_index w (16 * x + (8 * b + y))

  put_at : (x y : ℕ) → x < 8 → y < 8 → slice_index after (8 * y + x) ≡ new_at x y
  put_at x y x_low y_low =
      parted (8 * y + x) (omega arith) ∙ ap (slice_index z) (let e : 64 * b + (8 * y + x) ≡ 8 * (8 * b + y) + x = omega arith in e) ∙ sym (to (8 * b + y) x (omega arith) x_low)

  abbrev once : Plane
  once = with_block s (left + 2) top 4 8 new_at

  once_is : edge_filtered first true (left + 4) top 8 s ≡ once
  once_is = as_one_edge first left top s new_at long (omega arith) rows
      (λ p3 p2 q2 q3 i low.
      ap (filtered (first i))
      (same_line _ _ _ _ _ _ _ _ p3 p2 _ _ _ _ q2 q3 refl refl (at 0 (left + 2) i (omega arith) low (omega arith)) (at 1 (left + 3) i (omega arith) low (omega arith))
      (at 2 (left + 4) i (omega arith) low (omega arith)) (at 3 (left + 5) i (omega arith) low (omega arith)) refl refl)
      ∙ first_lines p3 p2 q2 q3 b i bit low
      ∙ sym (same_line _ _ _ _ _ _ _ _ p3 p2 _ _ _ _ q2 q3 refl refl (second_set.before (16 * 0 + (8 * b + i)) (omega arith)) (second_set.before (16 * 1 + (8 * b + i)) (omega arith))
      (second_set.before (16 * 2 + (8 * b + i)) (omega arith)) (second_set.before (16 * 3 + (8 * b + i)) (omega arith)) refl refl))

  behind_it : (x i : ℕ) → left + 6 ≤ x → x < s.width → i < 8 → sample once x (top + i) ≡ sample s x (top + i)
  behind_it x i far column low =
      outside_block s (left + 2) top 4 8 new_at x (top + i) column (omega arith) (λ p q. absurd (omega arith))

  inside_it : (x y : ℕ) → x < 4 → y < 8 → new_at x y ≡ sample once (left + 2 + x) (top + y)
  inside_it x y x_low y_low = grind (arith, inside_block)

  next : (c x i : ℕ) → 4 ≤ c → c < 8 → i < 8 → x ≡ left + 2 + c → sample once x (top + i) ≡ slice_index v (16 * c + (8 * b + i))
  next c x i far c_low i_low e =
      behind_it x i (omega arith) (omega arith) i_low ∙ at c x i c_low i_low e ∙ sym (first_set.behind (16 * c + (8 * b + i)) (omega arith))

  twice_is : edge_filtered second true (left + 4 + 4) top 8 once ≡ with_block once (left + 4 + 2) top 4 8 (λ x y. new_at (4 + x) y)
  twice_is = as_one_edge second (left + 4) top once (λ x y. new_at (4 + x) y) (length-plane_of s.width s.height (λ x y. if is_inside (left + 2) top 4 8 x y then new_at (x - (left + 2)) (y - top) else sample s x y)) (omega arith) rows
      (λ p3 p2 q2 q3 i low.
      ap (filtered (second i))
      (same_line _ _ _ _ _ _ _ _ p3 p2 _ _ _ _ q2 q3 refl refl (next 4 (left + 4 + 2) i (omega arith) (omega arith) low (omega arith)) (next 5 (left + 4 + 3) i (omega arith) (omega arith) low (omega arith))
      (next 6 (left + 4 + 4) i (omega arith) (omega arith) low (omega arith)) (next 7 (left + 4 + 5) i (omega arith) (omega arith) low (omega arith)) refl refl)
      ∙ second_lines p3 p2 q2 q3 b i bit low)

  pub two_edges : with_block s (left + 2) top 8 8 (λ x y. slice_index after (8 * y + x)) ≡ edge_filtered second true (left + 8) top 8 (edge_filtered first true (left + 4) top 8 s)
  two_edges =
      within_block s (left + 2) top 8 8 0 0 8 8 (left + 2) top new_at (λ x y. slice_index after (8 * y + x)) (omega arith) (omega arith) (omega arith) (omega arith)
      (λ x y x_low y_low.
      put_at x y x_low y_low ∙ ap (λ m. new_at m y) (let e : x ≡ 0 + x = omega arith in e) ∙ ap (λ m. new_at (0 + x) m) (let e : y ≡ 0 + y = omega arith in e))
      (λ x y x_low y_low out. absurd (out (omega arith) (omega arith) (omega arith) (omega arith)))
      ∙ sym (covered_block s (left + 2) top 8 8 (left + 2) 4 new_at new_at (omega arith) (omega arith))
      ∙ sym (within_block once (left + 2) top 8 8 4 0 4 8 (left + 4 + 2) top new_at (λ x y. new_at (4 + x) y) (omega arith) (omega arith) (omega arith) (omega arith)
      (λ x y x_low y_low. ap (λ m. new_at (4 + x) m) (let e : y ≡ 0 + y = omega arith in e))
      (λ x y x_low y_low out.
      ⊎_elim (λ less. inside_it x y less y_low) (λ more. absurd (out more (omega arith) (omega arith) (omega arith))) (cases_lt x 4)))
      ∙ sym twice_is
      ∙ ap (λ m. edge_filtered second true m top 8 once) (let e : left + 4 + 4 ≡ left + 8 = omega arith in e)
      ∙ ap (edge_filtered second true (left + 8) top 8) (sym once_is)

-- ---- the lines of Cb and Cr, side by side in one block

module _ (setting : ℕ → Setting) (left top b : ℕ) (s : Plane) (before after : List ℕ) (bit : b < 2)
    (long : length s.samples ≡ s.width * s.height) (columns : left + 8 ≤ s.width) (rows : top + 8 ≤ s.height)
    (loaded : (x y : ℕ) → x < 8 → y < 8 → slice_index before (8 * y + x) ≡ sample s (left + x) (top + y)) (u v : List ℕ) (others : IsNearSet 32 u v)
    (lines : (p3 p2 q2 q3 b i : ℕ) → b < 2 → i < 8 → filtered (setting i) (line_near p3 p2 q2 q3 u 32 (8 * b + i)) ≡ line_near p3 p2 q2 q3 v 32 (8 * b + i)) where
  down : (i : ℕ) → i < 8 → filtered (setting i) (line_down (slice_index u) (8 * b + i)) ≡ line_down (slice_index v) (8 * b + i)
  down i low = down_near (setting i) (8 * b + i) u v (omega arith) others (λ p3 p2 q2 q3. lines p3 p2 q2 q3 b i bit low)

  pub vertical_part : (t w : List ℕ) → ((k : ℕ) → k < 64 → slice_index t (64 * b + k) ≡ slice_index before k) → IsTransposed 8 t u → IsTransposed 8 w v →
      ((k : ℕ) → k < 64 → slice_index after k ≡ slice_index w (64 * b + k)) →
      with_block s left top 8 8 (λ x y. slice_index after (8 * y + x)) ≡ edge_filtered setting true (left + 4) top 8 s
  vertical_part t w joined from to parted = sym
      (edge_as_block true setting left top 8 s long (λ x y. slice_index after (8 * y + x)) columns rows
      (λ i low.
      ap (filtered (setting i))
      (same_samples (λ k. sample s (left + k) (top + i)) (λ k. slice_index t (8 * (8 * b + i) + k))
      (λ k less. sym (loaded k i less low) ∙ sym (joined (8 * i + k) (omega arith)) ∙ ap (slice_index t) (omega arith)))
      ∙ filtered_across (setting i) (8 * b + i) t u v w (omega arith) from to (down i low)
      ∙ same_samples (λ k. slice_index w (8 * (8 * b + i) + k)) (λ k. slice_index after (8 * i + k))
      (λ k less. ap (slice_index w) (omega arith) ∙ sym (parted (8 * i + k) (omega arith)))))

  -- of the rows only the two beside the edge change
  pub horizontal_part : ((i : ℕ) → i < 8 → (setting i).is_luma ≡ false) → ((r c : ℕ) → r < 8 → c < 8 → slice_index u (16 * r + (8 * b + c)) ≡ slice_index before (8 * r + c)) →
      ((r c : ℕ) → r < 2 → c < 8 → slice_index after (8 * r + c) ≡ slice_index v (16 * (3 + r) + (8 * b + c))) →
      with_block s left (top + 3) 8 2 (λ x y. slice_index after (8 * y + x)) ≡ edge_filtered setting false left (top + 4) 8 s
  horizontal_part chroma joined parted =
      let all : (i : ℕ) → i < 8 → filtered (setting i) (line_of (λ k. sample s (left + i) (top + k))) ≡ line_of (λ k. slice_index v (16 * k + (8 * b + i))) =
      λ i low.
      ap (filtered (setting i))
      (same_samples (λ k. sample s (left + i) (top + k)) (λ k. slice_index u (16 * k + (8 * b + i))) (λ k less. sym (loaded i k low less) ∙ sym (joined k i less low)))
      ∙ down i low in
      within_block s left top 8 8 0 3 8 2 left (top + 3) (λ x y. slice_index v (16 * y + (8 * b + x))) (λ x y. slice_index after (8 * y + x)) (omega arith) refl (omega arith) (omega arith)
      (λ x y x_low y_low. parted y x y_low x_low ∙ ap (slice_index v) (omega arith))
      (λ x y x_low y_low out.
      kept_by (setting x) (λ k. sample s (left + x) (top + k)) (λ k. slice_index v (16 * k + (8 * b + x))) 1 (chroma_reach (setting x) (chroma x x_low)) (all x x_low) y y_low (λ p q. out (omega arith) (omega arith) p (omega arith)))
      ∙ sym (edge_as_block false setting left top 8 s long (λ x y. slice_index v (16 * y + (8 * b + x))) columns rows all)

-- ---- lines of rows that are written from the left

pub line_before : (p3 q3 : ℕ) (p2 o1 o0 r0 r1 q2 : List ℕ) (n1 n0 m0 m1 i k : ℕ) → k < i →
    line_within p3 q3 p2 o1 o0 r0 r1 q2 k ≡ line_within p3 q3 p2 (slice_set o1 i n1) (slice_set o0 i n0) (slice_set r0 i m0) (slice_set r1 i m1) q2 k
line_before p3 q3 p2 o1 o0 r0 r1 q2 n1 n0 m0 m1 i k h = let ne : k ≢ i = omega arith in rw (get_or-set_other, get_or-set_other, get_or-set_other, get_or-set_other)

pub line_here : (p3 q3 : ℕ) (p2 o1 o0 r0 r1 q2 : List ℕ) (n1 n0 m0 m1 i : ℕ) → i < length o1 → i < length o0 → i < length r0 → i < length r1 →
    line p3 (slice_index p2 i) n1 n0 m0 m1 (slice_index q2 i) q3 ≡ line_within p3 q3 p2 (slice_set o1 i n1) (slice_set o0 i n0) (slice_set r0 i m0) (slice_set r1 i m1) q2 i
line_here p3 q3 p2 o1 o0 r0 r1 q2 n1 n0 m0 m1 i h1 h0 g0 g1 = rw (get_or-set_same, get_or-set_same, get_or-set_same, get_or-set_same)

pub wide_before : (p3 o2 o1 o0 r0 r1 r2 q3 : List ℕ) (n2 n1 n0 m0 m1 m2 i k : ℕ) → k < i →
    line_of_rows p3 o2 o1 o0 r0 r1 r2 q3 k ≡ line_of_rows p3 (slice_set o2 i n2) (slice_set o1 i n1) (slice_set o0 i n0) (slice_set r0 i m0) (slice_set r1 i m1) (slice_set r2 i m2) q3 k
wide_before p3 o2 o1 o0 r0 r1 r2 q3 n2 n1 n0 m0 m1 m2 i k h = grind (arith, get_or-set_other)

pub wide_here : (p3 o2 o1 o0 r0 r1 r2 q3 : List ℕ) (n2 n1 n0 m0 m1 m2 i : ℕ) →
    i < length o2 → i < length o1 → i < length o0 → i < length r0 → i < length r1 → i < length r2 →
    line (slice_index p3 i) n2 n1 n0 m0 m1 m2 (slice_index q3 i)
    ≡ line_of_rows p3 (slice_set o2 i n2) (slice_set o1 i n1) (slice_set o0 i n0) (slice_set r0 i m0) (slice_set r1 i m1) (slice_set r2 i m2) q3 i
wide_here p3 o2 o1 o0 r0 r1 r2 q3 n2 n1 n0 m0 m1 m2 i h2 h1 h0 g0 g1 g2 =
    rw (get_or-set_same, get_or-set_same, get_or-set_same, get_or-set_same, get_or-set_same, get_or-set_same)

pub inner_before : (p3 p2 q2 q3 : ℕ) (p1 o0 r0 q1 : List ℕ) (n0 m0 i k : ℕ) → k < i →
    line_inside p3 p2 q2 q3 p1 o0 r0 q1 k ≡ line_inside p3 p2 q2 q3 p1 (slice_set o0 i n0) (slice_set r0 i m0) q1 k
inner_before p3 p2 q2 q3 p1 o0 r0 q1 n0 m0 i k h = let ne : k ≢ i = omega arith in rw (get_or-set_other, get_or-set_other)

pub inner_here : (p3 p2 q2 q3 : ℕ) (p1 o0 r0 q1 : List ℕ) (n0 m0 i : ℕ) → i < length o0 → i < length r0 →
    line p3 p2 (slice_index p1 i) n0 m0 (slice_index q1 i) q2 q3 ≡ line_inside p3 p2 q2 q3 p1 (slice_set o0 i n0) (slice_set r0 i m0) q1 i
inner_here p3 p2 q2 q3 p1 o0 r0 q1 n0 m0 i h0 g0 = rw (get_or-set_same, get_or-set_same)

-- ---- edges whose lines have equal settings, and edges of strength 0: equal settings

lines_same : (f g : ℕ → Setting) (v : Bool) (x y a m : ℕ) (s : Plane) → ((i : ℕ) → i < a + m → f i ≡ g i) → lines_filtered f v x y (range_with_len a m) s ≡ lines_filtered g v x y (range_with_len a m) s
lines_same f g v x y a zero s same = search rules
lines_same f g v x y a (suc m) s same = search (
  arith,
  λ (s : Plane) (x y : ℕ). lines_same f g v x y (a + 1) m s (λ i low. same i (omega arith)),
  same a (omega arith),
)

pub edge_same : (f g : ℕ → Setting) (v : Bool) (x y n : ℕ) (s : Plane) → ((i : ℕ) → i < n → f i ≡ g i) → edge_filtered f v x y n s ≡ edge_filtered g v x y n s
unfolding edge_filtered
edge_same f g v x y n s same = lines_same f g v x y 0 n s (λ i low. same i (omega arith))

-- ---- strength 0

filtered_none : (s : Setting) (l : Line) → s.strength ≡ 0 → filtered s l ≡ l
filtered_none s l e = grind arith

still_line : (setting : Setting) (v : Bool) (x y : ℕ) (s : Plane) → ((l : Line) → filtered setting l ≡ l) → line_filtered setting v x y s ≡ s
still_line setting true x y s none = ap (with_line s true x y) (none (line_at s true x y)) ∙ simp set-get_or
still_line setting false x y s none = ap (with_line s false x y) (none (line_at s false x y)) ∙ simp set-get_or

lines_kept : (f : ℕ → Setting) (v : Bool) (x y a m : ℕ) (s : Plane) → ((i : ℕ) → i < a + m → (l : Line) → filtered (f i) l ≡ l) → lines_filtered f v x y (range_with_len a m) s ≡ s
lines_kept f true x y a zero s none = refl
lines_kept f false x y a zero s none = refl
lines_kept f true x y a (suc m) s none =
    ap (lines_filtered f true x y (range_with_len (a + 1) m)) (still_line (f a) true x (y + a) s (none a (omega arith))) ∙ lines_kept f true x y (a + 1) m s (λ i low. none i (omega arith))
lines_kept f false x y a (suc m) s none =
    ap (lines_filtered f false x y (range_with_len (a + 1) m)) (still_line (f a) false (x + a) y s (none a (omega arith))) ∙ lines_kept f false x y (a + 1) m s (λ i low. none i (omega arith))

edge_kept : (f : ℕ → Setting) (v : Bool) (x y n : ℕ) (s : Plane) → ((i : ℕ) → i < n → (l : Line) → filtered (f i) l ≡ l) → edge_filtered f v x y n s ≡ s
unfolding edge_filtered
edge_kept f v x y n s none = lines_kept f v x y 0 n s (λ i low. none i (omega arith))

pub edge_none : (f : ℕ → Setting) (v : Bool) (x y n : ℕ) (s : Plane) → ((i : ℕ) → i < n → (f i).strength ≡ 0) → edge_filtered f v x y n s ≡ s
edge_none f v x y n s none = edge_kept f v x y n s (λ i less l. filtered_none (f i) l (none i less))

-- ---- alpha or beta 0

pub edge_off : (f : ℕ → Setting) (v : Bool) (x y n : ℕ) (s : Plane) → ((i : ℕ) → i < n → ((f i).alpha == 0 || (f i).beta == 0) ≡ true) → edge_filtered f v x y n s ≡ s
edge_off f v x y n s off = edge_kept f v x y n s (λ i less l. filtered_off (f i) l (off i less))

-- ---- worked values of the line filter

abbrev one_row : List ℕ → Plane
one_row samples = record { width = 12; height = 1; samples = samples }

-- a step from 100 to 160 at QP 51, at strength 4 and then four samples to the right at strength 3: the second line reads what the first left
pub two_lines :
    line_filtered (setting_of true 3 51 51 (pos 0) (pos 0)) true 8 0
    (line_filtered (setting_of true 4 51 51 (pos 0) (pos 0)) true 4 0
    (one_row (100 ∷ 100 ∷ 100 ∷ 100 ∷ 160 ∷ 160 ∷ 160 ∷ 160 ∷ 160 ∷ 160 ∷ 160 ∷ 160 ∷ [])))
    ≡ one_row (100 ∷ 108 ∷ 115 ∷ 123 ∷ 138 ∷ 145 ∷ 152 ∷ 159 ∷ 161 ∷ 160 ∷ 160 ∷ 160 ∷ [])
two_lines = refl

abbrev line_row : (p0 p1 p2 p3 q0 q1 q2 q3 : ℕ) → Line
line_row p0 p1 p2 p3 q0 q1 q2 q3 = record { p0 = p0; p1 = p1; p2 = p2; p3 = p3; q0 = q0; q1 = q1; q2 = q2; q3 = q3 }

-- a setting, a line, and the line that it becomes
pub record Worked : Type 0 where
  pub setting : Setting
  pub before : Line
  pub after : Line

abbrev worked : Setting → Line → Line → Worked
worked setting before after = record { setting = setting; before = before; after = after }

-- lines of all strengths, luma and chroma, beside the values of a filter written as one loop
abbrev lines : List Worked
lines =
    worked (setting_of true 1 39 50 (pos 4) (negsuc 3)) (line_row 177 186 182 182 179 177 172 179) (line_row 179 180 182 182 177 175 172 179) ∷
    worked (setting_of true 1 47 44 (pos 4) (negsuc 3)) (line_row 123 115 117 116 113 107 107 106) (line_row 119 117 117 116 117 112 107 106) ∷
    worked (setting_of true 1 40 32 (negsuc 5) (pos 6)) (line_row 197 199 191 196 188 189 189 188) (line_row 194 198 191 196 191 190 189 188) ∷
    worked (setting_of true 2 28 31 (pos 0) (pos 6)) (line_row 199 201 204 202 197 201 195 194) (line_row 198 201 204 202 198 200 195 194) ∷
    worked (setting_of true 2 32 37 (pos 0) (negsuc 3)) (line_row 191 191 183 186 198 198 195 196) (line_row 194 191 183 186 195 195 195 196) ∷
    worked (setting_of true 2 28 38 (pos 0) (pos 6)) (line_row 32 34 35 38 26 19 18 22) (line_row 31 32 35 38 27 21 18 22) ∷
    worked (setting_of true 3 46 33 (negsuc 5) (negsuc 3)) (line_row 210 211 204 211 210 210 217 215) (line_row 210 207 204 211 210 213 217 215) ∷
    worked (setting_of true 3 38 41 (pos 0) (pos 6)) (line_row 169 175 169 172 179 176 175 175) (line_row 174 171 169 172 174 174 175 175) ∷
    worked (setting_of true 3 49 24 (pos 0) (pos 6)) (line_row 28 31 31 27 50 47 41 46) (line_row 35 35 31 27 43 42 41 46) ∷
    worked (setting_of true 4 26 44 (negsuc 5) (pos 0)) (line_row 28 24 24 27 23 32 24 24) (line_row 26 25 25 27 27 27 25 24) ∷
    worked (setting_of true 4 40 48 (pos 4) (negsuc 3)) (line_row 126 127 130 128 137 137 138 131) (line_row 131 130 130 128 133 135 135 131) ∷
    worked (setting_of true 4 39 32 (negsuc 5) (pos 0)) (line_row 95 101 94 97 100 106 108 109) (line_row 99 98 97 97 101 102 105 109) ∷
    worked (setting_of false 1 39 31 (pos 0) (pos 0)) (line_row 102 101 95 100 84 87 92 89) (line_row 99 101 95 100 87 87 92 89) ∷
    worked (setting_of false 1 30 50 (pos 0) (pos 0)) (line_row 142 143 146 144 140 146 146 143) (line_row 141 143 146 144 141 146 146 143) ∷
    worked (setting_of false 1 32 51 (pos 4) (negsuc 3)) (line_row 182 185 180 184 184 182 178 177) (line_row 183 185 180 184 183 182 178 177) ∷
    worked (setting_of false 2 28 36 (pos 0) (negsuc 3)) (line_row 192 197 193 192 206 205 196 206) (line_row 195 197 193 192 203 205 196 206) ∷
    worked (setting_of false 2 44 41 (pos 4) (pos 6)) (line_row 25 24 23 21 41 32 38 32) (line_row 32 24 23 21 34 32 38 32) ∷
    worked (setting_of false 2 48 39 (pos 4) (pos 6)) (line_row 222 231 224 224 225 222 220 218) (line_row 225 231 224 224 222 222 220 218) ∷
    worked (setting_of false 3 36 51 (pos 4) (negsuc 3)) (line_row 27 28 29 32 23 23 24 17) (line_row 26 28 29 32 24 23 24 17) ∷
    worked (setting_of false 3 41 42 (pos 4) (pos 6)) (line_row 43 39 44 44 39 46 36 42) (line_row 40 39 44 44 42 46 36 42) ∷
    worked (setting_of false 3 30 31 (pos 0) (negsuc 3)) (line_row 223 225 223 228 233 231 240 231) (line_row 227 225 223 228 229 231 240 231) ∷
    worked (setting_of false 4 34 41 (pos 0) (pos 0)) (line_row 99 98 94 99 105 98 97 104) (line_row 98 98 94 99 100 98 97 104) ∷
    worked (setting_of false 4 49 28 (pos 0) (negsuc 3)) (line_row 142 140 145 139 127 133 130 135) (line_row 139 140 145 139 133 133 130 135) ∷
    worked (setting_of false 4 40 41 (pos 0) (pos 6)) (line_row 155 157 154 154 170 162 164 168) (line_row 158 157 154 154 163 162 164 168) ∷
    []

pub lines_filtered_row : map (λ (w : Worked). filtered w.setting w.before) lines ≡ map (λ (w : Worked). w.after) lines
lines_filtered_row = refl

pub alphas_row : map alpha_of (range_with_len 0 52) ≡ 0 ∷ 0 ∷ 0 ∷ 0 ∷ 0 ∷ 0 ∷ 0 ∷ 0 ∷ 0 ∷ 0 ∷ 0 ∷ 0 ∷ 0 ∷ 0 ∷ 0 ∷ 0 ∷ 4 ∷ 4 ∷ 5 ∷ 6 ∷ 7 ∷ 8 ∷ 9 ∷ 10 ∷ 12 ∷ 13 ∷ 15 ∷ 17 ∷ 20 ∷ 22 ∷ 25 ∷ 28 ∷ 32 ∷ 36 ∷ 40 ∷ 45 ∷ 50 ∷ 56 ∷ 63 ∷ 71 ∷ 80 ∷ 90 ∷ 101 ∷ 113 ∷ 127 ∷ 144 ∷ 162 ∷ 182 ∷ 203 ∷ 226 ∷ 255 ∷ 255 ∷ []
alphas_row = refl

pub betas_row : map beta_of (range_with_len 0 52) ≡ 0 ∷ 0 ∷ 0 ∷ 0 ∷ 0 ∷ 0 ∷ 0 ∷ 0 ∷ 0 ∷ 0 ∷ 0 ∷ 0 ∷ 0 ∷ 0 ∷ 0 ∷ 0 ∷ 2 ∷ 2 ∷ 2 ∷ 3 ∷ 3 ∷ 3 ∷ 3 ∷ 4 ∷ 4 ∷ 4 ∷ 6 ∷ 6 ∷ 7 ∷ 7 ∷ 8 ∷ 8 ∷ 9 ∷ 9 ∷ 10 ∷ 10 ∷ 11 ∷ 11 ∷ 12 ∷ 12 ∷ 13 ∷ 13 ∷ 14 ∷ 14 ∷ 15 ∷ 15 ∷ 16 ∷ 16 ∷ 17 ∷ 17 ∷ 18 ∷ 18 ∷ []
betas_row = refl

pub tc0_1 : map (tc0_of 1) (range_with_len 0 52) ≡ 0 ∷ 0 ∷ 0 ∷ 0 ∷ 0 ∷ 0 ∷ 0 ∷ 0 ∷ 0 ∷ 0 ∷ 0 ∷ 0 ∷ 0 ∷ 0 ∷ 0 ∷ 0 ∷ 0 ∷ 0 ∷ 0 ∷ 0 ∷ 0 ∷ 0 ∷ 0 ∷ 1 ∷ 1 ∷ 1 ∷ 1 ∷ 1 ∷ 1 ∷ 1 ∷ 1 ∷ 1 ∷ 1 ∷ 2 ∷ 2 ∷ 2 ∷ 2 ∷ 3 ∷ 3 ∷ 3 ∷ 4 ∷ 4 ∷ 4 ∷ 5 ∷ 6 ∷ 6 ∷ 7 ∷ 8 ∷ 9 ∷ 10 ∷ 11 ∷ 13 ∷ []
tc0_1 = refl

pub tc0_2 : map (tc0_of 2) (range_with_len 0 52) ≡ 0 ∷ 0 ∷ 0 ∷ 0 ∷ 0 ∷ 0 ∷ 0 ∷ 0 ∷ 0 ∷ 0 ∷ 0 ∷ 0 ∷ 0 ∷ 0 ∷ 0 ∷ 0 ∷ 0 ∷ 0 ∷ 0 ∷ 0 ∷ 0 ∷ 1 ∷ 1 ∷ 1 ∷ 1 ∷ 1 ∷ 1 ∷ 1 ∷ 1 ∷ 1 ∷ 1 ∷ 2 ∷ 2 ∷ 2 ∷ 2 ∷ 3 ∷ 3 ∷ 3 ∷ 4 ∷ 4 ∷ 5 ∷ 5 ∷ 6 ∷ 7 ∷ 8 ∷ 8 ∷ 10 ∷ 11 ∷ 12 ∷ 13 ∷ 15 ∷ 17 ∷ []
tc0_2 = refl

pub tc0_3 : map (tc0_of 3) (range_with_len 0 52) ≡ 0 ∷ 0 ∷ 0 ∷ 0 ∷ 0 ∷ 0 ∷ 0 ∷ 0 ∷ 0 ∷ 0 ∷ 0 ∷ 0 ∷ 0 ∷ 0 ∷ 0 ∷ 0 ∷ 0 ∷ 1 ∷ 1 ∷ 1 ∷ 1 ∷ 1 ∷ 1 ∷ 1 ∷ 1 ∷ 1 ∷ 1 ∷ 2 ∷ 2 ∷ 2 ∷ 2 ∷ 3 ∷ 3 ∷ 3 ∷ 4 ∷ 4 ∷ 4 ∷ 5 ∷ 6 ∷ 6 ∷ 7 ∷ 8 ∷ 9 ∷ 10 ∷ 11 ∷ 13 ∷ 14 ∷ 16 ∷ 18 ∷ 20 ∷ 23 ∷ 25 ∷ []
tc0_3 = refl
