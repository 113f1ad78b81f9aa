-- One line across an edge: its limits, its samples, and lines that lie in words and in blocks.
pub mod Common
unfoldable pub use Common.*

-- ---- a const generic of type bool is the number 0 or 1

pub set_flag : (n : ℕ) → (n ≡ 0 → ⊥) → not (n == 0) ≡ true
set_flag n some = grind (arith, nat_tests)

pub clear_flag : (n : ℕ) → n ≡ 0 → not (n == 0) ≡ false
clear_flag n none = grind (arith, nat_tests)

-- ---- what holds of each of four

pub each_of_four : (P : ℕ → Type 0) → P 0 → P 1 → P 2 → P 3 → (k : ℕ) → k < 4 → P k
each_of_four P a b c d zero h = a
each_of_four P a b c d (suc zero) h = b
each_of_four P a b c d (suc (suc zero)) h = c
each_of_four P a b c d (suc (suc (suc zero))) h = d
each_of_four P a b c d (suc (suc (suc (suc x)))) h = absurd (omega arith)

-- ---- the eight samples of a line, and what a line filter leaves of them

pub same_line : (a b c d e f g h a' b' c' d' e' f' g' h' : ℕ) → a ≡ a' → b ≡ b' → c ≡ c' → d ≡ d' → e ≡ e' → f ≡ f' → g ≡ g' → h ≡ h' →
    line a b c d e f g h ≡ line a' b' c' d' e' f' g' h'
same_line a b c d e f g h a' b' c' d' e' f' g' h' pa pb pc pd pe pf pg ph = rw (pa, pb, pc, pd, pe, pf, pg, ph) refl

pub same_samples : (f g : ℕ → ℕ) → ((k : ℕ) → k < 8 → f k ≡ g k) → line_of f ≡ line_of g
same_samples f g same = grind (arith, nat_tests, same_line)

pub each_of_eight : (P : ℕ → Type 0) → P 0 → P 1 → P 2 → P 3 → P 4 → P 5 → P 6 → P 7 → (k : ℕ) → k < 8 → P k
each_of_eight P a b c d e f g h zero low = a
each_of_eight P a b c d e f g h (suc zero) low = b
each_of_eight P a b c d e f g h (suc (suc zero)) low = c
each_of_eight P a b c d e f g h (suc (suc (suc zero))) low = d
each_of_eight P a b c d e f g h (suc (suc (suc (suc k)))) low = each_of_four (λ k. P (suc (suc (suc (suc k))))) e f g h k (omega arith)

-- sample k of a line, from p3 to q3
abbrev pub sample_of : Line → ℕ → ℕ
sample_of l k = slice_index (l.p3 ∷ l.p2 ∷ l.p1 ∷ l.p0 ∷ l.q0 ∷ l.q1 ∷ l.q2 ∷ l.q3 ∷ []) k

pub sample_is : (f : ℕ → ℕ) (k : ℕ) → k < 8 → sample_of (line_of f) k ≡ f k
sample_is f = each_of_eight (λ k. sample_of (line_of f) k ≡ f k) refl refl refl refl refl refl refl refl

-- ---- samples that stay

either : (F : Line → ℕ) (a b : Bool) (f g l : Line) → (b ≡ true → F f ≡ F l) → F g ≡ F l → F (if a then (if b then f else g) else l) ≡ F l
either F a b f g l strong weak = grind (arith, nat_tests)

module _ (s : Setting) (l : Line) where
  stays : (F : Line → ℕ) → (s.strength == 4 ≡ true → F (filtered_strongly s l) ≡ F l) → F (filtered_weakly s l) ≡ F l → F (filtered s l) ≡ F l
  stays F = either F (is_filtered s l) (s.strength == 4) (filtered_strongly s l) (filtered_weakly s l) l

  p3_kept : (filtered s l).p3 ≡ l.p3
  p3_kept = stays (λ m. m.p3) (λ e. refl) refl

  q3_kept : (filtered s l).q3 ≡ l.q3
  q3_kept = stays (λ m. m.q3) (λ e. refl) refl

  ends_kept : (k : ℕ) → k < 8 → (1 ≤ k → k < 7 → ⊥) → sample_of (filtered s l) k ≡ sample_of l k
  ends_kept =
      each_of_eight (λ k. (1 ≤ k → k < 7 → ⊥) → sample_of (filtered s l) k ≡ sample_of l k)
      (λ out. p3_kept) (λ out. absurd (out (omega arith) (omega arith))) (λ out. absurd (out (omega arith) (omega arith)))
      (λ out. absurd (out (omega arith) (omega arith))) (λ out. absurd (out (omega arith) (omega arith)))
      (λ out. absurd (out (omega arith) (omega arith))) (λ out. absurd (out (omega arith) (omega arith))) (λ out. q3_kept)

  -- below strength 4 only p1 to q1 change
  weak_kept : s.strength < 4 → (k : ℕ) → k < 8 → (2 ≤ k → k < 6 → ⊥) → sample_of (filtered s l) k ≡ sample_of l k
  weak_kept low =
      let not_four : s.strength == 4 ≡ true → ⊥ = λ e. grind (arith, nat_tests) in
      each_of_eight (λ k. (2 ≤ k → k < 6 → ⊥) → sample_of (filtered s l) k ≡ sample_of l k)
      (λ out. p3_kept) (λ out. stays (λ m. m.p2) (λ e. absurd (not_four e)) refl)
      (λ out. absurd (out (omega arith) (omega arith))) (λ out. absurd (out (omega arith) (omega arith)))
      (λ out. absurd (out (omega arith) (omega arith))) (λ out. absurd (out (omega arith) (omega arith)))
      (λ out. stays (λ m. m.q2) (λ e. absurd (not_four e)) refl) (λ out. q3_kept)

  -- of chroma only p0 and q0 change
  chroma_kept : s.is_luma ≡ false → (k : ℕ) → k < 8 → (3 ≤ k → k < 5 → ⊥) → sample_of (filtered s l) k ≡ sample_of l k
  chroma_kept chroma =
      let strong : (b c : Bool) (x y : ℕ) → (if s.is_luma && b && c then x else y) ≡ y = λ b c x y. ap (λ z. if z && b && c then x else y) chroma in
      let weak : (b : Bool) (x y : ℕ) → (if s.is_luma && b then x else y) ≡ y = λ b x y. ap (λ z. if z && b then x else y) chroma in
      each_of_eight (λ k. (3 ≤ k → k < 5 → ⊥) → sample_of (filtered s l) k ≡ sample_of l k)
      (λ out. p3_kept) (λ out. stays (λ m. m.p2) (λ e. strong _ _ _ l.p2) refl) (λ out. stays (λ m. m.p1) (λ e. strong _ _ _ l.p1) (weak _ _ l.p1))
      (λ out. absurd (out (omega arith) (omega arith))) (λ out. absurd (out (omega arith) (omega arith)))
      (λ out. stays (λ m. m.q1) (λ e. strong _ _ _ l.q1) (weak _ _ l.q1)) (λ out. stays (λ m. m.q2) (λ e. strong _ _ _ l.q2) refl) (λ out. q3_kept)

-- no more than `reach` samples change on each side of the edge
abbrev pub HasReach : Setting → ℕ → Type 0
HasReach s reach = (l : Line) (k : ℕ) → k < 8 → (4 - reach ≤ k → k < 4 + reach → ⊥) → sample_of (filtered s l) k ≡ sample_of l k

pub luma_reach : (s : Setting) → HasReach s 3
luma_reach s l = ends_kept s l

pub weak_reach : (s : Setting) → s.strength < 4 → HasReach s 2
weak_reach s low l = weak_kept s l low

pub chroma_reach : (s : Setting) → s.is_luma ≡ false → HasReach s 1
chroma_reach s chroma l = chroma_kept s l chroma

pub kept_by : (s : Setting) (f g : ℕ → ℕ) (reach : ℕ) → HasReach s reach → filtered s (line_of f) ≡ line_of g → (k : ℕ) → k < 8 → (4 - reach ≤ k → k < 4 + reach → ⊥) → g k ≡ f k
kept_by s f g reach has e k low out = sym (sample_is g k low) ∙ ap (λ (l : Line). sample_of l k) (sym e) ∙ has (line_of f) k low out ∙ sample_is f k low

-- ---- alpha or beta 0

pub filtered_off : (s : Setting) (l : Line) → (s.alpha == 0 || s.beta == 0) ≡ true → filtered s l ≡ l
filtered_off s l off = grind (arith, nat_tests)

-- ---- the lines of a block of eight rows of sixteen samples, from the rows that are put into it

-- a transposed block has the same lines
pub across : (t u : List ℕ) (i : ℕ) → IsTransposed 8 t u → i < 16 → line_across t i ≡ line_down (slice_index u) i
across t u i h low = same_samples (λ k. slice_index t (8 * i + k)) (λ k. slice_index u (16 * k + i)) (λ k less. sym (h i k low less))

-- a line that is filtered in the transposed block
pub filtered_across : (s : Setting) (i : ℕ) (old t u new : List ℕ) → i < 16 → IsTransposed 8 old t → IsTransposed 8 new u →
    filtered s (line_down (slice_index t) i) ≡ line_down (slice_index u) i → filtered s (line_across old i) ≡ line_across new i
filtered_across s i old t u new low from to is = ap (filtered s) (across old t i from low) ∙ is ∙ sym (across new u i to low)

-- the sample of column i in row c
abbrev at_column : List ℕ → (c i : ℕ) → ℕ
at_column u c i = slice_index u (16 * c + i)

-- a row as the column of a table
abbrev IsColumn : (c : ℕ) → (u r : List ℕ) → Type 0
IsColumn c u r = (k : ℕ) → k < 16 → slice_index r k ≡ slice_index u (16 * c + k)

-- a sample after a row was put into the block
put : (row c i : ℕ) {r t u : List ℕ} {v : ℕ} → i < 16 → AreSet 16 (16 * row) r t u → at_column t c i ≡ v →
    at_column u c i ≡ (if c == row then slice_index r i else v)
put row c i {r} {t} {u} {v} low h old = grind (arith, nat_tests, cases_lt, cases_eq)

-- four rows anew between others that stay
pub weak_down : (s : Setting) (i : ℕ) (t p2 p1 p0 q0 q1 q2 n1 n0 m0 m1 a b c u : List ℕ) → i < 16 →
    IsColumn 1 t p2 → IsColumn 2 t p1 → IsColumn 3 t p0 → IsColumn 4 t q0 → IsColumn 5 t q1 → IsColumn 6 t q2 →
    AreSet 16 32 n1 t a → AreSet 16 48 n0 a b → AreSet 16 64 m0 b c → AreSet 16 80 m1 c u →
    ((p3 q3 : ℕ) → filtered s (line_within p3 q3 p2 p1 p0 q0 q1 q2 i) ≡ line_within p3 q3 p2 n1 n0 m0 m1 q2 i) →
    filtered s (line_down (slice_index t) i) ≡ line_down (slice_index u) i
weak_down s i t p2 p1 p0 q0 q1 q2 n1 n0 m0 m1 a b c u low k1 k2 k3 k4 k5 k6 h1 h2 h3 h4 is = grind (arith, nat_tests, put, same_line)

-- six rows anew between the two that stand furthest off
pub strong_down : (s : Setting) (i : ℕ) (t p3 p2 p1 p0 q0 q1 q2 q3 n2 n1 n0 m0 m1 m2 a b c d e u : List ℕ) → i < 16 →
    IsColumn 0 t p3 → IsColumn 1 t p2 → IsColumn 2 t p1 → IsColumn 3 t p0 → IsColumn 4 t q0 → IsColumn 5 t q1 → IsColumn 6 t q2 → IsColumn 7 t q3 →
    AreSet 16 16 n2 t a → AreSet 16 32 n1 a b → AreSet 16 48 n0 b c → AreSet 16 64 m0 c d → AreSet 16 80 m1 d e → AreSet 16 96 m2 e u →
    filtered s (line_of_rows p3 p2 p1 p0 q0 q1 q2 q3 i) ≡ line_of_rows p3 n2 n1 n0 m0 m1 m2 q3 i →
    filtered s (line_down (slice_index t) i) ≡ line_down (slice_index u) i
strong_down s i t p3 p2 p1 p0 q0 q1 q2 q3 n2 n1 n0 m0 m1 m2 a b c d e u low k0 k1 k2 k3 k4 k5 k6 k7 h1 h2 h3 h4 h5 h6 is =
    grind (arith, nat_tests, put, same_line)

-- two rows anew between two that stay
pub near_set : (from : ℕ) (n0 m0 t a u : List ℕ) → AreSet 16 (from + 16) n0 t a → AreSet 16 (from + 32) m0 a u → IsNearSet from t u
near_set from n0 m0 t a u h1 h2 = record {
  before = λ k low. h2.others.before k (omega arith) ∙ h1.others.before k (omega arith);
  behind = λ k low. h2.others.behind k (omega arith) ∙ h1.others.behind k (omega arith);
}

pub near_lines : (s : Setting) (from i : ℕ) (t p1 p0 q0 q1 n0 m0 a u : List ℕ) → i < 16 →
    ((k : ℕ) → k < 16 → slice_index p1 k ≡ slice_index t (from + k)) → ((k : ℕ) → k < 16 → slice_index p0 k ≡ slice_index t (from + 16 + k)) →
    ((k : ℕ) → k < 16 → slice_index q0 k ≡ slice_index t (from + 32 + k)) → ((k : ℕ) → k < 16 → slice_index q1 k ≡ slice_index t (from + 48 + k)) →
    AreSet 16 (from + 16) n0 t a → AreSet 16 (from + 32) m0 a u →
    (p3 p2 q2 q3 : ℕ) → filtered s (line_inside p3 p2 q2 q3 p1 p0 q0 q1 i) ≡ line_inside p3 p2 q2 q3 p1 n0 m0 q1 i →
    filtered s (line_near p3 p2 q2 q3 t from i) ≡ line_near p3 p2 q2 q3 u from i
near_lines s from i t p1 p0 q0 q1 n0 m0 a u low k1 k2 k3 k4 h1 h2 p3 p2 q2 q3 is = grind (arith, nat_tests, same_line)

-- the four in the middle of eight rows
pub down_near : (s : Setting) (i : ℕ) (t u : List ℕ) → i < 16 → IsNearSet 32 t u →
    ((p3 p2 q2 q3 : ℕ) → filtered s (line_near p3 p2 q2 q3 t 32 i) ≡ line_near p3 p2 q2 q3 u 32 i) → filtered s (line_down (slice_index t) i) ≡ line_down (slice_index u) i
down_near s i t u low h is = grind (arith, nat_tests, same_line)

-- ---- a line at a strength below 4 from its four new samples

held_at_none : (z : ℤ) → held 0 z ≡ pos 0
held_at_none (pos n) = grind (arith, ints, nat_tests)
held_at_none (negsuc n) = grind (arith, ints, nat_tests)

pub still : (p : ℕ) (z : ℤ) → p < 256 → clip1 (pos p +ℤ held 0 z) ≡ p
still p z h = rw (held_at_none z) (grind (arith, ints, nat_tests))

pub still_back : (p : ℕ) (z : ℤ) → p < 256 → clip1 (pos p -ℤ held 0 z) ≡ p
still_back p z h = rw (held_at_none z) (grind (arith, ints, nat_tests))

still_second : (p : ℕ) (z : ℤ) → nat_abs (pos p +ℤ held 0 z) ≡ p
still_second p z = rw (held_at_none z) (grind (arith, ints, nat_tests))

abbrev pub any_at : (f : Bool) (n a b t : ℕ) → Setting
any_at f n a b t = record { is_luma = f; strength = n; alpha = a; beta = b; tc0 = t }

-- the new samples, from whether the line is filtered
pub record IsWeaklyMoved (l : Line) (b t : ℕ) (on : Bool) (n1 n0 m0 m1 : ℕ) : Type 0 where
  pub p0_is : n0 ≡ clip1 (pos l.p0 +ℤ held (if on then t + (if nat_lt (distance l.p2 l.p0) b then 1 else 0) + (if nat_lt (distance l.q2 l.q0) b then 1 else 0) else 0) (slope l.p1 l.p0 l.q0 l.q1))
  pub q0_is : m0 ≡ clip1 (pos l.q0 -ℤ held (if on then t + (if nat_lt (distance l.p2 l.p0) b then 1 else 0) + (if nat_lt (distance l.q2 l.q0) b then 1 else 0) else 0) (slope l.p1 l.p0 l.q0 l.q1))
  pub p1_is : n1 ≡ nat_abs (pos l.p1 +ℤ held (if on && nat_lt (distance l.p2 l.p0) b then t else 0) (bend l.p2 l.p1 l.p0 l.q0))
  pub q1_is : m1 ≡ nat_abs (pos l.q1 +ℤ held (if on && nat_lt (distance l.q2 l.q0) b then t else 0) (bend l.q2 l.q1 l.q0 l.p0))

second_either : (f : Bool) (p t : ℕ) (z : ℤ) → nat_abs (pos p +ℤ held (if f then t else 0) z) ≡ (if f then nat_abs (pos p +ℤ held t z) else p)
second_either f p t z = grind (arith, still_second)

weakly_moved : (n a b t : ℕ) (l : Line) (on : Bool) (n1 n0 m0 m1 : ℕ) → l.p0 < 256 → l.q0 < 256 → IsWeaklyMoved l b t on n1 n0 m0 m1 →
    (if on then filtered_weakly (any_at true n a b t) l else l) ≡ line l.p3 l.p2 n1 n0 m0 m1 l.q2 l.q3
weakly_moved n a b t l true n1 n0 m0 m1 hp hq h = grind (arith, ints, nat_tests, second_either, nat_lt)
weakly_moved n a b t l false n1 n0 m0 m1 hp hq h = grind (arith, ints, nat_tests, still, still_back, still_second)

pub filtered_at : (f : Bool) (n a alpha b t : ℕ) (l : Line) → n < 4 → alpha ≡ (if n == 0 then 0 else a) →
    filtered (any_at f n a b t) l ≡ (if nat_lt (distance l.p0 l.q0) alpha && nat_lt (distance l.p1 l.p0) b && nat_lt (distance l.q1 l.q0) b then filtered_weakly (any_at f n a b t) l else l)
filtered_at f zero a alpha b t l h e = grind (arith, ints, nat_tests, nat_lt)
filtered_at f (suc n) a alpha b t l h e = grind (arith, ints, nat_tests)

-- the line filter of a setting below strength 4
pub weakly : (is_luma : Bool) (s : Setting) (alpha beta tc0 : ℕ) (l : Line) (on : Bool) → IsWeak is_luma s alpha beta tc0 →
    on ≡ (nat_lt (distance l.p0 l.q0) alpha && nat_lt (distance l.p1 l.p0) beta && nat_lt (distance l.q1 l.q0) beta) →
    filtered s l ≡ (if on then filtered_weakly (any_at is_luma s.strength s.alpha beta tc0) l else l)
weakly is_luma s alpha beta tc0 l on w is = grind (arith, nat_tests, filtered_at)

pub weak_is : (s : Setting) (alpha beta tc0 : ℕ) (l : Line) (on : Bool) (n1 n0 m0 m1 : ℕ) → l.p0 < 256 → l.q0 < 256 → IsWeak true s alpha beta tc0 →
    on ≡ (nat_lt (distance l.p0 l.q0) alpha && nat_lt (distance l.p1 l.p0) beta && nat_lt (distance l.q1 l.q0) beta) →
    IsWeaklyMoved l beta tc0 on n1 n0 m0 m1 → filtered s l ≡ line l.p3 l.p2 n1 n0 m0 m1 l.q2 l.q3
weak_is s alpha beta tc0 l on n1 n0 m0 m1 hp hq w is h =
    weakly true s alpha beta tc0 l on w is ∙ weakly_moved s.strength s.alpha beta tc0 l on n1 n0 m0 m1 hp hq h

pub second_is : (on up : Bool) (t limit r p : ℕ) (z : ℤ) → limit ≡ (if on && up then t else 0) → r ≡ nat_abs (pos p +ℤ held limit z) →
    r ≡ nat_abs (pos p +ℤ held (if on && up then t else 0) z)
second_is on up t limit r p z is h = rw (← is) h

-- ---- a line at strength 4 from its six new samples

-- the new samples, from whether the line is filtered
pub record IsStronglyMoved (s : Setting) (l : Line) (on : Bool) (n2 n1 n0 m0 m1 m2 : ℕ) : Type 0 where
  pub p0_is : n0 ≡ (if on then strong_p0 s l else l.p0)
  pub p1_is : n1 ≡ (if on then strong_p1 s l else l.p1)
  pub p2_is : n2 ≡ (if on then strong_p2 s l else l.p2)
  pub q0_is : m0 ≡ (if on then strong_p0 s (mirrored l) else l.q0)
  pub q1_is : m1 ≡ (if on then strong_p1 s (mirrored l) else l.q1)
  pub q2_is : m2 ≡ (if on then strong_p2 s (mirrored l) else l.q2)

strongly_moved : (s : Setting) (l : Line) (on : Bool) (n2 n1 n0 m0 m1 m2 : ℕ) → IsStronglyMoved s l on n2 n1 n0 m0 m1 m2 →
    (if on then filtered_strongly s l else l) ≡ line l.p3 n2 n1 n0 m0 m1 m2 l.q3
strongly_moved s l on n2 n1 n0 m0 m1 m2 h = grind arith

-- the line filter of a setting at strength 4
pub strongly : (is_luma : Bool) (s : Setting) (alpha beta : ℕ) (l : Line) (on : Bool) → IsStrong is_luma s alpha beta →
    on ≡ (nat_lt (distance l.p0 l.q0) alpha && nat_lt (distance l.p1 l.p0) beta && nat_lt (distance l.q1 l.q0) beta) →
    filtered s l ≡ (if on then filtered_strongly (any_at is_luma 4 alpha beta s.tc0) l else l)
strongly is_luma s alpha beta l on w is = grind (arith, any_at)

pub strong_is : (s : Setting) (alpha beta : ℕ) (l : Line) (on : Bool) (n2 n1 n0 m0 m1 m2 : ℕ) → IsStrong true s alpha beta →
    on ≡ (nat_lt (distance l.p0 l.q0) alpha && nat_lt (distance l.p1 l.p0) beta && nat_lt (distance l.q1 l.q0) beta) →
    IsStronglyMoved (any_at true 4 alpha beta s.tc0) l on n2 n1 n0 m0 m1 m2 → filtered s l ≡ line l.p3 n2 n1 n0 m0 m1 m2 l.q3
strong_is s alpha beta l on n2 n1 n0 m0 m1 m2 w is h =
    strongly true s alpha beta l on w is ∙ strongly_moved (any_at true 4 alpha beta s.tc0) l on n2 n1 n0 m0 m1 m2 h

-- the nearest sample, from what the code asks in another order
pub either_nearest : (on near up f : Bool) (x y v : ℕ) → f ≡ (on && near && up) →
    (if f then x else (if on then y else v)) ≡ (if on then (if up && near then x else y) else v)
either_nearest on near up f x y v e = grind (arith, nat_tests)

pub either_other : (on near up f : Bool) (x v : ℕ) → f ≡ (on && near && up) →
    (if f then x else v) ≡ (if on then (if up && near then x else v) else v)
either_other on near up f x v e = grind (arith, nat_tests)

pub turned : (a b : ℕ) → distance a b ≡ distance b a
turned a b = grind (arith, ints)

-- ---- a line of chroma from its two new samples

pub record IsChromaMoved (l : Line) (t : ℕ) (on : Bool) (n0 m0 : ℕ) : Type 0 where
  pub p0_is : n0 ≡ clip1 (pos l.p0 +ℤ held (if on then t + 1 else 0) (slope l.p1 l.p0 l.q0 l.q1))
  pub q0_is : m0 ≡ clip1 (pos l.q0 -ℤ held (if on then t + 1 else 0) (slope l.p1 l.p0 l.q0 l.q1))

chroma_moved : (n a b t : ℕ) (l : Line) (on : Bool) (n0 m0 : ℕ) → l.p0 < 256 → l.q0 < 256 → IsChromaMoved l t on n0 m0 →
    (if on then filtered_weakly (any_at false n a b t) l else l) ≡ line l.p3 l.p2 l.p1 n0 m0 l.q1 l.q2 l.q3
chroma_moved n a b t l true n0 m0 hp hq h = rw (h.p0_is, h.q0_is) refl
chroma_moved n a b t l false n0 m0 hp hq h =
    let e = h.p0_is ∙ still l.p0 (slope l.p1 l.p0 l.q0 l.q1) hp in
    let f = h.q0_is ∙ still_back l.q0 (slope l.p1 l.p0 l.q0 l.q1) hq in
    rw (e, f) refl

pub weak_chroma_is : (s : Setting) (alpha beta tc0 : ℕ) (l : Line) (on : Bool) (n0 m0 : ℕ) → l.p0 < 256 → l.q0 < 256 → IsWeak false s alpha beta tc0 →
    on ≡ (nat_lt (distance l.p0 l.q0) alpha && nat_lt (distance l.p1 l.p0) beta && nat_lt (distance l.q1 l.q0) beta) →
    IsChromaMoved l tc0 on n0 m0 → filtered s l ≡ line l.p3 l.p2 l.p1 n0 m0 l.q1 l.q2 l.q3
weak_chroma_is s alpha beta tc0 l on n0 m0 hp hq w is h =
    weakly false s alpha beta tc0 l on w is ∙ chroma_moved s.strength s.alpha beta tc0 l on n0 m0 hp hq h

-- ---- strength 4

strong_moved : (a b t : ℕ) (l : Line) (on : Bool) (n0 m0 : ℕ) → n0 ≡ (if on then (2 * l.p1 + l.p0 + l.q1 + 2) / 4 else l.p0) → m0 ≡ (if on then (2 * l.q1 + l.q0 + l.p1 + 2) / 4 else l.q0) →
    (if on then filtered_strongly (any_at false 4 a b t) l else l) ≡ line l.p3 l.p2 l.p1 n0 m0 l.q1 l.q2 l.q3
strong_moved a b t l on n0 m0 e f = grind arith

pub strong_chroma_is : (s : Setting) (alpha beta : ℕ) (l : Line) (on : Bool) (n0 m0 : ℕ) → IsStrong false s alpha beta →
    on ≡ (nat_lt (distance l.p0 l.q0) alpha && nat_lt (distance l.p1 l.p0) beta && nat_lt (distance l.q1 l.q0) beta) →
    n0 ≡ (if on then (2 * l.p1 + l.p0 + l.q1 + 2) / 4 else l.p0) → m0 ≡ (if on then (2 * l.q1 + l.q0 + l.p1 + 2) / 4 else l.q0) →
    filtered s l ≡ line l.p3 l.p2 l.p1 n0 m0 l.q1 l.q2 l.q3
strong_chroma_is s alpha beta l on n0 m0 w is e f = strongly false s alpha beta l on w is ∙ strong_moved alpha beta s.tc0 l on n0 m0 e f

-- ---- the numbers of a table are small

abbrev pub are_at_most : ℕ → List ℕ → Bool
are_at_most n [] = true
are_at_most n (x ∷ xs) = nat_le x n && are_at_most n xs

pub at_most : (n : ℕ) (xs : List ℕ) (k : ℕ) → are_at_most n xs ≡ true → slice_index xs k ≤ n
at_most n [] k e = omega arith
at_most n (x ∷ xs) zero e = leb-true x n (and_parts (nat_le x n) (are_at_most n xs) e).0
at_most n (x ∷ xs) (suc k) e = at_most n xs k (and_parts (nat_le x n) (are_at_most n xs) e).1

-- Equal lists of numbers, by computing.
abbrev pub are_same_below : ℕ → (ℕ → ℕ) → (ℕ → ℕ) → Bool
are_same_below zero f g = true
are_same_below (suc n) f g = (f n == g n) && are_same_below n f g

pub same_below : (n : ℕ) (f g : ℕ → ℕ) → are_same_below n f g ≡ true → (k : ℕ) → k < n → f k ≡ g k
same_below zero f g e k h = absurd (omega arith)
same_below (suc n) f g e k h =
    let both = and_parts (f n == g n) (are_same_below n f g) e in
    below_more (λ (k : ℕ). f k ≡ g k) n (same_below n f g both.1) (eqb-true (f n) (g n) both.0) k (omega arith)

abbrev alphas : List ℕ
alphas = 0 ∷ 0 ∷ 0 ∷ 0 ∷ 0 ∷ 0 ∷ 0 ∷ 0 ∷ 0 ∷ 0 ∷ 0 ∷ 0 ∷ 0 ∷ 0 ∷ 0 ∷ 0 ∷ 4 ∷ 4 ∷ 5 ∷ 6 ∷ 7 ∷ 8 ∷ 9 ∷ 10 ∷ 12 ∷ 13 ∷ 15 ∷ 17 ∷ 20 ∷ 22 ∷ 25 ∷ 28 ∷ 32 ∷ 36 ∷ 40 ∷ 45 ∷ 50 ∷ 56 ∷ 63 ∷ 71 ∷ 80 ∷ 90 ∷ 101 ∷ 113 ∷ 127 ∷ 144 ∷ 162 ∷ 182 ∷ 203 ∷ 226 ∷ 255 ∷ 255 ∷ []

abbrev betas : List ℕ
betas = 0 ∷ 0 ∷ 0 ∷ 0 ∷ 0 ∷ 0 ∷ 0 ∷ 0 ∷ 0 ∷ 0 ∷ 0 ∷ 0 ∷ 0 ∷ 0 ∷ 0 ∷ 0 ∷ 2 ∷ 2 ∷ 2 ∷ 3 ∷ 3 ∷ 3 ∷ 3 ∷ 4 ∷ 4 ∷ 4 ∷ 6 ∷ 6 ∷ 7 ∷ 7 ∷ 8 ∷ 8 ∷ 9 ∷ 9 ∷ 10 ∷ 10 ∷ 11 ∷ 11 ∷ 12 ∷ 12 ∷ 13 ∷ 13 ∷ 14 ∷ 14 ∷ 15 ∷ 15 ∷ 16 ∷ 16 ∷ 17 ∷ 17 ∷ 18 ∷ 18 ∷ []

abbrev tc1s : List ℕ
tc1s = 0 ∷ 1 ∷ 1 ∷ 1 ∷ 0 ∷ 1 ∷ 1 ∷ 1 ∷ 0 ∷ 1 ∷ 1 ∷ 1 ∷ 0 ∷ 1 ∷ 1 ∷ 1 ∷ 0 ∷ 1 ∷ 1 ∷ 1 ∷ 0 ∷ 1 ∷ 1 ∷ 1 ∷ 0 ∷ 1 ∷ 1 ∷ 1 ∷ 0 ∷ 1 ∷ 1 ∷ 1 ∷ 0 ∷ 1 ∷ 1 ∷ 1 ∷ 0 ∷ 1 ∷ 1 ∷ 1 ∷ 0 ∷ 1 ∷ 1 ∷ 1 ∷ 0 ∷ 1 ∷ 1 ∷ 1 ∷ 0 ∷ 1 ∷ 1 ∷ 1 ∷ 0 ∷ 1 ∷ 1 ∷ 1 ∷ 0 ∷ 1 ∷ 1 ∷ 1 ∷ 0 ∷ 1 ∷ 1 ∷ 1 ∷ 0 ∷ 1 ∷ 1 ∷ 1 ∷ 0 ∷ 1 ∷ 1 ∷ 2 ∷ 0 ∷ 1 ∷ 1 ∷ 2 ∷ 0 ∷ 1 ∷ 1 ∷ 2 ∷ 0 ∷ 1 ∷ 1 ∷ 2 ∷ 0 ∷ 1 ∷ 2 ∷ 2 ∷ 0 ∷ 1 ∷ 2 ∷ 2 ∷ 0 ∷ 2 ∷ 2 ∷ 2 ∷ 0 ∷ 2 ∷ 2 ∷ 2 ∷ 0 ∷ 2 ∷ 2 ∷ 2 ∷ 0 ∷ 2 ∷ 2 ∷ 2 ∷ 0 ∷ 2 ∷ 2 ∷ 3 ∷ 0 ∷ 2 ∷ 2 ∷ 3 ∷ 0 ∷ 2 ∷ 2 ∷ 3 ∷ 0 ∷ 2 ∷ 2 ∷ 3 ∷ 0 ∷ 2 ∷ 3 ∷ 4 ∷ 0 ∷ 2 ∷ 3 ∷ 4 ∷ 0 ∷ 3 ∷ 3 ∷ 4 ∷ 0 ∷ 3 ∷ 3 ∷ 5 ∷ 0 ∷ 3 ∷ 4 ∷ 5 ∷ 0 ∷ 3 ∷ 4 ∷ 5 ∷ 0 ∷ 4 ∷ 4 ∷ 6 ∷ 0 ∷ 4 ∷ 5 ∷ 7 ∷ 0 ∷ 4 ∷ 5 ∷ 7 ∷ 0 ∷ 5 ∷ 6 ∷ 8 ∷ 0 ∷ 5 ∷ 6 ∷ 9 ∷ 0 ∷ 5 ∷ 7 ∷ 10 ∷ 0 ∷ 6 ∷ 8 ∷ 11 ∷ 0 ∷ 7 ∷ 9 ∷ 12 ∷ 0 ∷ 7 ∷ 9 ∷ 14 ∷ 0 ∷ 8 ∷ 11 ∷ 15 ∷ 0 ∷ 9 ∷ 12 ∷ 17 ∷ 0 ∷ 10 ∷ 13 ∷ 19 ∷ 0 ∷ 11 ∷ 14 ∷ 21 ∷ 0 ∷ 12 ∷ 16 ∷ 24 ∷ 0 ∷ 14 ∷ 18 ∷ 26 ∷ 0 ∷ 0 ∷ 0 ∷ 0 ∷ 0 ∷ 0 ∷ 0 ∷ 0 ∷ 0 ∷ 0 ∷ 0 ∷ 0 ∷ []

pub alpha_at : (j i : ℕ) → j ≡ i → i < 52 → slice_index alphas j ≡ alpha_of i
alpha_at j i e h = ap (slice_index alphas) e ∙ same_below 52 (slice_index alphas) alpha_of refl i h

pub beta_at : (j i : ℕ) → j ≡ i → i < 52 → slice_index betas j ≡ beta_of i
beta_at j i e h = ap (slice_index betas) e ∙ same_below 52 (slice_index betas) beta_of refl i h

pub tc1_at : (k i s : ℕ) → k ≡ 4 * i + s → i < 52 → s < 4 → slice_index tc1s k ≡ tc1_of s i
tc1_at k i s e h g =
    let two : (4 * i + s) % 4 ≡ s = omega arith in
    let one : (4 * i + s) / 4 ≡ i = omega arith in
    ap (slice_index tc1s) e ∙ same_below 208 (slice_index tc1s) (λ (k : ℕ). tc1_of (k % 4) (k / 4)) refl (4 * i + s) (omega arith) ∙ ap (λ (t : ℕ). tc1_of t ((4 * i + s) / 4)) two ∙ ap (tc1_of s) one

pub tc1_small : (k : ℕ) → slice_index tc1s k ≤ 26
tc1_small k = at_most 26 tc1s k refl

pub no_tc0 : (n : ℕ) → n < 52 → tc0_of 0 n ≡ 0
no_tc0 n low = same_below 52 (tc0_of 0) (λ (k : ℕ). 0) refl n low

-- ---- the limits of an edge and the settings of its lines: rows of sixteen

some : (n : ℕ) → (suc n == 0) ≡ false
some n = grind (arith, nat_tests)

-- one more than tC0 says both tC0 and that the strength is not 0
alpha_by_tc1 : (st t d n a : ℕ) → t ≡ tc1_of st n → d ≡ 1 - t → (if d == 0 then a else 0) ≡ (if st == 0 then 0 else a)
alpha_by_tc1 zero t d n a e f = let one : d ≡ 1 = omega (arith, e) in rw one refl
alpha_by_tc1 (suc st) t d n a e f = grind (arith, nat_tests, some)

tc0_by_tc1 : (st t n : ℕ) → n < 52 → t ≡ tc1_of st n → t - 1 ≡ tc0_of st n
tc0_by_tc1 zero t n low e = let none : t - 1 ≡ 0 = omega (arith, e) in none ∙ sym (no_tc0 n low)
tc0_by_tc1 (suc st) t n low e = let more : t ≡ tc0_of (suc st) n + 1 = rw (some st) at e in omega arith

pub weak_row : (is_luma : Bool) (l : QpLimits) (s : Setting) (strength a b d c t : ℕ) → a ≡ l.alpha1 → b ≡ l.beta1 → d ≡ 1 - t → c ≡ t - 1 → l.index_a < 52 →
    t ≡ tc1_of strength l.index_a → FitsWeak is_luma l strength s → IsWeak is_luma s (if d == 0 then a + 1 else 0) (b + 1) c
weak_row is_luma l s strength a b d c t ea eb ed ec low e h =
    rw (alpha_by_tc1 strength t d l.index_a (a + 1) e ed, ec, tc0_by_tc1 strength t l.index_a low e, ea, eb) h

-- ---- from the QPs of an edge

module _ (l : QpLimits) (qp : EdgeQp) (are : AreLimits l qp) (on : l.is_on ≡ true) (is_luma : Bool) (st : Strengths) where
  pub fits_weak : (s : List ℕ) → st ≡ BelowFour s → ((k : ℕ) → k < 4 → slice_index s k < 4) → (k : ℕ) → k < 4 →
      FitsWeak is_luma l (slice_index s k) (setting_of is_luma (strength_along st k) qp.p qp.q qp.offset_a qp.offset_b)
  fits_weak s below low k less = rw below (record {
    component = refl;
    weak = low k less;
    alpha_is = ap (λ (a : ℕ). if slice_index s k == 0 then 0 else a) (are.alpha on);
    beta_is = are.beta on;
    tc0_is = ap (tc0_of (slice_index s k)) are.index;
  })

  pub fits_strong : st ≡ Four → (k : ℕ) → IsStrong is_luma (setting_of is_luma (strength_along st k) qp.p qp.q qp.offset_a qp.offset_b) (l.alpha1 + 1) (l.beta1 + 1)
  fits_strong four k = rw four (record { component = refl; strong = refl; alpha_is = are.alpha on; beta_is = are.beta on })

-- ---- four bytes as one word

number_of_four : (xs : List ℕ) → length xs ≡ 4 → number_l 256 xs ≡ get_or xs 0 0 + 256 * (get_or xs 1 0 + 256 * (get_or xs 2 0 + 256 * get_or xs 3 0))
number_of_four (a ∷ b ∷ c ∷ d ∷ []) e = omega arith
number_of_four xs e = absurd (omega arith)

-- word k of sixty-four bytes
pub word_is : (t : List ℕ) → length t ≡ 64 → ((i : ℕ) → i < 64 → slice_index t i < 256) → (k : ℕ) → k < 16 →
    slice_index (digits_l 4294967296 16 (number_l 256 t)) k
    ≡ slice_index t (4 * k) + 256 * (slice_index t (4 * k + 1) + 256 * (slice_index t (4 * k + 2) + 256 * slice_index t (4 * k + 3)))
word_is t long bytes k low =
    let part = chunk (4 * k) 4 t in
    let zeroth : get_or part 0 0 ≡ slice_index t (4 * k) = get_or-chunk (4 * k) 4 t 0 0 (omega arith) ∙ ap (slice_index t) (omega arith) in
    let first : get_or part 1 0 ≡ slice_index t (4 * k + 1) = get_or-chunk (4 * k) 4 t 1 0 (omega arith) in
    let second : get_or part 2 0 ≡ slice_index t (4 * k + 2) = get_or-chunk (4 * k) 4 t 2 0 (omega arith) in
    let third : get_or part 3 0 ≡ slice_index t (4 * k + 3) = get_or-chunk (4 * k) 4 t 3 0 (omega arith) in
    get_or_wider 256 4 4294967296 16 t k refl (Each1-from_get_or (λ (x : ℕ). x < 256) t 0 (λ i less. bytes i (omega arith))) low
    ∙ number_of_four part (length-chunk (4 * k) 4 t (omega arith))
    ∙ omega arith

-- what is so at each of four neighbours is so at every place
pub by_fours : (f g : ℕ → ℕ) (n : ℕ) → ((k : ℕ) → k < n → f (4 * k) ≡ g (4 * k)) → ((k : ℕ) → k < n → f (4 * k + 1) ≡ g (4 * k + 1)) →
    ((k : ℕ) → k < n → f (4 * k + 2) ≡ g (4 * k + 2)) → ((k : ℕ) → k < n → f (4 * k + 3) ≡ g (4 * k + 3)) → (k : ℕ) → k < 4 * n → f k ≡ g k
by_fours f g n first second third fourth k low =
    let q = k / 4 in
    let at : (r : ℕ) → r ≡ k % 4 → r < 4 → f (4 * q + r) ≡ g (4 * q + r) =
    λ r e. each_of_four (λ r. f (4 * q + r) ≡ g (4 * q + r)) (rw add-zero (first q (omega arith))) (second q (omega arith)) (third q (omega arith)) (fourth q (omega arith)) r in
    ap f (let e : k ≡ 4 * q + k % 4 = omega arith in e) ∙ at (k % 4) refl (omega arith) ∙ ap g (let e : 4 * q + k % 4 ≡ k = omega arith in e)

-- ---- four riffles of sixteen rows make the columns rows, and of rows of eight samples three more make them sixteen rows again

-- a bit times half the samples of sixteen rows
times_eight : (b w half : ℕ) → b < 2 → half ≡ 8 * w → (b * half ≡ 8 * (b * w)) × (b * w ≤ w)
times_eight zero w half low is = (omega arith, omega arith)
times_eight (suc zero) w half low is = (omega (arith, is), omega arith)
times_eight (suc (suc b)) w half low is = absurd (omega arith)

-- a row's place by the bits of its number
bits_times : (w row : ℕ) → w * row ≡ 8 * (row / 8 * w) + 4 * (row / 4 % 2 * w) + 2 * (row / 2 % 2 * w) + row % 2 * w
bits_times w row =
    let e : row ≡ 8 * (row / 8) + 4 * (row / 4 % 2) + 2 * (row / 2 % 2) + row % 2 = omega arith in
    ap (λ r. w * r) e ∙ omega arith

module _ {half : ℕ} (t u : List ℕ) where
  riffle_bit : (k b : ℕ) → IsRiffled half t u → k < half → b < 2 → slice_index u (2 * k + b) ≡ slice_index t (b * half + k)
  riffle_bit k zero h low bit = ap (slice_index u) (omega arith) ∙ h.even k low ∙ ap (slice_index t) (omega arith)
  riffle_bit k (suc zero) h low bit = h.odd k low ∙ ap (slice_index t) (omega arith)
  riffle_bit k (suc (suc b)) h low bit = absurd (omega arith)

  -- where the sample at j comes from
  back : (j k b m : ℕ) → IsRiffled half t u → k < half → b < 2 → j ≡ 2 * k + b → m ≡ b * half + k → slice_index u j ≡ slice_index t m
  back j k b m h low bit e f = ap (slice_index u) e ∙ riffle_bit k b h low bit ∙ ap (slice_index t) (sym f)

pub four_riffles : (w half : ℕ) (t a b c u : List ℕ) → half ≡ 8 * w → IsRiffled half t a → IsRiffled half a b → IsRiffled half b c → IsRiffled half c u → IsTransposed w t u
four_riffles w half t a b c u is h1 h2 h3 h4 row column r_low c_low =
    let b0 = row % 2 in
    let b1 = row / 2 % 2 in
    let b2 = row / 4 % 2 in
    let b3 = row / 8 in
    let all : w * row ≡ 8 * (b3 * w) + 4 * (b2 * w) + 2 * (b1 * w) + b0 * w = bits_times w row in
    let n0 = times_eight b0 w half (omega arith) is in
    let n1 = times_eight b1 w half (omega arith) is in
    let n2 = times_eight b2 w half (omega arith) is in
    let n3 = times_eight b3 w half (omega arith) is in
    let k3 : ℕ = 8 * column + row / 2 in
    let k2 : ℕ = 4 * (b0 * w) + 4 * column + row / 4 in
    let k1 : ℕ = 4 * (b1 * w) + 2 * (b0 * w) + 2 * column + row / 8 in
    let k0 : ℕ = 4 * (b2 * w) + 2 * (b1 * w) + b0 * w + column in
    back c u (16 * column + row) k3 b0 (b0 * half + k3) h4 (omega (arith, is)) (omega arith) (omega arith) refl
    ∙ back b c (b0 * half + k3) k2 b1 (b1 * half + k2) h3 (omega (arith, is, n0.1)) (omega arith) (omega (arith, n0.0)) refl
    ∙ back a b (b1 * half + k2) k1 b2 (b2 * half + k1) h2 (omega (arith, is, n0.1, n1.1)) (omega arith) (omega (arith, n1.0)) refl
    ∙ back t a (b2 * half + k1) k0 b3 (w * row + column) h1 (omega (arith, is, n0.1, n1.1, n2.1)) (omega arith) (omega (arith, n2.0)) (omega (arith, all, n3.0))

pub three_riffles : (t a b u : List ℕ) → IsRiffled 64 t a → IsRiffled 64 a b → IsRiffled 64 b u → IsTransposed 8 u t
three_riffles t a b u h1 h2 h3 row column r_low c_low = sym
    (back b u (8 * row + column) (4 * row + column / 2) (column % 2) (64 * (column % 2) + (4 * row + column / 2)) h3 (omega arith) (omega arith) (omega arith) (omega arith)
    ∙ back a b (64 * (column % 2) + (4 * row + column / 2)) (32 * (column % 2) + 2 * row + column / 4) (column / 2 % 2) (64 * (column / 2 % 2) + (32 * (column % 2) + 2 * row + column / 4)) h2 (omega arith) (omega arith) (omega arith) (omega arith)
    ∙ back t a (64 * (column / 2 % 2) + (32 * (column % 2) + 2 * row + column / 4)) (32 * (column / 2 % 2) + 16 * (column % 2) + row) (column / 4) (16 * column + row) h1 (omega arith) (omega arith) (omega arith) (omega arith))

-- two riffles of rows that stand two apart make sixteen rows of four
pub two_riffles : (t a u : List ℕ) → IsRiffled 64 t a → IsRiffled 64 a u → (row column : ℕ) → row < 16 → column < 4 → slice_index u (4 * row + column) ≡ slice_index t (32 * column + row)
two_riffles t a u h1 h2 row column r_low c_low =
    back a u (4 * row + column) (2 * row + column / 2) (column % 2) (64 * (column % 2) + (2 * row + column / 2)) h2 (omega arith) (omega arith) (omega arith) (omega arith)
    ∙ back t a (64 * (column % 2) + (2 * row + column / 2)) (32 * (column % 2) + row) (column / 2) (32 * column + row) h1 (omega arith) (omega arith) (omega arith) (omega arith)

-- rows two apart, from the four in the middle of eight
pub middle_row : (t a : List ℕ) (k column : ℕ) → k < 16 → column < 4 → ((k : ℕ) → k < 16 → slice_index a k ≡ slice_index t (32 + k)) → ((k : ℕ) → k < 16 → slice_index a (32 + k) ≡ slice_index t (48 + k)) →
    ((k : ℕ) → k < 16 → slice_index a (64 + k) ≡ slice_index t (64 + k)) → ((k : ℕ) → k < 16 → slice_index a (96 + k) ≡ slice_index t (80 + k)) →
    slice_index a (32 * column + k) ≡ slice_index t (32 + 16 * column + k)
middle_row t a k column low less first second third fourth =
    each_of_four (λ c. slice_index a (32 * c + k) ≡ slice_index t (32 + 16 * c + k)) (ap (slice_index a) (omega arith) ∙ first k low) (second k low) (third k low) (fourth k low) column less

-- ---- the lines down eight rows of a table, of which the four in the middle are put back

pub inner_lines : (s : Setting) (from i : ℕ) (t a b inner u : List ℕ) → i < 16 → s.strength < 4
    → ((k : ℕ) → k < 128 → slice_index a k ≡ slice_index t (from + k))
    → ((k : ℕ) → k < 64 → slice_index inner k ≡ slice_index b (32 + k))
    → AreSet 64 (from + 32) inner t u
    → filtered s (line_down (slice_index a) i) ≡ line_down (slice_index b) i → filtered s (line_down (samples_at from t) i) ≡ line_down (samples_at from u) i
inner_lines s from i t a b inner u low weak loaded inner_is set is =
    ap (filtered s) (same_samples (λ k. slice_index t (from + (16 * k + i))) (λ k. slice_index a (16 * k + i)) (λ k less. sym (loaded (16 * k + i) (omega arith))))
    ∙ is
    ∙ same_samples (λ k. slice_index b (16 * k + i)) (λ k. slice_index u (from + (16 * k + i))) each
  where
    kept : (k : ℕ) → k < 8 → (2 ≤ k → k < 6 → ⊥) → slice_index b (16 * k + i) ≡ slice_index t (from + (16 * k + i))
    kept k less out = kept_by s (λ k. slice_index a (16 * k + i)) (λ k. slice_index b (16 * k + i)) 2 (weak_reach s weak) is k less out ∙ loaded (16 * k + i) (omega arith)

    middle : (k : ℕ) → 2 ≤ k → k < 6 → slice_index b (16 * k + i) ≡ slice_index u (from + (16 * k + i))
    middle k some last =
        let m : ℕ = 16 * (k - 2) + i in
        ap (slice_index b) (let e : 16 * k + i ≡ 32 + m = omega arith in e) ∙ sym (inner_is m (omega arith)) ∙ sym (set.inside m (omega arith))
        ∙ ap (slice_index u) (let e : from + 32 + m ≡ from + (16 * k + i) = omega arith in e)

    each : (k : ℕ) → k < 8 → slice_index b (16 * k + i) ≡ slice_index u (from + (16 * k + i))
    each k less = elim (cases_lt k 2) [
      | inl first ↦ kept k less (λ p q. omega arith) ∙ sym (set.others.before (from + (16 * k + i)) (omega arith))
      | inr rest ↦ elim (cases_lt k 6) [
        | inl last ↦ middle k rest last
        | inr far ↦ kept k less (λ p q. omega arith) ∙ sym (set.others.behind (from + (16 * k + i)) (omega arith))
      ]
    ]
