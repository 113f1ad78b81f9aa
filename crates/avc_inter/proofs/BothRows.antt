-- Rows of both chroma components, blended in two steps.
use Rattle.avc_inter.proofs.SixRows.{ℕ, ℤ, pos, ◌≡◌, ◌+◌, ◌*◌, ◌-◌, ◌/◌, ◌<◌, ◌≤◌, ◌+ℤ◌, List, slice_index, arith, ap, refl, sym, ◌∙◌, mul_comm, add-mul}
use Rattle.avc_inter.proofs.SixRows.{Wide, bilinear, blend_at, IsStridedSet, strided_line}
use Rattle.std.proofs.Math.Nat.{mul_left_comm, mul_assoc}
use Rattle.avc_inter.specs.Eighths.{along, rounded_share, eighth_at, IsLineSet}

-- one row more
pub line_more : {w first stride : ℕ} {f : ℕ → ℕ → ℕ} {g : ℕ → ℕ} {old mid new : List ℕ} (y : ℕ) → w ≤ stride → IsStridedSet w y first stride f old mid →
    IsLineSet w (first + y * stride) g mid new → ((x : ℕ) → x < w → g x ≡ f x y) → IsStridedSet w (y + 1) first stride f old new
line_more {w} {first} {stride} {f} {g} {old} {mid} {new} y apart so_far set is =
    strided_line w y first stride f old mid new apart so_far set.long (λ x column. set.here x column ∙ is x column) set.before set.behind

-- a sample between two rows, of what they are along themselves
pub between_rows : (right down stride first y n x : ℕ) (p : List ℕ) (a b : ℕ) → n ≡ y + 1 → a ≡ along right p (first + y * stride + x) → b ≡ along right p (first + n * stride + x) →
    rounded_share down a b ≡ eighth_at right down stride p (first + (y * stride + x))
between_rows right down stride first y n x p a b next above below =
    let here : first + y * stride + x ≡ first + (y * stride + x) = omega arith in
    let lower : first + (y + 1) * stride + x ≡ first + (y * stride + x) + stride = omega (arith, add-mul y 1 stride) in
    ap (λ m. rounded_share down m b) (above ∙ ap (along right p) here)
    ∙ ap (rounded_share down (along right p (first + (y * stride + x)))) (below ∙ ap (λ m. along right p (first + m * stride + x)) next ∙ ap (along right p) lower)

shared : (v a b : ℕ) → v * (a + b) ≡ v * a + v * b
shared v a b = omega (arith, mul_comm v (a + b), add-mul a b v, mul_comm a v, mul_comm b v)

turned : (v u a : ℕ) → v * (u * a) ≡ u * v * a
turned v u a = mul_left_comm v u a ∙ sym (mul_assoc u v a)

two_steps : (u r v d a b c e : ℕ) → v * (u * a + r * b) + d * (u * c + r * e) ≡ u * v * a + r * v * b + u * d * c + r * d * e
two_steps u r v d a b c e =
    omega (arith, shared v (u * a) (r * b), shared d (u * c) (r * e), turned v u a, turned v r b, turned d u c, turned d r e)

-- the two steps are the definition's one
pub eighth_shown : (s : Wide) (left left' top top' : ℤ) (columns lines first stride right down : ℕ) (p : List ℕ) →
    ((i j : ℕ) → i < columns → j < lines → slice_index p (first + j * stride + i) ≡ s (left' +ℤ pos i) (top' +ℤ pos j)) → left' ≡ left → top' ≡ top →
    (i j : ℕ) → i + 1 < columns → j + 1 < lines → eighth_at right down stride p (first + (j * stride + i)) ≡ bilinear s (left +ℤ pos i) (top +ℤ pos j) right down
eighth_shown s left left' top top' columns lines first stride right down p shown is_left is_top i j column row =
    let at = first + (j * stride + i) in
    ap (λ m. (m + 32) / 64) (two_steps (8 - right) right (8 - down) down (slice_index p at) (slice_index p (at + 1)) (slice_index p (at + stride)) (slice_index p (at + stride + 1)))
    ∙ blend_at s left left' top top' columns lines first stride right down p _ _ _ _ shown is_left is_top refl refl refl refl i j column row
