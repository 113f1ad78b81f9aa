-- Order counts of each type, after any history and after gaps, and worked examples.
pub mod Common
unfoldable pub use Common.*
use Rattle.avc_params.specs.declared.sps.OrderCount.TheVariants as orders

-- ---- picOrderCntMsb in each case of its choice

pub lt_yes : (a b : ℤ) → a <ℤ b → int_lt a b ≡ true
lt_yes a b h = grind (arith, ints)

pub lt_no : (a b : ℤ) → b ≤ℤ a → int_lt a b ≡ false
lt_no a b h = grind (arith, ints)

pub le_yes : (a b : ℤ) → a ≤ℤ b → int_le a b ≡ true
le_yes a b h = grind (arith, ints)

pub le_no : (a b : ℤ) → b <ℤ a → int_le a b ≡ false
le_no a b h = grind (arith, ints)

pub msb_up : (max : ℤ) (p : Previous) (lsb : ℤ) → lsb <ℤ p.lsb → max ≤ℤ (pos 2 *ℤ (p.lsb -ℤ lsb)) → msb_of max p lsb ≡ p.msb +ℤ max
msb_up max p lsb h k = rw (lt_yes lsb p.lsb h, le_yes max (pos 2 *ℤ (p.lsb -ℤ lsb)) k)

pub msb_below : (max : ℤ) (p : Previous) (lsb : ℤ) → lsb <ℤ p.lsb → (pos 2 *ℤ (p.lsb -ℤ lsb)) <ℤ max → msb_of max p lsb ≡ p.msb
msb_below max p lsb h k = rw (lt_yes lsb p.lsb h, le_no max (pos 2 *ℤ (p.lsb -ℤ lsb)) k, lt_no p.lsb lsb (omega (arith, ints)))

pub msb_down : (max : ℤ) (p : Previous) (lsb : ℤ) → p.lsb <ℤ lsb → max <ℤ (pos 2 *ℤ (lsb -ℤ p.lsb)) → msb_of max p lsb ≡ p.msb -ℤ max
msb_down max p lsb h k = rw (lt_no lsb p.lsb (omega (arith, ints)), lt_yes p.lsb lsb h, lt_yes max (pos 2 *ℤ (lsb -ℤ p.lsb)) k)

pub msb_above : (max : ℤ) (p : Previous) (lsb : ℤ) → p.lsb <ℤ lsb → (pos 2 *ℤ (lsb -ℤ p.lsb)) ≤ℤ max → msb_of max p lsb ≡ p.msb
msb_above max p lsb h k = rw (lt_no lsb p.lsb (omega (arith, ints)), lt_yes p.lsb lsb h, lt_no max (pos 2 *ℤ (lsb -ℤ p.lsb)) k)

-- sums and differences of what is near 0, as they are computed
pub difference_fits : (a b : ℤ) → IsNear 33 a → IsNear 33 b → SFits w64 (to_z w64 (of_z w64 a) -ℤ to_z w64 (of_z w64 b))
difference_fits a b h k = omega (arith, ints, h.low, h.high, k.low, k.high)

pub double_fits : (a b : ℤ) → IsNear 33 a → IsNear 33 b
    → SFits w64 (pos 2 *ℤ to_z w64 (of_z w64 (to_z w64 (of_z w64 a) -ℤ to_z w64 (of_z w64 b))))
double_fits a b h k = omega (arith, ints, h.low, h.high, k.low, k.high)

pub msb_up_fits : (m max : ℤ) → IsNear 34 m → IsNear 17 max → SFits w64 (to_z w64 (of_z w64 m) +ℤ to_z w64 (of_z w64 max))
msb_up_fits m max h k = omega (arith, ints, h.low, h.high, k.low, k.high)

pub msb_down_fits : (m max : ℤ) → IsNear 34 m → IsNear 17 max → SFits w64 (to_z w64 (of_z w64 m) -ℤ to_z w64 (of_z w64 max))
msb_down_fits m max h k = omega (arith, ints, h.low, h.high, k.low, k.high)

pub msb_up_near : (m max : ℤ) → IsNear 34 m → IsNear 17 max → IsNear 35 (to_z w64 (of_z w64 (to_z w64 (of_z w64 m) +ℤ to_z w64 (of_z w64 max))))
msb_up_near m max h k =
    record { low = omega (arith, ints, h.low, h.high, k.low, k.high); high = omega (arith, ints, h.low, h.high, k.low, k.high) }

pub msb_down_near : (m max : ℤ) → IsNear 34 m → IsNear 17 max → IsNear 35 (to_z w64 (of_z w64 (to_z w64 (of_z w64 m) -ℤ to_z w64 (of_z w64 max))))
msb_down_near m max h k =
    record { low = omega (arith, ints, h.low, h.high, k.low, k.high); high = omega (arith, ints, h.low, h.high, k.low, k.high) }

pub msb_same_near : (m : ℤ) → IsNear 34 m → IsNear 35 (to_z w64 (of_z w64 m))
msb_same_near m h = record { low = omega (arith, ints, h.low, h.high); high = omega (arith, ints, h.low, h.high) }

-- the msb in each case of the choice, as it is computed
pub up_told : (max lsb : ℤ) (p : Previous) → IsNear 17 max → IsNear 34 p.msb → IsNear 33 p.lsb → IsNear 33 lsb → int_lt (to_z w64 (of_z w64 lsb)) (to_z w64 (of_z w64 p.lsb)) ≡ true
    → int_le (to_z w64 (of_z w64 max)) (to_z w64 (of_z w64 (pos 2 *ℤ to_z w64 (of_z w64 (to_z w64 (of_z w64 p.lsb) -ℤ to_z w64 (of_z w64 lsb)))))) ≡ true
    → to_z w64 (of_z w64 (to_z w64 (of_z w64 p.msb) +ℤ to_z w64 (of_z w64 max))) ≡ msb_of max p lsb
up_told max lsb p x m q l e f = omega (arith, ints) ∙ sym (msb_up max p lsb (omega (arith, ints)) (omega (arith, ints)))

pub below_told : (max lsb : ℤ) (p : Previous) → IsNear 17 max → IsNear 34 p.msb → IsNear 33 p.lsb → IsNear 33 lsb → int_lt (to_z w64 (of_z w64 lsb)) (to_z w64 (of_z w64 p.lsb)) ≡ true
    → int_le (to_z w64 (of_z w64 max)) (to_z w64 (of_z w64 (pos 2 *ℤ to_z w64 (of_z w64 (to_z w64 (of_z w64 p.lsb) -ℤ to_z w64 (of_z w64 lsb)))))) ≡ false
    → to_z w64 (of_z w64 p.msb) ≡ msb_of max p lsb
below_told max lsb p x m q l e f = omega (arith, ints) ∙ sym (msb_below max p lsb (omega (arith, ints)) (omega (arith, ints)))

pub down_told : (max lsb : ℤ) (p : Previous) → IsNear 17 max → IsNear 34 p.msb → IsNear 33 p.lsb → IsNear 33 lsb → int_lt (to_z w64 (of_z w64 p.lsb)) (to_z w64 (of_z w64 lsb)) ≡ true
    → int_lt (to_z w64 (of_z w64 max)) (to_z w64 (of_z w64 (pos 2 *ℤ to_z w64 (of_z w64 (to_z w64 (of_z w64 lsb) -ℤ to_z w64 (of_z w64 p.lsb)))))) ≡ true
    → to_z w64 (of_z w64 (to_z w64 (of_z w64 p.msb) -ℤ to_z w64 (of_z w64 max))) ≡ msb_of max p lsb
down_told max lsb p x m q l e f = omega (arith, ints) ∙ sym (msb_down max p lsb (omega (arith, ints)) (omega (arith, ints)))

pub above_told : (max lsb : ℤ) (p : Previous) → IsNear 17 max → IsNear 34 p.msb → IsNear 33 p.lsb → IsNear 33 lsb → int_lt (to_z w64 (of_z w64 p.lsb)) (to_z w64 (of_z w64 lsb)) ≡ true
    → int_lt (to_z w64 (of_z w64 max)) (to_z w64 (of_z w64 (pos 2 *ℤ to_z w64 (of_z w64 (to_z w64 (of_z w64 lsb) -ℤ to_z w64 (of_z w64 p.lsb)))))) ≡ false
    → to_z w64 (of_z w64 p.msb) ≡ msb_of max p lsb
above_told max lsb p x m q l e f = omega (arith, ints) ∙ sym (msb_above max p lsb (omega (arith, ints)) (omega (arith, ints)))

-- from what the function says, its arguments cast
pub msb_told : (r m l max lsb : ℤ) (p : Previous) → r ≡ msb_of (to_z w64 (of_z w64 m)) p (to_z w64 (of_z w64 l)) → IsNear 17 m → IsNear 33 l → m ≡ max → l ≡ lsb
    → r ≡ msb_of max p lsb
msb_told r m l max lsb p e small few f g =
    let first : to_z w64 (of_z w64 m) ≡ max = omega (arith, ints) in
    let second : to_z w64 (of_z w64 l) ≡ lsb = omega (arith, ints) in
    rw (first, second) at e

pub lowered_told : (r d delta top : ℤ) → IsNear 33 d → IsNear 33 r → d ≡ delta → ((t : ℤ) → r ≡ t -ℤ int_min t (t +ℤ to_z w64 (of_z w64 d)))
    → to_z w64 (of_z w64 r) ≡ top -ℤ int_min top (top +ℤ delta)
lowered_told r d delta top few small e told =
    let first : to_z w64 (of_z w64 r) ≡ r = omega (arith, ints) in
    let second : to_z w64 (of_z w64 d) ≡ delta = omega (arith, ints) in
    rw (first, ← second) (told top)

pub previous_cast : (m l : ℤ) → IsNear 34 m → IsNear 33 l → IsPrevious (record { msb = to_z w64 (of_z w64 m); lsb = to_z w64 (of_z w64 l) })
previous_cast m l a b = grind (arith, ints)

-- ---- sums of offsets

pub sum_more : (xs : List ℤ) (i : ℕ) (d : ℤ) → i < length xs → sum_ℤ (drop i xs) ≡ get_or xs i d +ℤ sum_ℤ (drop (i + 1) xs)
sum_more xs i d h = ap sum_ℤ (drop_more xs i d h)

pub sum_parts : (xs ys : List ℤ) → sum_ℤ (xs ++ ys) ≡ sum_ℤ xs +ℤ sum_ℤ ys
sum_parts [] ys = omega (arith, ints)
sum_parts (x ∷ xs) ys = ap (λ (s : ℤ). x +ℤ s) (sum_parts xs ys) ∙ omega (arith, ints)

pub sum_whole : (cycle : List ℤ) (k : ℕ) (first rest : ℤ) → k ≤ length cycle → first ≡ sum_ℤ (take k cycle) → rest ≡ sum_ℤ (take (length cycle - k) (drop k cycle))
    → first +ℤ rest ≡ sum_ℤ cycle
sum_whole cycle k first rest h e f =
    rw (e, f, take_rest cycle k, ← sum_parts (take k cycle) (drop k cycle), take-append-drop k cycle) refl

pub expected_is : (abs : ℕ) (cycle : List ℤ) → (abs ≡ 0 → ⊥) → (length cycle == 0) ≡ false
    → expected_order_count abs cycle ≡ pos ((abs - 1) / length cycle) *ℤ sum_ℤ cycle +ℤ sum_ℤ (take ((abs - 1) % length cycle + 1) cycle)
expected_is zero cycle some more = absurd (some refl)
expected_is (suc n) [] some more = absurd (grind (arith, nat_tests))
expected_is (suc n) (x ∷ xs) some more =
    let less : suc n - 1 ≡ n = omega arith in rw less refl

near_abs : (z : ℤ) → IsNear 40 z → unsigned_abs z ≤ 2 ^ 40
near_abs z h = grind (arith, ints)

abs_near : (z : ℤ) → unsigned_abs z ≤ 2 ^ 31 * 2 ^ 40 → IsNear 71 z
abs_near z h = grind (arith, ints)

pub times_near : (n : ℕ) (z : ℤ) → n < 2 ^ 31 → IsNear 40 z → IsNear 71 (pos n *ℤ z)
times_near n z h near = abs_near (pos n *ℤ z) (rw (unsigned_abs-mul (pos n) z) (mul-le n (unsigned_abs z) (2 ^ 31) (2 ^ 40) (omega arith) (near_abs z near)))

-- the product, its factors cast
pub product_told : (n : ℕ) (z a b : ℤ) → n < 2 ^ 31 → IsNear 40 z → a ≡ pos n → b ≡ to_z w64 (of_z w64 z)
    → to_z w128 (of_z w128 a) *ℤ to_z w128 (of_z w128 b) ≡ pos n *ℤ z
product_told n z a b h near e f =
    let first : to_z w128 (of_z w128 a) ≡ pos n = omega (arith, ints) in
    let second : to_z w128 (of_z w128 b) ≡ z = omega (arith, ints) in
    rw (first, second) refl

product_fits : (m : ℤ) → IsNear 71 m → SFits w128 m
product_fits m near = omega (arith, ints, near.low, near.high)

pub product_told_fits : (n : ℕ) (z a b : ℤ) → n < 2 ^ 31 → IsNear 40 z → a ≡ pos n → b ≡ to_z w64 (of_z w64 z)
    → SFits w128 (to_z w128 (of_z w128 a) *ℤ to_z w128 (of_z w128 b))
product_told_fits n z a b h near e f = subst (SFits w128) (sym (product_told n z a b h near e f)) (product_fits (pos n *ℤ z) (times_near n z h near))

-- a product and one more number, both cast
sum_told : (m first p d : ℤ) → IsNear 71 m → IsNear 39 first → p ≡ m → d ≡ to_z w64 (of_z w64 first)
    → to_z w128 (of_z w128 p) +ℤ to_z w128 (of_z w128 d) ≡ m +ℤ first
sum_told m first p d near small e f = omega (arith, ints, near.low, near.high, small.low, small.high, e, f)

sum_near : (m first : ℤ) → IsNear 71 m → IsNear 39 first → IsNear 75 (m +ℤ first)
sum_near m first near small = record { low = omega (arith, ints, near.low, small.low); high = omega (arith, ints, near.high, small.high) }

sum_fits : (m : ℤ) → IsNear 75 m → SFits w128 m
sum_fits m near = omega (arith, ints, near.low, near.high)

pub cycles_told : (n : ℕ) (whole first a b d : ℤ) → n < 2 ^ 31 → IsNear 40 whole → IsNear 39 first
    → a ≡ pos n → b ≡ to_z w64 (of_z w64 whole) → d ≡ to_z w64 (of_z w64 first)
    → to_z w128 (of_z w128 (to_z w128 (of_z w128 a) *ℤ to_z w128 (of_z w128 b))) +ℤ to_z w128 (of_z w128 d) ≡ pos n *ℤ whole +ℤ first
cycles_told n whole first a b d h near small e f g =
    sum_told (pos n *ℤ whole) first _ d (times_near n whole h near) small (product_told n whole a b h near e f) g

pub cycles_near : (n : ℕ) (whole first : ℤ) → n < 2 ^ 31 → IsNear 40 whole → IsNear 39 first → IsNear 75 (pos n *ℤ whole +ℤ first)
cycles_near n whole first h near small = sum_near (pos n *ℤ whole) first (times_near n whole h near) small

pub cycles_fit : (n : ℕ) (whole first : ℤ) → n < 2 ^ 31 → IsNear 40 whole → IsNear 39 first → SFits w128 (pos n *ℤ whole +ℤ first)
cycles_fit n whole first h near small = sum_fits (pos n *ℤ whole +ℤ first) (cycles_near n whole first h near small)

-- ---- what an answer says of the counts behind it

pub ok_is : (b : Bool) (p q : ℤ × ℤ) → ◌≡◌ {A = Result (ℤ × ℤ) Fault} (Ok q) (if b then Ok p else Err PocRange) → (b ≡ true) × (q ≡ p)
ok_is true p q e = (refl, cc)
ok_is false p q e = cc

pub both_are : (a b c d : ℤ) → a ≡ c → b ≡ d → ◌≡◌ {A = ℤ × ℤ} (a, b) (c, d)
both_are a b c d e f = ap (λ (x : ℤ). (x, b)) e ∙ ap (λ (y : ℤ). (c, y)) f

number_ok : (b : Bool) (n k : ℕ) → ◌≡◌ {A = Result ℕ Fault} (Ok k) (if b then Ok n else Err PocRange) → (b ≡ true) × (k ≡ n)
number_ok true n k e = (refl, cc)
number_ok false n k e = cc

below_from : (n m : ℕ) → nat_lt n m ≡ true → n < m
below_from n m e = grind (arith, nat_tests)

pub number_low : (n k : ℕ) → ◌≡◌ {A = Result ℕ Fault} (Ok k) (if nat_lt n (2 ^ 31) then Ok n else Err PocRange) → k < 2 ^ 31
number_low n k e =
    let ok = number_ok (nat_lt n (2 ^ 31)) n k e in
    subst (λ k. k < 2 ^ 31) (sym ok.1) (below_from n (2 ^ 31) ok.0)

one_ok : (b : Bool) (z r : ℤ) → ◌≡◌ {A = Result ℤ Fault} (Ok r) (if b then Ok z else Err PocRange) → (b ≡ true) × (r ≡ z)
one_ok true z r e = (refl, cc)
one_ok false z r e = cc

-- two counts in range, from what the function says of each, its argument cast
pub two_ok : (p : ℤ × ℤ) (a b top bottom : ℤ) → a ≡ p.0 → b ≡ p.1 → ◌≡◌ {A = Result ℤ Fault} (Ok top) (if in_32_bits a then Ok a else Err PocRange)
    → ◌≡◌ {A = Result ℤ Fault} (Ok bottom) (if in_32_bits b then Ok b else Err PocRange)
    → SFits w32 top → SFits w32 bottom
    → ◌≡◌ {A = Result (ℤ × ℤ) Fault} (Ok (to_z w32 (of_z w32 top), to_z w32 (of_z w32 bottom))) (if both_in_32_bits (counts_of p) then Ok p else Err PocRange)
two_ok p a b top bottom a_is b_is e f top_fits bottom_fits =
    let first = one_ok (in_32_bits a) a top e in
    let second = one_ok (in_32_bits b) b bottom f in
    ap (λ q. Ok q) (both_are _ _ p.0 p.1 (to_z-of_z w32 top top_fits ∙ first.1 ∙ a_is) (to_z-of_z w32 bottom bottom_fits ∙ second.1 ∙ b_is))
    ∙ sym (ap (λ t. if t && in_32_bits p.1 then Ok p else Err PocRange) (sym (ap in_32_bits a_is) ∙ first.0)
    ∙ ap (λ t. if t then Ok p else Err PocRange) (sym (ap in_32_bits b_is) ∙ second.0))

-- ---- what an answer says where a count is out of range

pub err_is : {A : Type 0} (r : Result A Fault) (f : Fault) → IsErrAnd r (λ e. e ≡ f) → r ≡ Err f
err_is (Ok done) f is = absurd is
err_is (Err e) f is = ap (λ e. Err e) is

refused : {A : Type 0} (b : Bool) (x : A) (f : Fault) → ◌≡◌ {A = Result A Fault} (Err f) (if b then Ok x else Err PocRange) → (b ≡ false) × (f ≡ PocRange)
refused true x f e = cc
refused false x f e = (refl, cc)

and_false : (a b : Bool) → b ≡ false → (a && b) ≡ false
and_false true b e = e
and_false false b e = refl

pub top_refused : (p : ℤ × ℤ) (a : ℤ) (f : Fault) → a ≡ p.0 → ◌≡◌ {A = Result ℤ Fault} (Err f) (if in_32_bits a then Ok a else Err PocRange)
    → ◌≡◌ {A = Result (ℤ × ℤ) Fault} (Err f) (if both_in_32_bits (counts_of p) then Ok p else Err PocRange)
top_refused p a f same e =
    let out = refused (in_32_bits a) a f e in
    ap (λ e. Err e) out.1 ∙ sym (ap (λ t. if t && in_32_bits p.1 then Ok p else Err PocRange) (sym (ap in_32_bits same) ∙ out.0))

pub bottom_refused : (p : ℤ × ℤ) (b : ℤ) (f : Fault) → b ≡ p.1 → ◌≡◌ {A = Result ℤ Fault} (Err f) (if in_32_bits b then Ok b else Err PocRange)
    → ◌≡◌ {A = Result (ℤ × ℤ) Fault} (Err f) (if both_in_32_bits (counts_of p) then Ok p else Err PocRange)
bottom_refused p b f same e =
    let out = refused (in_32_bits b) b f e in
    ap (λ e. Err e) out.1 ∙ sym (ap (λ t. if t then Ok p else Err PocRange) (and_false (in_32_bits p.0) (in_32_bits p.1) (sym (ap in_32_bits same) ∙ out.0)))

pub range_refused : (h : Header) (p : ℤ × ℤ) (f : Fault) → ◌≡◌ {A = Result (ℤ × ℤ) Fault} (Err f) (if both_in_32_bits (counts_of p) then Ok p else Err PocRange)
    → ◌≡◌ {A = Result (ℤ × ℤ) Fault} (Err f) (count_pair (in_range h (counts_of p)))
range_refused h p f e =
    let c : Counts = counts_of p in
    let out = refused (both_in_32_bits c) p f e in
    ap (λ e. Err e) out.1 ∙ sym (ap (λ t. count_pair (if t && both_in_32_bits (final_counts h c) then Ok (final_counts h c) else Err PocRange)) out.0)

-- ---- counts before any lowering

-- those of type 0
pub raw_0 : (sps : Sps) (h : Header) (p : Previous) (n l : ℕ) (r : ℤ × ℤ) → sps.order_count ≡ orders.Type0 l → r ≡ pair (counts_0 sps h p)
    → ◌≡◌ {A = Result (ℤ × ℤ) Fault} (Ok r) (raw_counts sps h p n)
raw_0 sps h p n l r e f =
    ap (λ r. Ok r) f ∙ sym (ap (λ o. if number_in_range o n then Ok (pair (counts_by o sps h p n)) else Err PocRange) e)

-- those of type 1, the offsets cast
pub raw_1 : (sps : Sps) (h : Header) (p : Previous) (n k : ℕ) (z : Bool) (a b a' b' : ℤ) (cycle cycle' : List ℤ) (r : ℤ × ℤ) → sps.order_count ≡ orders.Type1 z a b cycle
    → ◌≡◌ {A = Result ℕ Fault} (Ok k) (if nat_lt n (2 ^ 31) then Ok n else Err PocRange) → a' ≡ a → b' ≡ b → cycle' ≡ cycle → r ≡ pair (counts_1 a' b' cycle' h k)
    → ◌≡◌ {A = Result (ℤ × ℤ) Fault} (Ok r) (raw_counts sps h p n)
raw_1 sps h p n k z a b a' b' cycle cycle' r e g a_is b_is same f =
    let ok = number_ok (nat_lt n (2 ^ 31)) n k g in
    ap (λ r. Ok r) (f ∙ ap₂ (λ l k. pair (counts_1 a' b' l h k)) same ok.1 ∙ ap₂ (λ (a b : ℤ). pair (counts_1 a b cycle h n)) a_is b_is)
    ∙ sym (ap (λ o. if number_in_range o n then Ok (pair (counts_by o sps h p n)) else Err PocRange) e ∙ ap (λ t. if t then Ok (pair (counts_1 a b cycle h n)) else Err PocRange) ok.0)

-- those of type 2
pub raw_2 : (sps : Sps) (h : Header) (p : Previous) (n k : ℕ) (r : ℤ × ℤ) → sps.order_count ≡ orders.Type2
    → ◌≡◌ {A = Result ℕ Fault} (Ok k) (if nat_lt n (2 ^ 31) then Ok n else Err PocRange) → r ≡ pair (counts_2 h k)
    → ◌≡◌ {A = Result (ℤ × ℤ) Fault} (Ok r) (raw_counts sps h p n)
raw_2 sps h p n k r e g f =
    let ok = number_ok (nat_lt n (2 ^ 31)) n k g in
    ap (λ r. Ok r) (f ∙ ap (λ k. pair (counts_2 h k)) ok.1)
    ∙ sym (ap (λ o. if number_in_range o n then Ok (pair (counts_by o sps h p n)) else Err PocRange) e ∙ ap (λ t. if t then Ok (pair (counts_2 h n)) else Err PocRange) ok.0)

pub counted : (r : Result Counts Fault) (p : ℤ × ℤ) → ◌≡◌ {A = Result (ℤ × ℤ) Fault} (Ok p) (count_pair r) → is_ok r ≡ true
counted r p e = grind arith

pub in_range_lowered : (h : Header) (c : Counts) → has_operation_5 h ≡ true → both_in_32_bits c ≡ true
    → ◌≡◌ {A = Result (ℤ × ℤ) Fault} (if both_in_32_bits (lowered_by_operation_5 c) then Ok (pair (lowered_by_operation_5 c)) else Err PocRange) (count_pair (in_range h c))
in_range_lowered h c five fit = grind arith

pub in_range_kept : (h : Header) (c : Counts) → has_operation_5 h ≡ false → both_in_32_bits c ≡ true
    → ◌≡◌ {A = Result (ℤ × ℤ) Fault} (Ok (pair c)) (count_pair (in_range h c))
in_range_kept h c five fit = rw (five, fit) refl

fits_is : (z : ℤ) → in_32_bits z ≡ true → IsNear 31 z
fits_is z e = grind (arith, ints)

tested : (b : Bool) (c : Counts) → is_ok (if b then Ok c else Err PocRange) ≡ true → b ≡ true
tested b c e = grind arith

unmoved : (a b : Bool) (m : ℤ) → (if a then m +ℤ pos 0 else (if b then m -ℤ pos 0 else m)) ≡ m
unmoved a b m = grind (arith, ints)

msb_unmoved : (max : ℤ) (p : Previous) (lsb : ℤ) → max ≡ pos 0 → IsPrevious p → IsNear 34 (msb_of max p lsb)
msb_unmoved max p lsb e near =
    let same : msb_of (pos 0) p lsb ≡ p.msb =
    unmoved (int_lt lsb p.lsb && int_le (pos 0) (pos 2 *ℤ (p.lsb -ℤ lsb))) (int_lt p.lsb lsb && int_lt (pos 0) (pos 2 *ℤ (lsb -ℤ p.lsb))) p.msb in
    subst (IsNear 34) (sym (ap (λ (m : ℤ). msb_of m p lsb) e ∙ same)) near.msb

-- A picture that has counts leaves an msb that is small enough.
kept : (o : OrderCount) (sps : Sps) (h : Header) (p : Previous) (n : ℕ) → max_lsb sps.order_count ≡ max_lsb o → IsPrevious p → IsNear 33 (lsb_of h.order)
    → is_ok (if number_in_range o n then in_range h (counts_by o sps h p n) else Err PocRange) ≡ true
    → IsNear 34 (msb_of (max_lsb sps.order_count) p (lsb_of h.order))
kept (orders.Type0 log2) sps h p n e near low ok =
    let c : Counts = counts_0 sps h p in
    let top : IsNear 31 (msb_of (max_lsb sps.order_count) p (lsb_of h.order) +ℤ lsb_of h.order) =
    fits_is _ (and_parts (in_32_bits c.top) (in_32_bits c.bottom) (and_parts (both_in_32_bits c) (both_in_32_bits (final_counts h c)) (tested (both_in_32_bits c && both_in_32_bits (final_counts h c)) (final_counts h c) ok)).0).0 in
    near_part _ _ top low
  where
    near_part : (m l : ℤ) → IsNear 31 (m +ℤ l) → IsNear 33 l → IsNear 34 m
    near_part m l a b = record { low = omega (arith, ints); high = omega (arith, ints) }
kept (orders.Type1 z a b cycle) sps h p n e near low ok = msb_unmoved (max_lsb sps.order_count) p (lsb_of h.order) e near
kept orders.Type2 sps h p n e near low ok = msb_unmoved (max_lsb sps.order_count) p (lsb_of h.order) e near

pub msb_kept : (sps : Sps) (h : Header) (p : Previous) (n : ℕ) → IsPrevious p → IsNear 33 (lsb_of h.order) → is_ok (counts_from sps h p n) ≡ true
    → IsNear 34 (msb_of (max_lsb sps.order_count) p (lsb_of h.order))
msb_kept sps h p n near low ok = kept sps.order_count sps h p n refl near low ok

-- ---- what is left by a history is all that the next order counts ask of it

none_below : (n : ℕ) → nat_lt n 0 ≡ false
none_below n = grind (arith, nat_tests)

pub held_more : (b : Bool) (o m : ℕ) → (if b then saturated (saturated o + m) else saturated o) ≡ saturated (if b then o + m else o)
held_more true o m = omega arith
held_more false o m = refl

held_step : (idr reset : Bool) (o before n m : ℕ)
    → elim idr as (λ x. ℕ) [ true ↦ 0 | false ↦ next_offset (if reset then 0 else saturated o) (if reset then 0 else before) n m ]
    ≡ saturated (elim idr as (λ x. ℕ) [ true ↦ 0 | false ↦ (if reset then 0 else (if nat_lt n before then o + m else o)) ])
held_step true reset o before n m = refl
held_step false true o before n m = rw (none_below n)
held_step false false o before n m = held_more (nat_lt n before) o m

pub offset_law : (sps : Sps) (h : Header) (older : List Past) → picture_offset sps h (order_count_state older) ≡ saturated (frame_num_offset (picture sps h ∷ older))
offset_law sps h [] = held_step (is_idr h) true 0 0 h.frame_num (max_frame_num sps) ∙ grind arith
offset_law sps h (x ∷ others) = held_step (is_idr h) (resets_order_counts x) (frame_num_offset (x ∷ others)) (past_number x) h.frame_num (max_frame_num sps)

pub missing_offset : (sps : Sps) (n : ℕ) (older : List Past)
    → next_offset (order_count_state older).offset (order_count_state older).frame_num n (max_frame_num sps) ≡ saturated (frame_num_offset (missing sps n ∷ older))
missing_offset sps n [] = rw (none_below n) refl
missing_offset sps n (x ∷ others) = held_step false (resets_order_counts x) (frame_num_offset (x ∷ others)) (past_number x) n (max_frame_num sps)

-- FrameNumOffset may be held at 2^31, since no count is answered from there on
in_range_alike : {A : Type 0} (f : ℕ → A) (z : A) (x n : ℕ)
    → (if nat_lt (saturated x + n) (2 ^ 31) then f (saturated x + n) else z) ≡ (if nat_lt (x + n) (2 ^ 31) then f (x + n) else z)
in_range_alike f z x n = elim (cases_lt x (2 ^ 31)) [
  | inl h ↦ let below : saturated x ≡ x = omega arith in rw below refl
  | inr h ↦ grind (arith, nat_tests)
]

held_counts : (o : OrderCount) (sps : Sps) (h : Header) (p : Previous) (x n : ℕ)
    → ◌≡◌ {A = Result _ Fault} (if number_in_range o (saturated x + n) then in_range h (counts_by o sps h p (saturated x + n)) else Err PocRange)
    (if number_in_range o (x + n) then in_range h (counts_by o sps h p (x + n)) else Err PocRange)
held_counts (orders.Type0 log2) sps h p x n = refl
held_counts o sps h p x n = in_range_alike (λ k. in_range h (counts_by o sps h p k)) (Err PocRange) x n

pub previous_law : (older : List Past) → (order_count_state older).previous ≡ previous_of older
previous_law [] = refl
previous_law (x ∷ others) = refl

pub counts_law : (sps : Sps) (h : Header) (older : List Past) → counts_after sps h (order_count_state older) ≡ order_counts sps h older
counts_law sps h older =
    rw (previous_law older, offset_law sps h older)
    (held_counts sps.order_count sps h (previous_for h (previous_of older)) (frame_num_offset (picture sps h ∷ older)) h.frame_num)

previous_after_law : (sps : Sps) (h : Header) (older : List Past) → previous_after sps h (order_count_state older).previous ≡ previous_of (picture sps h ∷ older)
previous_after_law sps h older = grind (arith, previous_law older)

pub after_law : (sps : Sps) (h : Header) (older : List Past) → after_picture sps h (order_count_state older) ≡ order_count_state (picture sps h ∷ older)
after_law sps h older = rw (previous_after_law sps h older, offset_law sps h older) refl

-- ---- the order counts after a gap in frame_num

-- one number more, after the number r of round q
next_by : (c : Bool) (b q r m j : ℕ) → nat_lt (r + 1) m ≡ c → r < m → 1 < m → j ≡ q * m + r
    → next_offset (saturated (b + q * m)) r ((j + 1) % m) m ≡ saturated (b + (j + 1) / m * m)
next_by true b q r m j c below some is =
    let more : r + 1 < m = grind (arith, nat_tests) in
    let next : j + 1 ≡ q * m + (r + 1) = omega (arith, is) in
    let number : (j + 1) % m ≡ r + 1 = ap (λ x. x % m) next ∙ mod-mul-add q m (r + 1) more in
    let round : (j + 1) / m ≡ q = ap (λ x. x / m) next ∙ div-mul-add q m (r + 1) more in
    let on : nat_lt (r + 1) r ≡ false = grind (arith, nat_tests) in
    rw (number, round, on) refl
next_by false b q r m j c below some is =
    let full : r + 1 ≡ m = grind (arith, nat_tests) in
    let none : 0 < m = omega arith in
    let next : j + 1 ≡ (q + 1) * m + 0 = omega (arith, is, add-mul q 1 m) in
    let number : (j + 1) % m ≡ 0 = ap (λ x. x % m) next ∙ mod-mul-add (q + 1) m 0 none in
    let round : (j + 1) / m ≡ q + 1 = ap (λ x. x / m) next ∙ div-mul-add (q + 1) m 0 none in
    let anew : nat_lt 0 r ≡ true = grind (arith, nat_tests) in
    let sum : b + q * m + m ≡ b + (q + 1) * m = omega (arith, add-mul q 1 m) in
    rw (number, round, anew) (held_more true (b + q * m) m ∙ ap saturated sum)

next_round : (b m j : ℕ) → 1 < m → next_offset (saturated (b + j / m * m)) (j % m) ((j + 1) % m) m ≡ saturated (b + (j + 1) / m * m)
next_round b m j some =
    let below : j % m < m = mod-lt j (omega arith) in
    next_by (nat_lt (j % m + 1) m) b (j / m) (j % m) m j refl below some (sym (div-add-mod' j m))

abbrev state : OrderCountState → (b m j : ℕ) → OrderCountState
state s b m j = record { previous = s.previous; offset = saturated (b + j / m * m); frame_num = j % m }

is_state : (s : OrderCountState) (b m j : ℕ) → s.offset ≡ saturated (b + j / m * m) → s.frame_num ≡ j % m → s ≡ state s b m j
is_state s b m j e f = rw (sym e, sym f) refl

-- a missing number leaves prevPicOrderCntMsb and prevPicOrderCntLsb
same_previous : (sps : Sps) (k b m j : ℕ) (older : List Past) → state (order_count_state (missing sps k ∷ older)) b m j ≡ state (order_count_state older) b m j
same_previous sps k b m j older = rw (previous_law older) refl

-- n numbers more
numbers_on : (n : ℕ) (sps : Sps) (b j : ℕ) (older : List Past) → 1 < max_frame_num sps
    → (order_count_state older).offset ≡ saturated (b + j / max_frame_num sps * max_frame_num sps) → (order_count_state older).frame_num ≡ j % max_frame_num sps
    → order_count_state (with_missing_from sps (j + 1) n older) ≡ state (order_count_state older) b (max_frame_num sps) (j + n)
numbers_on zero sps b j older some offset number =
    let none : j ≡ j + 0 = omega arith in
    is_state (order_count_state older) b (max_frame_num sps) j offset number
    ∙ ap (λ (k : ℕ). state (order_count_state older) b (max_frame_num sps) k) none
numbers_on (suc n) sps b j older some offset number =
    let m = max_frame_num sps in
    let next : List Past = missing sps ((j + 1) % m) ∷ older in
    let on : saturated (frame_num_offset next) ≡ saturated (b + (j + 1) / m * m) =
    sym (missing_offset sps ((j + 1) % m) older)
    ∙ ap (λ (o : ℕ). next_offset o (order_count_state older).frame_num ((j + 1) % m) m) offset
    ∙ ap (λ (k : ℕ). next_offset (saturated (b + j / m * m)) k ((j + 1) % m) m) number
    ∙ next_round b m j some in
    let same : j + 1 + n ≡ j + suc n = omega arith in
    numbers_on n sps b (j + 1) next some on refl
    ∙ ap (λ (k : ℕ). state (order_count_state next) b m k) same
    ∙ same_previous sps ((j + 1) % m) b m (j + suc n) older

held_again : (x b t : ℕ) → b ≡ saturated x → t ≡ 0 → saturated x ≡ saturated (b + t)
held_again x b t is none = omega (arith, is, none)

pub gaps_count_at_once_so : GapsCountAtOnce
gaps_count_at_once_so sps first n older below some =
    let m = max_frame_num sps in
    let s : OrderCountState = order_count_state older in
    let b : ℕ = next_offset s.offset s.frame_num first m in
    let next : List Past = missing sps (first % m) ∷ older in
    let held : b ≡ saturated (frame_num_offset next) =
    ap (λ (k : ℕ). next_offset s.offset s.frame_num k m) (sym (mod-eq_of_lt below)) ∙ missing_offset sps (first % m) older in
    let none : first / m * m ≡ 0 = ap (λ k. k * m) (div-eq_of_lt below) ∙ zero-mul m in
    numbers_on n sps b first next some (held_again (frame_num_offset next) b (first / m * m) held none) refl
    ∙ same_previous sps (first % m) b m (first + n) older

-- MaxFrameNum is at least 16
pub some_numbers : (k : ℕ) → 1 < 2 ^ (k + 4)
some_numbers k = omega (arith, pow-add 2 k 4, pow_pos k)

pub counted_from : (sps : Sps) (first count last offset reached max : ℕ) (before : OrderCountState) (older : List Past) → GapsCountAtOnce
    → first < max_frame_num sps → 1 < max_frame_num sps → before ≡ order_count_state older → (count ≡ 0 → ⊥)
    → max ≡ max_frame_num sps → last ≡ first + (count - 1) → offset ≡ next_offset before.offset before.frame_num first max → reached ≡ saturated (offset + last / max * max)
    → record { previous = before.previous; offset = reached; frame_num = last % max } ≡ order_count_state (with_missing_from sps first count older)
counted_from sps first zero last offset reached max before older law below some at more max_is last_is offset_is reached_is = absurd (more refl)
counted_from sps first (suc n) last offset reached max before older law below some at more max_is last_is offset_is reached_is =
    let end : last ≡ first + n = omega (arith, last_is) in
    rw (reached_is, offset_is, max_is, end) (ap (after_missing_from (max_frame_num sps) first n) at ∙ sym (law sps first n older below some))

-- ---- worked examples of order counts

abbrev sps_of : OrderCount → Sps
sps_of order = record {
  profile_idc = 66;
  constraint_flags = record {
    constraint_set0_flag = true;
    constraint_set1_flag = true;
    constraint_set2_flag = false;
    constraint_set3_flag = false;
    constraint_set4_flag = false;
    constraint_set5_flag = false;
  };
  reserved_zero_2bits = 0;
  level_idc = 10;
  seq_parameter_set_id = 0;
  log2_max_frame_num_minus4 = 0;
  order_count = order;
  max_num_ref_frames = 1;
  gaps_in_frame_num_value_allowed_flag = false;
  pic_width_in_mbs_minus1 = 0;
  pic_height_in_map_units_minus1 = 0;
  direct_8x8_inference_flag = false;
  frame_cropping = None;
  vui = None;
}

abbrev idr : Header
idr = record {
  nal_ref_idc = 3;
  first_mb_in_slice = 0;
  slice_type = AllI;
  pic_parameter_set_id = 0;
  frame_num = 0;
  idr_pic_id = Some 0;
  order = Type0 0 (pos 0);
  redundant_pic_cnt = None;
  active_override = None;
  num_ref_idx_active = 0;
  modifications = None;
  pred_weight_table = None;
  marking = Some (Idr false false);
  slice_qp_delta = pos 0;
  deblocking = None;
  position = 0;
}

abbrev p_at : (nal_ref_idc frame_num lsb : ℕ) → Header
p_at nal_ref_idc frame_num lsb =
    record idr { nal_ref_idc = nal_ref_idc; slice_type = AllP; frame_num = frame_num; idr_pic_id = None; order = Type0 lsb (pos 0); marking = Some SlidingWindow }

abbrev type0 : Sps
type0 = sps_of (orders.Type0 0)

abbrev both : ℤ → Counts
both z = record { top = z; bottom = z }

second : order_counts type0 (p_at 2 1 4) (picture type0 idr ∷ []) ≡ Ok (both (pos 4))
second = refl

-- 15 after 4 is -1, and 4 after 15 is 20
below : order_counts type0 (p_at 2 1 15) (picture type0 idr ∷ []) ≡ Ok (both (negsuc 0))
below = refl

-- type 2: twice the number, less one for a picture that is no reference
abbrev type2 : Sps
type2 = sps_of orders.Type2

-- frame_num has come round
round : order_counts type2 (p_at 2 0 0) (picture type2 (p_at 2 15 0) ∷ picture type2 idr ∷ []) ≡ Ok (both (pos 32))
round = refl

-- type 1 with the cycle 2, 4
abbrev type1 : Sps
type1 = sps_of (orders.Type1 false (negsuc 0) (pos 1) (pos 2 ∷ pos 4 ∷ []))

-- operation 5: answered from 0 on, and the next picture counts from there
abbrev resetting : Header
resetting = record (p_at 2 3 6) { order = Type0 6 (pos 1); marking = Some (Adaptive (UnmarkAll ∷ [])) }

-- type 2 after operation 5: the count is lowered from 6 to 0, and frame_num counts from 0
abbrev resetting2 : Header
resetting2 = record (p_at 2 3 0) { marking = Some (Adaptive (UnmarkAll ∷ [])) }

-- type 1 without a cycle: the coded differences alone
abbrev bare : Sps
bare = sps_of (orders.Type1 false (negsuc 1) (pos 1) [])

-- ---- worked examples, a row each

record WorkedRows : Type 0 where
  of_idr_alone : order_counts type0 idr [] ≡ Ok (both (pos 0))
  third : order_counts type0 (p_at 0 2 2) (picture type0 (p_at 2 1 4) ∷ picture type0 idr ∷ []) ≡ Ok (both (pos 2))
  above : order_counts type0 (p_at 2 3 4) (picture type0 (p_at 2 2 12) ∷ picture type0 (p_at 2 1 7) ∷ picture type0 idr ∷ []) ≡ Ok (both (pos 20))
  twice : order_counts type2 (p_at 0 1 0) (picture type2 idr ∷ []) ≡ Ok (both (pos 1))
  in_cycle : order_counts type1 (record (p_at 2 3 0) { order = Type1 (pos 0) (pos 0) }) (missing type1 2 ∷ missing type1 1 ∷ picture type1 idr ∷ []) ≡ Ok (record { top = pos 8; bottom = pos 9 })
  reset_counts : order_counts type0 resetting (picture type0 idr ∷ []) ≡ Ok (record { top = pos 0; bottom = pos 1 })
  after_reset : order_counts type0 (p_at 2 1 2) (picture type0 resetting ∷ picture type0 idr ∷ []) ≡ Ok (both (pos 2))
  -- in the cycle, a picture that is no reference: one number less, and its offset
  not_in_cycle : order_counts type1 (record (p_at 0 3 0) { order = Type1 (pos 0) (pos 0) }) (missing type1 2 ∷ missing type1 1 ∷ picture type1 idr ∷ []) ≡ Ok (record { top = pos 5; bottom = pos 6 })
  -- a difference of exactly half of MaxPicOrderCntLsb: up from 12 to 4 (see `above`), but not down from 4 to 12
  half : order_counts type0 (p_at 2 2 12) (picture type0 (p_at 2 1 4) ∷ picture type0 idr ∷ []) ≡ Ok (both (pos 12))
  -- the greatest bottom count, and one more
  greatest : order_counts type0 (record (p_at 2 1 1) { order = Type0 1 (pos 2147483646) }) (picture type0 idr ∷ []) ≡ Ok (record { top = pos 1; bottom = pos 2147483647 })
  too_great : order_counts type0 (record (p_at 2 1 1) { order = Type0 1 (pos 2147483647) }) (picture type0 idr ∷ []) ≡ Err PocRange
  -- in range before it is lowered, and not after
  too_great_lowered : order_counts type0 (record resetting { order = Type0 0 (negsuc 2147483647) }) (picture type0 idr ∷ []) ≡ Err PocRange
  reset2 : order_counts type2 resetting2 (picture type2 idr ∷ []) ≡ Ok (both (pos 0))
  after_reset2 : order_counts type2 (p_at 0 1 0) (picture type2 resetting2 ∷ picture type2 idr ∷ []) ≡ Ok (both (pos 1))
  -- frame number 0 is missing after 15
  missing_round : order_counts type2 (p_at 2 1 0) (missing type2 0 ∷ picture type2 (p_at 2 15 0) ∷ picture type2 idr ∷ []) ≡ Ok (both (pos 34))
  no_cycle : order_counts bare (record (p_at 2 3 0) { order = Type1 (pos 5) (negsuc 1) }) (picture bare idr ∷ []) ≡ Ok (record { top = pos 5; bottom = pos 4 })
  no_cycle_not_reference : order_counts bare (record (p_at 0 3 0) { order = Type1 (pos 5) (negsuc 1) }) (picture bare idr ∷ []) ≡ Ok (record { top = pos 3; bottom = pos 2 })
  -- eight whole cycles of 6 and the first offset: frame number 17
  cycle_round : order_counts type1 (record (p_at 2 1 0) { order = Type1 (pos 0) (pos 0) }) (picture type1 (p_at 2 15 0) ∷ picture type1 idr ∷ []) ≡ Ok (record { top = pos 50; bottom = pos 51 })
  -- seven whole cycles and both offsets, less one for a picture that is no reference
  cycle_round_not_reference : order_counts type1 (record (p_at 0 1 0) { order = Type1 (pos 0) (pos 0) }) (picture type1 (p_at 2 15 0) ∷ picture type1 idr ∷ []) ≡ Ok (record { top = pos 47; bottom = pos 48 })

worked_rows : WorkedRows
worked_rows = search rules
