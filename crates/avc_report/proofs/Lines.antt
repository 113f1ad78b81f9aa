-- Lines of text, one behind another.
use Rattle.std.proofs.Common.{◌≡◌, ℕ, zero, suc, ◌+◌, ◌*◌, ◌<◌, ◌≤◌, List, [], ◌∷◌, ◌++◌, length, take, get_or, refl, sym, ap, ◌∙◌, arith, append_assoc, append-nil, rules, mul-le-mul_right}
use Rattle.std.proofs.lemmas.Grind.{flat_map-append}
use Rattle.std.proofs.lemmas.List.{take_more}
use Rattle.std.specs.List.{flat_map, range_with_len}
use Rattle.std.specs.Prelude.{codes, true, false}
use Rattle.avc_report.specs.Text.{map_lines}
use Rattle.avc_difference.specs.declared.marks.Mark.{Mark}

-- one item more
pub item_more : {A : Type 0} (line : A → List ℕ) (front old new : List ℕ) (d : A) (items : List A) (i : ℕ) → i < length items → old ≡ front ++ flat_map line (take i items)
    → new ≡ old ++ line (get_or items i d) → new ≡ front ++ flat_map line (take (i + 1) items)
item_more line front old new d items i h before more =
    more ∙ ap (λ l. l ++ line (get_or items i d)) before ∙ append_assoc front (flat_map line (take i items)) (line (get_or items i d))
    ∙ ap (λ l. front ++ l) (ap (λ l. flat_map line (take i items) ++ l) (sym (append-nil (line (get_or items i d))))
    ∙ sym (flat_map-append line (take i items) (get_or items i d ∷ [])) ∙ ap (λ l. flat_map line l) (sym (take_more items i d h)))

range_split : (a n m : ℕ) → range_with_len a (n + m) ≡ range_with_len a n ++ range_with_len (a + n) m
range_split a zero m = search rules
range_split a (suc n) m = let e : suc n + m ≡ suc (n + m) = omega arith in search (rules, e, range_split (a + 1) n m)

-- one row more
pub row_more : (line : ℕ → List ℕ) (front old new : List ℕ) (n : ℕ) → old ≡ front ++ flat_map line (range_with_len 0 n) → new ≡ old ++ line n → new ≡ front ++ flat_map line (range_with_len 0 (n + 1))
row_more line front old new n before more =
    let here : line (0 + n) ≡ line n = ap line (omega arith) in
    more ∙ ap (λ l. l ++ line n) before ∙ append_assoc front (flat_map line (range_with_len 0 n)) (line n)
    ∙ ap (λ l. front ++ l) (ap (λ l. flat_map line (range_with_len 0 n) ++ l) (sym (append-nil (line (0 + n)) ∙ here))
    ∙ sym (flat_map-append line (range_with_len 0 n) ((0 + n) ∷ [])) ∙ ap (λ l. flat_map line l) (sym (range_split 0 n 1)))

-- a row lies inside the picture
pub row_inside : (row rows columns : ℕ) → row < rows → row * columns + columns ≤ rows * columns
row_inside row rows columns h = let all = mul-le-mul_right columns h in omega (arith, all)

-- ---- parts of a text

pub joined_two : (all old one two a b : List ℕ) → one ≡ old ++ a → two ≡ one ++ b → all ≡ a ++ b → two ≡ old ++ all
joined_two all old one two a b p q e = q ∙ ap (λ l. l ++ b) p ∙ append_assoc old a b ∙ ap (λ l. old ++ l) (sym e)

pub joined_three : (all old one two three a b c : List ℕ) → one ≡ old ++ a → two ≡ one ++ b → three ≡ two ++ c → all ≡ a ++ (b ++ c) → three ≡ old ++ all
joined_three all old one two three a b c p q r e =
    joined_two all old one three a (b ++ c) p (r ∙ ap (λ l. l ++ c) q ∙ append_assoc one b c) e

pub joined_five : (all old one two three four five a b c d e : List ℕ) → one ≡ old ++ a → two ≡ one ++ b → three ≡ two ++ c → four ≡ three ++ d → five ≡ four ++ e
    → all ≡ a ++ (b ++ (c ++ (d ++ e))) → five ≡ old ++ all
joined_five all old one two three four five a b c d e p q r s t is =
    joined_three all old one two five a b (c ++ (d ++ e)) p q (joined_three (c ++ (d ++ e)) two three four five c d e r s t refl) is

pub nine_parts : (a b c d e f g h i : List ℕ) → a ++ b ++ c ++ d ++ e ++ f ++ g ++ h ++ i ≡ a ++ (b ++ (c ++ (d ++ (e ++ (f ++ (g ++ (h ++ i)))))))
nine_parts a b c d e f g h i = simp append_assoc

pub seven_parts : (a n b y u v l : List ℕ) → ((((((a ++ n) ++ b) ++ y) ++ u) ++ v) ++ l) ≡ (a ++ (n ++ b)) ++ (y ++ (u ++ (v ++ l)))
seven_parts a n b y u v l = simp append_assoc

-- ---- a worked example: a map of macroblocks

abbrev nothing : Mark
nothing = record { luma = false; chroma = false }

-- two rows of three macroblocks
map : map_lines 3 2 (nothing ∷ record { luma = true; chroma = false } ∷ nothing ∷ record { luma = false; chroma = true } ∷ nothing ∷ record { luma = true; chroma = true } ∷ []) ≡ codes ".L.\nC.B\n"
map = refl
