-- MD5s of pictures, and the other's pictures that are sought among ours.
use Rattle.std.proofs.Common.{◌≡◌, ℕ, zero, suc, ◌+◌, ◌<◌, ◌≤◌, List, [], ◌∷◌, ◌++◌, length, take, drop, refl, sym, ap, ◌∙◌, arith, append_assoc, append-nil, length-append, rules, take_all, ⊎_elim, length-take-le, get_or}
use Rattle.std.specs.Prelude.{Option, true, false, Bool, nat_lt, if◌then◌else◌}
use Rattle.std.specs.List.{cons_option, filter_map, flat_map, range_with_len}
use Rattle.std.proofs.lemmas.Bool.{cases_lt}
use Rattle.std.proofs.lemmas.Bool.Decides.{nat_tests}
use Rattle.std.proofs.lemmas.Grind.{common_steps, flat_map-append}
use Rattle.std.proofs.lemmas.List.{take_more, take-append-le}
use Rattle.std.proofs.lemmas.List.Elements.{filter_map-append}
use Rattle.avc_types.specs.declared.picture.Picture.{Picture as Decoded}
use Rattle.avc_yuv.specs.I420.{i420}
use Rattle.avc_compare.specs.Displaced.{most_sought, pictures_beside}
use Rattle.avc_compare.specs.Running.{kept}

range_split : (a n m : ℕ) → range_with_len a (n + m) ≡ range_with_len a n ++ range_with_len (a + n) m
range_split a zero m = search rules
range_split a (suc n) m = let e : suc n + m ≡ suc (n + m) = omega arith in search (rules, e, range_split (a + 1) n m)

-- one place more
pub found_more : {X : Type 0} (f : ℕ → Option X) (old new : List X) (n : ℕ) → old ≡ filter_map f (range_with_len 0 n) → new ≡ old ++ cons_option (f n) [] → new ≡ filter_map f (range_with_len 0 (n + 1))
found_more f old new n before more =
    let here : cons_option (f (0 + n)) [] ≡ cons_option (f n) [] = ap (λ k. cons_option (f k) []) (omega arith) in
    more ∙ ap (λ l. l ++ cons_option (f n) []) before
    ∙ ap (λ l. filter_map f (range_with_len 0 n) ++ l) (sym here)
    ∙ sym (filter_map-append f (range_with_len 0 n) ((0 + n) ∷ [])) ∙ ap (λ l. filter_map f l) (sym (range_split 0 n 1))

-- the first of one more
pub kept_is : (xs : List (List ℕ)) (d : List ℕ) → kept (take most_sought xs) d ≡ take most_sought (xs ++ d ∷ [])
kept_is xs d = ⊎_elim (few) (many) (cases_lt (length xs) most_sought)
  where
    few : length xs < 17 → kept (take 17 xs) d ≡ take 17 (xs ++ d ∷ [])
    few h =
        let less : nat_lt (length xs) 17 ≡ true = grind (arith, nat_tests) in
        ap (λ l. kept l d) (take_all 17 xs (omega (arith, h))) ∙ ap (λ (b : Bool). if b then xs ++ d ∷ [] else xs) less ∙ sym (take_all 17 (xs ++ d ∷ []) (omega (arith, h, length-append xs (d ∷ []))))

    many : 17 ≤ length xs → kept (take 17 xs) d ≡ take 17 (xs ++ d ∷ [])
    many h =
        let long : length (take 17 xs) ≡ 17 = length-take-le 17 xs h in
        let less : nat_lt (length (take 17 xs)) 17 ≡ false = grind (arith, nat_tests) in
        ap (λ (b : Bool). if b then take 17 xs ++ d ∷ [] else take 17 xs) less ∙ sym (take-append-le 17 xs (d ∷ []) h)

drop-append-le : {A : Type 0} (n : ℕ) (xs ys : List A) → n ≤ length xs → drop n (xs ++ ys) ≡ drop n xs ++ ys
drop-append-le n xs ys h = grind (arith, common_steps)

length-drop-part : {A : Type 0} (n m : ℕ) (xs : List A) → length xs ≡ n + m → length (drop n xs) ≡ m
length-drop-part n m xs h = grind (arith, common_steps)

nothing_there : (xs : List ℕ) → length xs ≡ 0 → xs ≡ []
nothing_there [] h = refl
nothing_there (x ∷ xs) h = absurd (omega (arith, h))

-- the pictures beside some and then others
pub beside_then : (ps qs : List Decoded) (xs ys : List ℕ) → length xs ≡ length (flat_map i420 ps) → pictures_beside (ps ++ qs) (xs ++ ys) ≡ pictures_beside ps xs ++ pictures_beside qs ys
unfolding pictures_beside
beside_then [] qs xs ys h = ap (λ l. pictures_beside qs (l ++ ys)) (nothing_there xs h)
beside_then (p ∷ ps) qs xs ys h =
    let n = length (i420 p) in
    let all : length xs ≡ n + length (flat_map i420 ps) = h ∙ length-append (i420 p) (flat_map i420 ps) in
    let fits : n ≤ length xs = omega (arith, all) in
    let here : nat_lt (length xs) n ≡ false = grind (arith, nat_tests) in
    let longer : length (xs ++ ys) ≡ length xs + length ys = length-append xs ys in
    let there : nat_lt (length (xs ++ ys)) n ≡ false = grind (arith, nat_tests) in
    ap (λ (b : Bool). if b then [] else take n (xs ++ ys) ∷ pictures_beside (ps ++ qs) (drop n (xs ++ ys))) there
    ∙ ap (λ l. l ∷ pictures_beside (ps ++ qs) (drop n (xs ++ ys))) (take-append-le n xs ys fits)
    ∙ ap (λ l. take n xs ∷ pictures_beside (ps ++ qs) l) (drop-append-le n xs ys fits)
    ∙ ap (λ l. take n xs ∷ l) (beside_then ps qs (drop n xs) ys (length-drop-part n (length (flat_map i420 ps)) xs all))
    ∙ ap (λ (b : Bool). (if b then [] else take n xs ∷ pictures_beside ps (drop n xs)) ++ pictures_beside qs ys) (sym here)

-- a line more
pub line_more : {A : Type 0} (line : A → List ℕ) (front old new : List ℕ) (d : A) (items : List A) (i : ℕ) → i < length items → old ≡ front ++ flat_map line (take i items)
    → new ≡ old ++ line (get_or items i d) → new ≡ front ++ flat_map line (take (i + 1) items)
line_more line front old new d items i h before more =
    more ∙ ap (λ l. l ++ line (get_or items i d)) before ∙ append_assoc front (flat_map line (take i items)) (line (get_or items i d))
    ∙ ap (λ l. front ++ l) (ap (λ l. flat_map line (take i items) ++ l) (sym (append-nil (line (get_or items i d))))
    ∙ sym (flat_map-append line (take i items) (get_or items i d ∷ [])) ∙ ap (λ l. flat_map line l) (sym (take_more items i d h)))
