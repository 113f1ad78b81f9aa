-- The front of a stream, units one after the other until decoding can start, and text in columns and parts.
pub mod Common
unfoldable pub use Common.*

-- ---- units are taken one after the other, until decoding can start with one: the first set

first_of-assoc : {A : Type 0} (a b c : Option A) → first_of a (first_of b c) ≡ first_of (first_of a b) c
first_of-assoc a b c = grind arith

pub first-append : (sets : List SetUnit) (us vs : List Unit) → first_sps sets (us ++ vs) ≡ first_of (first_sps sets us) (first_sps (sets ++ set_units us) vs)
first-append sets [] vs = ap (λ l. first_sps l vs) (sym (append-nil sets))
first-append sets (u ∷ us) vs =
    let first = starting_sps (sets_after sets) u in
    let next = sets ++ set_units (u ∷ []) in
    ap (first_of first) (first-append next us vs)
    ∙ first_of-assoc first (first_sps next us) (first_sps (next ++ set_units us) vs)
    ∙ ap (λ l. first_of (first_of first (first_sps next us)) (first_sps l vs)) (sets_then sets u us)

-- where none stands in the front
pub first_behind : (sets : List SetUnit) (us vs : List Unit) → first_sps sets us ≡ None → first_sps sets (us ++ vs) ≡ first_sps (sets ++ set_units us) vs
first_behind sets us vs none = first-append sets us vs ∙ ap (λ o. first_of o (first_sps (sets ++ set_units us) vs)) none

-- what is said stays said
said_first : (a b : Option Sps) (p : Presentation) → IsSaid a (Some p) → IsSaid (first_of a b) (Some p)
said_first a b p said = grind arith

pub said_still : (sets : List SetUnit) (us vs : List Unit) (p : Presentation) → IsSaid (first_sps sets us) (Some p) → IsSaid (first_sps sets (us ++ vs)) (Some p)
said_still sets us vs p said =
    subst (λ o. IsSaid o (Some p)) (sym (first-append sets us vs)) (said_first (first_sps sets us) (first_sps (sets ++ set_units us) vs) p said)

-- nothing is said where there is no set
not_said : (a : Option Sps) → IsSaid a None → a ≡ None
not_said a said = grind arith

-- ---- units that were taken

-- These units were taken, with the sets that they brought, and decoding can start with none of them.
pub record ArePassed (before now : List SetUnit) (done : List Unit) : Type 0 where
  pub sets : now ≡ before ++ set_units done
  pub none : first_sps before done ≡ None

-- the set of one unit more
first_next : (before old : List SetUnit) (u : Unit) (done : List Unit) → ArePassed before old done
    → first_sps before (done ++ u ∷ []) ≡ first_of (starting_sps (sets_after old) u) None
first_next before old u done h =
    first_behind before done (u ∷ []) h.none ∙ ap (λ l. first_of (starting_sps (sets_after l) u) None) (sym h.sets)

pub passed_more : (before old new : List SetUnit) (u : Unit) (said : Option Presentation) → IsSaid (starting_sps (sets_after old) u) said → (is_some said ≡ true → ⊥)
    → new ≡ old ++ set_units (u ∷ []) → (done : List Unit) → ArePassed before old done → ArePassed before new (done ++ u ∷ [])
passed_more before old new u said is none put done h = record {
  sets = set_units_more before old new u done put h.sets;
  none = first_next before old u done h ∙ ap (λ o. first_of o None) (by said is none);
}
  where
    by : (said : Option Presentation) → IsSaid (starting_sps (sets_after old) u) said → (is_some said ≡ true → ⊥) → starting_sps (sets_after old) u ≡ None
    by None is none = not_said (starting_sps (sets_after old) u) is
    by (Some p) is none = absurd (none refl)

first_alone : (a : Option Sps) → first_of a None ≡ a
first_alone a = grind arith

pub found_at : (before old : List SetUnit) (u : Unit) (p : Presentation) → IsSaid (starting_sps (sets_after old) u) (Some p) → (done : List Unit) → ArePassed before old done
    → IsSaid (first_sps before (done ++ u ∷ [])) (Some p)
found_at before old u p is done h =
    subst (λ o. IsSaid o (Some p)) (sym (first_next before old u done h ∙ first_alone (starting_sps (sets_after old) u))) is

-- which is the first of all
pub found_first : (old s new : SplitterState) (next : Option Unit) (u : Unit) (before now later : List SetUnit) (said : Option Presentation) → IsDraining max_unit old s (ArePassed before now) → old.failed ≡ false
    → next ≡ next_unit_of max_unit s → new ≡ after_next_unit s next → next ≡ Some u → IsSaid (starting_sps (sets_after now) u) said → is_some said ≡ true → IsFound old new before later said
found_first old s new next u before now later None i going gives takes is told some = cc
found_first old s new next u before now later (Some p) i going gives takes is told some =
    let d = one_more max_unit old s new next u (ArePassed before now) (λ done. IsSaid (first_sps before done) (Some p)) i going gives takes is (found_at before now u p told) in
    subst (λ us. IsSaid (first_sps before us) (Some p)) (sym d.rest) (said_still before d.done (units_left max_unit new) p d.so_far)

-- ---- the front of a stream, piece after piece

-- the units of the bytes
units_are : (unread left : Option (List ℕ)) (bytes : List ℕ) (s : SplitterState) (sets : List SetUnit) → IsLooking unread left bytes s sets
    → units max_unit s.bytes s.ended ≡ units max_unit bytes false
units_are unread left bytes s sets i = ap (λ bs. units max_unit bs s.ended) i.bytes_are ∙ ap (λ e. units max_unit bytes e) i.open_end

-- with those that came more
set_of_more : (unread left : Option (List ℕ)) (bytes : List ℕ) (s mid : SplitterState) (sets : List SetUnit) → IsLooking unread left bytes s sets → AreLeft max_unit s mid
    → first_sps [] (units max_unit mid.bytes mid.ended) ≡ first_sps sets (units_left max_unit mid)
set_of_more unread left bytes s mid sets i more =
    let before = units max_unit bytes false in
    let here = units_left max_unit mid in
    ap (first_sps []) (more.all ∙ ap (λ us. us ++ here) (units_are unread left bytes s sets i))
    ∙ first_behind [] before here i.none
    ∙ ap (λ l. first_sps l here) (sym i.sets_are)

-- fed with a piece
fed_bytes : (s mid : SplitterState) (piece : List ℕ) → s.ended ≡ false → mid ≡ after_feed s piece → mid ≡ record s { bytes = s.bytes ++ piece }
fed_bytes s mid piece going is = is ∙ ap (λ e. if e then s else record s { bytes = s.bytes ++ piece }) going

-- by one read more
reads_more : (unread left : Option (List ℕ)) (bytes piece bytes' : List ℕ) (s : SplitterState) (sets : List SetUnit) → IsLooking unread left bytes s sets → length bytes < 134217728 → length piece ≤ 65536
    → bytes' ≡ bytes ++ piece → ReadsFront bytes' false
reads_more unread left bytes piece bytes' s sets i fewer short all = record {
  before = bytes;
  last = piece;
  parts = all;
  short = short;
  none = λ is. cc;
  unseen = i.none;
  fewer = fewer;
}

-- by one that gives nothing
reads_nothing : (unread left : Option (List ℕ)) (bytes : List ℕ) (s : SplitterState) (sets : List SetUnit) → IsLooking unread left bytes s sets → length bytes < 134217728 → ReadsFront bytes true
reads_nothing unread left bytes s sets i fewer = record {
  before = bytes;
  last = [];
  parts = sym (append-nil bytes);
  short = omega arith;
  none = λ is. refl;
  unseen = i.none;
  fewer = fewer;
}

pub looking_more : UnitsStay → (unread left left' : Option (List ℕ)) (bytes piece bytes' : List ℕ) (s mid new : SplitterState) (sets now : List SetUnit) (said : Option Presentation)
    → length bytes < 134217728 → length piece ≤ 65536 → IsLooking unread left bytes s sets → Consumes left left' piece → bytes' ≡ bytes ++ piece → mid ≡ after_feed s piece → IsFound mid new sets now said → said ≡ None
    → IsLooking unread left' bytes' new now
looking_more stay unread left left' bytes piece bytes' s mid new sets now said fewer short i more all fed is none =
    let found : IsFound mid new sets now None = subst (IsFound mid new sets now) none is in
    let left = left_by_feed stay max_unit s mid piece i.drained fed in
    let fed_is = fed_bytes s mid piece i.open_end fed in
    let here = units_left max_unit mid in
    let mid_bytes : mid.bytes ≡ bytes' = ap (λ t. t.bytes) fed_is ∙ ap (λ bs. bs ++ piece) i.bytes_are ∙ sym all in
    let mid_open : mid.ended ≡ false = ap (λ t. t.ended) fed_is ∙ i.open_end in
    let units_now : units max_unit bytes' false ≡ units max_unit bytes false ++ here =
    sym (ap (λ bs. units max_unit bs mid.ended) mid_bytes ∙ ap (λ e. units max_unit bytes' e) mid_open) ∙ left.all
    ∙ ap (λ us. us ++ here) (units_are unread _ bytes s sets i) in
    record {
      consumed = subst (Consumes unread left') (sym all) (Consumes-trans unread _ left' bytes piece i.consumed more);
      drained = drained max_unit s mid new left found.2;
      open_end = ap (λ t. t.ended) found.2 ∙ mid_open;
      bytes_are = ap (λ t. t.bytes) found.2 ∙ mid_bytes;
      sets_are =
          found.1 ∙ ap (λ l. l ++ set_units here) i.sets_are
          ∙ sym (set_units-append (units max_unit bytes false) here) ∙ ap set_units (sym units_now);
      none =
          sym (ap (λ bs. first_sps [] (units max_unit bs mid.ended)) mid_bytes ∙ ap (λ e. stream_sps bytes' e) mid_open)
          ∙ set_of_more unread _ bytes s mid sets i left ∙ found.0;
      reads = λ some. reads_more unread _ bytes piece bytes' s sets i fewer short all;
    }

-- ---- the front is there

says_of : (o : Option Sps) (p : Presentation) → IsSaid o (Some p) → Says o p
says_of o p said = grind arith

some_said : (o : Option Sps) (p : Presentation) → IsSaid o (Some p) → o ≡ None → ⊥
some_said o p said none = grind arith

says_nothing : (o : Option Sps) → o ≡ None → Says o no_presentation
says_nothing o none = rw none refl

pub front_found : UnitsStay → (unread left left' : Option (List ℕ)) (bytes piece bytes' : List ℕ) (s mid new : SplitterState) (sets now : List SetUnit) (said : Option Presentation) (p : Presentation)
    → length bytes < 134217728 → length piece ≤ 65536 → IsLooking unread left bytes s sets → Consumes left left' piece → bytes' ≡ bytes ++ piece → mid ≡ after_feed s piece
    → IsFound mid new sets now said → said ≡ Some p → IsFront unread left' bytes' p
front_found stay unread left left' bytes piece bytes' s mid new sets now told p fewer short i more all fed is some =
    let found : IsFound mid new sets now (Some p) = subst (IsFound mid new sets now) some is in
    let left = left_by_feed stay max_unit s mid piece i.drained fed in
    let fed_is = fed_bytes s mid piece i.open_end fed in
    let mid_bytes : mid.bytes ≡ bytes' = ap (λ t. t.bytes) fed_is ∙ ap (λ bs. bs ++ piece) i.bytes_are ∙ sym all in
    let mid_open : mid.ended ≡ false = ap (λ t. t.ended) fed_is ∙ i.open_end in
    let set_is : stream_sps bytes' false ≡ first_sps sets (units_left max_unit mid) =
    sym (ap (λ bs. first_sps [] (units max_unit bs mid.ended)) mid_bytes ∙ ap (λ e. stream_sps bytes' e) mid_open)
    ∙ set_of_more unread _ bytes s mid sets i left in
    let said = subst (λ o. IsSaid o (Some p)) (sym set_is) found in
    record {
      all = false;
      has_read = record { consumed = subst (Consumes unread left') (sym all) (Consumes-trans unread _ left' bytes piece i.consumed more); whole = λ is. cc };
      says = says_of (stream_sps bytes' false) p said;
      enough = λ _ none. absurd (some_said (stream_sps bytes' false) p said none);
      reads = reads_more unread _ bytes piece bytes' s sets i fewer short all;
    }

pub front_ended : UnitsStay → (unread left left' : Option (List ℕ)) (bytes piece : List ℕ) (len : ℕ) (s mid new : SplitterState) (sets now : List SetUnit) (said : Option Presentation) (p : Presentation)
    → length bytes < 134217728 → IsLooking unread left bytes s sets → len ≡ 0 → Consumes left left' (take len piece) → IsAtEnd left' → mid ≡ after_finish s → IsFound mid new sets now said
    → p ≡ unwrap_or said no_presentation → IsFront unread left' bytes p
front_ended stay unread left left' bytes piece len s mid new sets now said p fewer i none more end finished found is_p =
    let left = left_by_finish stay max_unit s mid i.drained finished in
    let mid_bytes : mid.bytes ≡ bytes = ap (λ t. t.bytes) finished ∙ i.bytes_are in
    let mid_ended : mid.ended ≡ true = ap (λ t. t.ended) finished in
    let set_is : stream_sps bytes true ≡ first_sps sets (units_left max_unit mid) =
    sym (ap (λ bs. first_sps [] (units max_unit bs mid.ended)) mid_bytes ∙ ap (λ e. stream_sps bytes e) mid_ended)
    ∙ set_of_more unread _ bytes s mid sets i left in
    record {
      all = true;
      has_read = record { consumed = nothing_more unread _ left' bytes piece len i.consumed none more; whole = λ is. end };
      says = subst (Says (stream_sps bytes true)) (sym is_p) (by said found set_is);
      enough = λ is. cc;
      reads = reads_nothing unread _ bytes s sets i fewer;
    }
  where
    by : (said : Option Presentation) → IsFound mid new sets now said → stream_sps bytes true ≡ first_sps sets (units_left max_unit mid) → Says (stream_sps bytes true) (unwrap_or said no_presentation)
    by None found set_is = says_nothing (stream_sps bytes true) (set_is ∙ found.0)
    by (Some p) found set_is = says_of (stream_sps bytes true) p (subst (λ o. IsSaid o (Some p)) (sym set_is) found)

-- ---- there is none

pub unread_on : (unread left left' : Option (List ℕ)) (bytes : List ℕ) (s : SplitterState) (sets : List SetUnit) (fault : RunFault) → length bytes < 134217728
    → IsLooking unread left bytes s sets → Keeps left left' → fault ≡ Read → NoFront fault unread left'
unread_on unread left left' bytes s sets fault fewer i kept is =
    rw is (bytes, Consumes-kept unread left left' bytes i.consumed kept, reads_nothing unread left bytes s sets i fewer)

pub no_memory : (unread left left' : Option (List ℕ)) (bytes : List ℕ) (s : SplitterState) (sets : List SetUnit) (piece : List ℕ) (fault : RunFault) → length bytes < 134217728
    → length piece ≤ 65536 → IsLooking unread left bytes s sets → Consumes left left' piece → fault ≡ Memory → NoFront fault unread left'
no_memory unread left left' bytes s sets piece fault fewer short i more is =
    rw is (bytes ++ piece, Consumes-trans unread left left' bytes piece i.consumed more, reads_more unread left bytes piece (bytes ++ piece) s sets i fewer short refl)

-- so many were looked at
some_read : (bytes : List ℕ) → 134217728 ≤ length bytes → bytes ≡ [] → ⊥
some_read [] many is = omega (arith, many)
some_read (b ∷ bytes) many is = cc

pub all_looked_at : (unread left : Option (List ℕ)) (bytes : List ℕ) (s : SplitterState) (sets : List SetUnit) (p : Presentation) → IsLooking unread left bytes s sets → 134217728 ≤ length bytes
    → p ≡ no_presentation → IsFront unread left bytes p
all_looked_at unread left bytes s sets p i many is = record {
  all = false;
  has_read = record { consumed = i.consumed; whole = λ all. cc };
  says = subst (Says (stream_sps bytes false)) (sym is) (says_nothing (stream_sps bytes false) i.none);
  enough = λ _ none. many;
  reads = i.reads (some_read bytes many);
}

-- ---- text that is joined in steps

pub joined_shape : (t x w y h z r a s t1 t2 t3 t4 : List ℕ) → t1 ≡ t ++ (x ++ (w ++ (y ++ (h ++ z)))) → t2 ≡ t1 ++ r → t3 ≡ t2 ++ a → t4 ≡ t3 ++ s
    → t4 ≡ t ++ (((((((x ++ w) ++ y) ++ h) ++ z) ++ r) ++ a) ++ s)
joined_shape t x w y h z r a s t1 t2 t3 t4 e1 e2 e3 e4 = rw (e4, e3, e2, e1) (simp append_assoc)

pub joined_four : (t a b c d t1 t2 t3 t4 b' c' : List ℕ) → t1 ≡ t ++ a → t2 ≡ t1 ++ b' → b' ≡ b → t3 ≡ t2 ++ c' → c' ≡ c → t4 ≡ t3 ++ d
    → t4 ≡ t ++ (((a ++ b) ++ c) ++ d)
joined_four t a b c d t1 t2 t3 t4 b' c' e1 e2 is_b e3 is_c e4 = rw (e4, e3, is_c, e2, is_b, e1) (simp append_assoc)

pub joined_six : (t a b c d e f t1 t2 t3 t4 t5 t6 : List ℕ) → t1 ≡ t ++ a → t2 ≡ t1 ++ b → t3 ≡ t2 ++ c → t4 ≡ t3 ++ d → t5 ≡ t4 ++ e → t6 ≡ t5 ++ f
    → t6 ≡ t ++ (((((a ++ b) ++ c) ++ d) ++ e) ++ f)
joined_six t a b c d e f t1 t2 t3 t4 t5 t6 e1 e2 e3 e4 e5 e6 = rw (e6, e5, e4, e3, e2, e1) (simp append_assoc)

-- ---- what is written in two parts

-- a fault in the second
pub second_broken : (old mid new : Option (List ℕ)) (a b : List ℕ) (n : ℕ) → Appends old mid a → n < length b → Appends mid new (take n b) → WritesFirst old new (a ++ b)
second_broken old mid new a b n first fewer second = stopped_after old mid new a b first (record { count = n; fewer = fewer; written = second })

-- as the result says it
pub err_with : {A : Type 0} (r : Result A RunFault) (f : RunFault) (holds : RunFault → Type 0) → IsErrAnd r (λ e. e ≡ f) → holds f → IfErr r holds
err_with (Ok a) f holds is h = absurd is
err_with (Err e) f holds is h = subst holds (sym is) h

-- nothing of a text that ends a line
pub none_of_line : (old : Option (List ℕ)) (a b : List ℕ) → WritesFirst old old (a ++ (b ++ newline))
none_of_line old a b = record {
  count = 0;
  fewer = omega (arith, length-append a (b ++ newline), length-append b newline);
  written = Appends-nil old;
}

-- a fault of writing this text
pub text_stopped : (r : Result (Prim.Unit {0}) RunFault) (old new : Option (List ℕ)) (written text : List ℕ) → written ≡ text
    → IfErr r (λ fault. (fault ≡ Write) × WritesFirst old new written) → IfErr r (λ fault. StopsPicture fault true old new text)
text_stopped (Ok done) old new written text is h = tt
text_stopped (Err fault) old new written text is (by_write, first) =
    subst (λ f. StopsPicture f true old new text) (sym by_write) (subst (WritesFirst old new) is first)

-- ---- numbers in columns

spaces : (n : ℕ) → repeat {A = ℕ} n (32 ∷ []) ≡ replicate n 32
spaces zero = refl
spaces (suc n) = ap (λ l. 32 ∷ l) (spaces n)

no_chars : char_count [] ≡ 0
unfolding char_count
no_chars = refl

filled : (numeral : List ℕ) (count width : ℕ) → count ≡ width - length numeral
    → repeat {A = ℕ} count (32 ∷ []) ++ [] ++ [] ++ [] ++ (numeral ++ repeat {A = ℕ} (count - count) (32 ∷ [])) ≡ replicate (width - length numeral) 32 ++ numeral
filled numeral count width is =
    let none : count - count ≡ 0 = omega arith in
    rw (none, spaces count, is) (simp append-nil)

padded_right : (width : ℕ) (numeral : List ℕ)
    → padded_integral (format_spec 32 3 0 width (2 ^ 64 - 1)) false [] numeral ≡ replicate (width - length numeral) 32 ++ numeral
unfolding padded_integral lib.Utf8.encode
padded_right width numeral = filled numeral (width - length numeral - 0 - char_count []) width (omega (arith, no_chars))

-- what `{n:>10}` and `{n:>8}` write
pub column_10 : (n : ℕ) → styled_decimal (format_spec 32 3 0 10 (2 ^ 64 - 1)) n ≡ column 10 n
column_10 n = padded_right 10 (decimal n)

pub column_8 : (n : ℕ) → styled_decimal (format_spec 32 3 0 8 (2 ^ 64 - 1)) n ≡ column 8 n
column_8 n = padded_right 8 (decimal n)
