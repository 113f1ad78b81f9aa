-- Codewords, the tables in which they are looked up, and the values that they have.
pub mod Common
unfoldable pub use Common.*
use Rattle.avc_types.specs.declared.fault.Fault.TheVariants as faults

-- ---- codewords at the front of bits, and looking them up in a table

-- the bits are the word and what is left after it
pub after_word-some : (word bits left : List Bool) → after_word word bits ≡ Some left → bits ≡ word ++ left
after_word-some (true ∷ word) (true ∷ bits) left e = ap (λ l. true ∷ l) (after_word-some word bits left e)
after_word-some (false ∷ word) (false ∷ bits) left e = ap (λ l. false ∷ l) (after_word-some word bits left e)
after_word-some word bits left e = cc

pub after_word-append : (word left : List Bool) → after_word word (word ++ left) ≡ Some left
after_word-append [] left = refl
after_word-append (true ∷ word) left = after_word-append word left
after_word-append (false ∷ word) left = after_word-append word left

-- more bits behind
pub after_word-more : (word bits more left : List Bool) → after_word word bits ≡ Some left → after_word word (bits ++ more) ≡ Some (left ++ more)
after_word-more [] bits more left e = let same : bits ≡ left = cc in rw same refl
after_word-more (true ∷ word) (true ∷ bits) more left e = after_word-more word bits more left e
after_word-more (false ∷ word) (false ∷ bits) more left e = after_word-more word bits more left e
after_word-more word bits more left e = cc

pub is_prefix-append : (word left : List Bool) → is_prefix word (word ++ left) ≡ true
is_prefix-append word left = rw (after_word-append word left, is_prefix) refl

pub is_prefix-true : (word bits : List Bool) → is_prefix word bits ≡ true → (left : List Bool) × (bits ≡ word ++ left)
is_prefix-true word bits = by_answer (after_word word bits) refl
  where
    by_answer : (o : Option (List Bool)) → after_word word bits ≡ o → is_prefix word bits ≡ true → (left : List Bool) × (bits ≡ word ++ left)
    by_answer (Some left) e p = (left, after_word-some word bits left e)
    by_answer None e p = let q : false ≡ true = rw (e, is_prefix) at p in cc

-- a codeword that the bits begin with
pub record IsFound {A : Type 0} (table : Table A) (bits : List Bool) (value : A) (size : ℕ) (left : List Bool) : Type 0 where
  pub word : List Bool
  pub is_word : IsIn table word value
  pub is_front : bits ≡ word ++ left
  pub is_size : size ≡ length word

pub found_later : {A : Type 0} (entry : List Bool × A) (table : Table A) (bits : List Bool) (value : A) (size : ℕ) (left : List Bool) → IsFound table bits value size left → IsFound (entry ∷ table) bits value size left
found_later entry table bits value size left f = record { word = f.word; is_word = inr f.is_word; is_front = f.is_front; is_size = f.is_size }

-- the first entry is found, or passed
pub lookup-here : {A : Type 0} (entry : List Bool × A) (table : Table A) (bits left : List Bool) → after_word entry.0 bits ≡ Some left → lookup (entry ∷ table) bits ≡ Some (entry.1, length entry.0, left)
lookup-here entry table bits left e = ap (λ o. elim o [ Some left ↦ Some (entry.1, length entry.0, left) | None ↦ lookup table bits ]) e

pub lookup-past : {A : Type 0} (entry : List Bool × A) (table : Table A) (bits : List Bool) → after_word entry.0 bits ≡ None → lookup (entry ∷ table) bits ≡ lookup table bits
lookup-past entry table bits e = ap (λ o. elim o [ Some left ↦ Some (entry.1, length entry.0, left) | None ↦ lookup table bits ]) e

-- what holds of the first entry that is found, and of the others where it is passed, holds of the table
pub lookup_by : {A : Type 0} (entry : List Bool × A) (table : Table A) (bits : List Bool) (P : Option (A × ℕ × List Bool) → Type 0) →
    ((left : List Bool) → after_word entry.0 bits ≡ Some left → P (Some (entry.1, length entry.0, left))) → (after_word entry.0 bits ≡ None → P (lookup table bits)) → P (lookup (entry ∷ table) bits)
lookup_by {A} entry table bits P here past = search (rules)

pub lookup-some : {A : Type 0} (table : Table A) (bits : List Bool) (f : A × ℕ × List Bool) → lookup table bits ≡ Some f → IsFound table bits f.0 f.1 f.2
lookup-some [] bits f e = cc
lookup-some (entry ∷ table) bits f e = lookup_by entry table bits (λ o. o ≡ Some f → IsFound (entry ∷ table) bits f.0 f.1 f.2)
    (λ left a p. let r : (entry.1, length entry.0, left) ≡ f = cc in rw (← r) (record { word = entry.0; is_word = inl (refl, refl); is_front = after_word-some entry.0 bits left a; is_size = refl }))
    (λ a p. found_later entry table bits f.0 f.1 f.2 (lookup-some table bits f p))
    e

pub lookup-none : {A : Type 0} (table : Table A) (bits word left : List Bool) (value : A) → lookup table bits ≡ None → IsIn table word value → bits ≡ word ++ left → ⊥
lookup-none [] bits word left value e is same = is
lookup-none (entry ∷ table) bits word left value e is same = lookup_by entry table bits (λ o. o ≡ None → ⊥)
    (λ rest a p. cc)
    (λ a p. elim is [
      | inl here ↦
          let q : after_word entry.0 bits ≡ Some left = rw (same, here.0) (after_word-append entry.0 left) in
          cc
      | inr there ↦ lookup-none table bits word left value p there same
    ])
    e

-- ---- reading by a table: its three answers, and that they are those of the set of its codewords

pub record IsBegun {A : Type 0} (table : Table A) (bits : List Bool) : Type 0 where
  pub word : List Bool
  pub value : A
  pub left : List Bool
  pub is_word : IsIn table word value
  pub is_longer : word ≡ bits ++ left

pub begins-first : {A : Type 0} (entry : List Bool × A) (table : Table A) (bits : List Bool) (answer : Bool) → is_prefix bits entry.0 ≡ answer → begins (entry ∷ table) bits ≡ (answer || begins table bits)
begins-first entry table bits answer e = ap (λ t. t || begins table bits) e

pub begins-true : {A : Type 0} (table : Table A) (bits : List Bool) → begins table bits ≡ true → IsBegun table bits
begins-true [] bits p = cc
begins-true {A} (entry ∷ table) bits p = by_answer (is_prefix bits entry.0) refl (begins-true table bits) p
  where
    by_answer : (answer : Bool) → is_prefix bits entry.0 ≡ answer → (begins table bits ≡ true → IsBegun table bits) → begins (entry ∷ table) bits ≡ true → IsBegun (entry ∷ table) bits
    by_answer true e later p =
        let f : (left : List Bool) × (entry.0 ≡ bits ++ left) = is_prefix-true bits entry.0 e in
        record { word = entry.0; value = entry.1; left = f.0; is_word = inl (refl, refl); is_longer = f.1 }
    by_answer false e later p =
        let f : IsBegun table bits = later (sym (begins-first entry table bits false e) ∙ p) in
        record { word = f.word; value = f.value; left = f.left; is_word = inr f.is_word; is_longer = f.is_longer }

pub begins-false : {A : Type 0} (table : Table A) (bits word left : List Bool) (value : A) → begins table bits ≡ false → IsIn table word value → word ≡ bits ++ left → ⊥
begins-false [] bits word left value p is same = is
begins-false (entry ∷ table) bits word left value p (inl here) same = search (rules, is_prefix-append, or_parts)
begins-false (entry ∷ table) bits word left value p (inr there) same = begins-false table bits word left value (or_parts _ _ p).1 there same

-- ---- the three answers

pub code-found : {A : Type 0} (table : Table A) (b : Bits) (f : A × ℕ × List Bool) → lookup table b.ahead ≡ Some f → table_code table b ≡ Ok (f.0, record { position = b.position + f.1; ahead = f.2 })
code-found table b f e = rw (table_code, e) refl

pub code-none : {A : Type 0} (table : Table A) (b : Bits) (answer : Bool) → lookup table b.ahead ≡ None → begins table b.ahead ≡ answer → table_code table b ≡ (elim answer [ true ↦ Err faults.Truncated | false ↦ Err faults.BadCode ])
code-none table b answer e p = rw (table_code, e) (ap (λ a. elim a [ true ↦ Err faults.Truncated | false ↦ Err faults.BadCode ]) p)

-- ---- the set of codewords

-- no codeword is in front of the bits, and one begins with them
cut_short : {A : Type 0} (table : Table A) (b : Bits) → lookup table b.ahead ≡ None → (word left : List Bool) (value : A) → IsIn table word value → word ≡ b.ahead ++ left → IsCutShort (IsIn table) b
cut_short table b none word [] value is same = absurd (lookup-none table b.ahead word [] value none is (sym (append-nil b.ahead) ∙ sym same ∙ sym (append-nil word)))
cut_short table b none word (next ∷ others) value is same = record { value = value; next = next; others = others; is_word = rw same at is }

pub table_read : {A : Type 0} (table : Table A) → IsTableRead table
table_read {A} table b = by_lookup (lookup table b.ahead) refl
  where
    by_begins : lookup table b.ahead ≡ None → (answer : Bool) → begins table b.ahead ≡ answer → IsReadBy (IsIn table) faults.BadCode b (table_code table b)
    by_begins e true p =
        let f : IsBegun table b.ahead = begins-true table b.ahead p in
        rw (code-none table b true e p) (cut_short table b e f.word f.left f.value f.is_word f.is_longer)
    by_begins e false p = rw (code-none table b false e p) (
      refl,
      (λ cut. begins-false table b.ahead (b.ahead ++ cut.next ∷ cut.others) (cut.next ∷ cut.others) cut.value p cut.is_word refl),
      (λ value left takes. lookup-none table b.ahead takes.word left.ahead value e takes.is_word takes.ahead),
    )

    by_lookup : (o : Option (A × ℕ × List Bool)) → lookup table b.ahead ≡ o → IsReadBy (IsIn table) faults.BadCode b (table_code table b)
    by_lookup None e = by_begins e (begins table b.ahead) refl
    by_lookup (Some f) e =
        let found = lookup-some table b.ahead f e in
        rw (code-found table b f e) (record { word = found.word; is_word = found.is_word; ahead = found.is_front; position = ap (λ n. b.position + n) found.is_size })

-- ---- no codeword begins another

-- the test of an entry against those after it
abbrev is_apart : {A : Type 0} → List Bool × A → Table A → Bool
is_apart entry table = list_all (λ other. not (is_prefix entry.0 other.0 || is_prefix other.0 entry.0)) table

pub tests : {A : Type 0} (entry : List Bool × A) (table : Table A) → is_prefix_free (entry ∷ table) ≡ true → (is_apart entry table ≡ true) × (is_prefix_free table ≡ true)
tests entry table test = and_parts (is_apart entry table) (is_prefix_free table) test

-- the test at one codeword of the table
pub apart : {A : Type 0} (entry : List Bool × A) (table : Table A) (word : List Bool) (value : A) →
    is_apart entry table ≡ true → IsIn table word value → not (is_prefix entry.0 word || is_prefix word entry.0) ≡ true
apart entry [] word value test is = absurd is
apart entry (other ∷ table) word value test (inl here) =
    rw here.0 ((and_parts (not (is_prefix entry.0 other.0 || is_prefix other.0 entry.0)) (is_apart entry table) test).0)
apart entry (other ∷ table) word value test (inr there) =
    apart entry table word value ((and_parts (not (is_prefix entry.0 other.0 || is_prefix other.0 entry.0)) (is_apart entry table) test).1) there

pub not_first : (a b : Bool) → not (a || b) ≡ true → a ≡ true → ⊥
not_first a b e f = let g : not (true || b) ≡ true = rw f at e in cc

pub not_second : (a b : Bool) → not (a || b) ≡ true → b ≡ true → ⊥
not_second true b e f = cc
not_second false b e f = let g : not b ≡ true = e in let h : not true ≡ true = rw f at g in cc

no_more : (word more : List Bool) → word ≡ word ++ more → more ≡ []
no_more word [] same = refl
no_more word (m ∷ more) same = absurd (omega (arith, ap length same, length-append word (m ∷ more)))

pub prefix_free : {A : Type 0} (table : Table A) → is_prefix_free table ≡ true → IsPrefixFree (IsIn table)
prefix_free [] test word more value other is longer = absurd is
prefix_free (entry ∷ table) test word more value other (inl is) (inl longer) = no_more word more (is.0 ∙ sym longer.0)
prefix_free (entry ∷ table) test word more value other (inl is) (inr longer) =
    absurd (not_first (is_prefix entry.0 (word ++ more)) (is_prefix (word ++ more) entry.0) (apart entry table (word ++ more) other (tests entry table test).0 longer) (rw (← is.0) (is_prefix-append word more)))
prefix_free (entry ∷ table) test word more value other (inr is) (inl longer) =
    absurd (not_second (is_prefix entry.0 word) (is_prefix word entry.0) (apart entry table word value (tests entry table test).0 is) (rw (← longer.0) (is_prefix-append word more)))
prefix_free (entry ∷ table) test word more value other (inr is) (inr longer) = prefix_free table (tests entry table test).1 word more value other is longer

-- ---- tests of the tables that the checker computes

-- what holds of each class of nC that is no chroma DC
pub each_class : (P : Table Token → Type 0) → P (tokens coeff_token_0) → P (tokens coeff_token_2) → P (tokens coeff_token_4) → P tokens_8 → (n : ℕ) → P (token_table (pos n))
each_class P a b c d n = search (rules)

pub tokens_free : (nc : ℤ) → is_prefix_free (token_table nc) ≡ true
tokens_free (negsuc _) = refl
tokens_free (pos n) = each_class (λ t. is_prefix_free t ≡ true) refl refl refl refl n

-- each row of a list of rows, and the row that is not there
rows_free : (rows : List (List (ℕ × ℕ))) (k : ℕ) → list_all (λ row. is_prefix_free (row_table row)) rows ≡ true → is_prefix_free (row_table (row_at rows k)) ≡ true
rows_free [] k test = refl
rows_free (row ∷ rows) zero test = (and_parts (is_prefix_free (row_table row)) (list_all (λ r. is_prefix_free (row_table r)) rows) test).0
rows_free (row ∷ rows) (suc k) test = rows_free rows k ((and_parts (is_prefix_free (row_table row)) (list_all (λ r. is_prefix_free (row_table r)) rows) test).1)

pub zeros_free : (total : ℕ) (chroma_dc : Bool) → is_prefix_free (zeros_table total chroma_dc) ≡ true
zeros_free total true = rows_free total_zeros_chroma_dc (total - 1) refl
zeros_free total false = rows_free total_zeros_4x4 (total - 1) refl

pub runs_free : (zeros_left : ℕ) → is_prefix_free (run_table zeros_left) ≡ true
runs_free zeros_left = rows_free run_before_codes (elim (nat_le zeros_left 6) [ true ↦ zeros_left - 1 | false ↦ 6 ]) refl

-- ---- a value that is read has the word that was read

-- each word is the first of its value
abbrev pub AreOwn : {A : Type 0} → (A → A → Bool) → Table A → Type 0
AreOwn same table = map (λ entry. word_of (same entry.1) table) table ≡ map (λ entry. Some entry.0) table

at_entry : {A : Type 0} (f g : List Bool × A → Option (List Bool)) (table : Table A) (word : List Bool) (value : A) → map f table ≡ map g table → IsIn table word value → f (word, value) ≡ g (word, value)
at_entry f g [] word value all is = absurd is
at_entry f g (entry ∷ table) word value all (inl here) = rw (here.0, here.1) (ap (λ l. get_or l 0 None) all)
at_entry f g (entry ∷ table) word value all (inr there) = at_entry f g table word value (ap (drop 1) all) there

own : {A : Type 0} (same : A → A → Bool) (table : Table A) (value : A) (b left : Bits) → AreOwn same table → table_code table b ≡ Ok (value, left) → IsRead (word_of (same value) table) b left
own same table value b left all is = search (rules, table_read, at_entry)

tokens_own : (nc : ℤ) → AreOwn is_token_same (token_table nc)
tokens_own (negsuc _) = refl
tokens_own (pos n) = each_class (AreOwn is_token_same) refl refl refl refl n

abbrev found_in : List (ℕ × ℕ) → List (Option (List Bool))
found_in row = map (λ entry. word_of (is_number_same entry.1) (row_table row)) (row_table row)

abbrev words_in : List (ℕ × ℕ) → List (Option (List Bool))
words_in row = map (λ entry. Some entry.0) (row_table row)

rows_own : (rows : List (List (ℕ × ℕ))) (k : ℕ) → map found_in rows ≡ map words_in rows → AreOwn is_number_same (row_table (row_at rows k))
rows_own [] k all = refl
rows_own (row ∷ rows) zero all = ap (λ l. get_or l 0 []) all
rows_own (row ∷ rows) (suc k) all = rows_own rows k (ap (drop 1) all)

pub token_own : (nc : ℤ) (t : Token) (b left : Bits) → coeff_token nc b ≡ Ok (t, left) → IsRead (token_word nc t) b left
token_own nc t b left is = own is_token_same (token_table nc) t b left (tokens_own nc) is

pub zeros_own : (total : ℕ) (chroma_dc : Bool) (n : ℕ) (b left : Bits) → total_zeros total chroma_dc b ≡ Ok (n, left) → IsRead (zeros_word total chroma_dc n) b left
zeros_own total true n b left is = own is_number_same (zeros_table total true) n b left (rows_own total_zeros_chroma_dc (total - 1) refl) is
zeros_own total false n b left is = own is_number_same (zeros_table total false) n b left (rows_own total_zeros_4x4 (total - 1) refl) is

-- the value of a run that passes the test
passed : (test : Bool) (x y : ℕ) (b left : Bits) → ((check test faults.BadCode >> give x) b) ≡ Ok (y, left) → (test ≡ true) × (x ≡ y) × (b ≡ left)
passed true x y b left is = (refl, ap (λ r. elim r [ Ok p ↦ p.0 | Err g ↦ x ]) is, ap (λ r. elim r [ Ok p ↦ p.1 | Err g ↦ b ]) is)
passed false x y b left is = cc

pub run_own : (zeros_left run : ℕ) (b left : Bits) → run_before zeros_left b ≡ Ok (run, left) → IsRead (run_word zeros_left run) b left
run_own zeros_left run b left is = by_result (table_code (run_table zeros_left) b) refl is
  where
    by_result : (r : Result (ℕ × Bits) Fault) → table_code (run_table zeros_left) b ≡ r →
        ◌≡◌ {A = Result (ℕ × Bits) Fault} (elim r [ Ok p ↦ (check (nat_le p.0 zeros_left) faults.BadCode >> give p.0) p.1 | Err f ↦ Err f ]) (Ok (run, left)) → IsRead (run_word zeros_left run) b left
    by_result (Err f) e is = cc
    by_result (Ok p) e is =
        let end = passed (nat_le p.0 zeros_left) p.0 run p.1 left is in
        let whole : table_code (run_table zeros_left) b ≡ Ok (run, left) = e ∙ ap (λ n. Ok (n, p.1)) end.1 ∙ ap (λ c. Ok (run, c)) end.2 in
        let rows = rows_own run_before_codes (elim (nat_le zeros_left 6) [ true ↦ zeros_left - 1 | false ↦ 6 ]) refl in
        let read = own is_number_same (run_table zeros_left) run b left rows whole in
        let test : nat_le run zeros_left ≡ true = ap (λ n. nat_le n zeros_left) (sym end.1) ∙ end.0 in
        record {
          bits = read.bits;
          is_word = ap (λ t. if t then word_of (is_number_same run) (run_table zeros_left) else None) test ∙ read.is_word;
          ahead = read.ahead;
        }

-- ---- which values the tables have

-- a test of all values
pub all_in : {A : Type 0} (p : A → Bool) (table : Table A) (word : List Bool) (v : A) → list_all (λ e. p e.1) table ≡ true → IsIn table word v → p v ≡ true
all_in p [] word v test is = absurd is
all_in p (entry ∷ table) word v test (inl here) = rw here.1 ((and_parts (p entry.1) (list_all (λ e. p e.1) table) test).0)
all_in p (entry ∷ table) word v test (inr there) = all_in p table word v ((and_parts (p entry.1) (list_all (λ e. p e.1) table) test).1) there

-- the value read is one of the table's
pub if_read : {A : Type 0} (p : A → Bool) (table : Table A) (P : A → Type 0) (result : Result A Fault) (old new : BitReader) →
    Reads result (table_code table) old new → list_all (λ e. p e.1) table ≡ true → ((v : A) → p v ≡ true → P v) → IfOk result P
if_read p table P (Err f) old new read test facts = tt
if_read p table P (Ok v) old new read test facts = search (rules, reader_bits, table_read, all_in)

abbrev pub is_token : Token → Bool
is_token t = nat_le t.total 16 && (nat_le t.ones t.total && nat_le t.ones 3)

pub tokens_tested : (nc : ℤ) → list_all (λ e. is_token e.1) (token_table nc) ≡ true
tokens_tested (negsuc _) = refl
tokens_tested (pos n) = each_class (λ t. list_all (λ e. is_token e.1) t ≡ true) refl refl refl refl n

pub token_tested : (t : Token) → is_token t ≡ true → IsToken t
token_tested t test = search (rules, and_parts, nat_le, leb-true)

pub if_token : (nc : ℤ) (result : Result Token Fault) (old new : BitReader) → Reads result (table_code (token_table nc)) old new → IfOk result IsToken
if_token nc result old new read = if_read is_token (token_table nc) IsToken result old new read (tokens_tested nc) token_tested

-- ---- a codeword with bits behind it is read as its value, and which values have a codeword: reading

-- of two words in front of the same bits one begins the other
one_begins : (word other rest left : List Bool) → after_word word (other ++ rest) ≡ Some left → (is_prefix word other ≡ true) ⊎ (is_prefix other word ≡ true)
one_begins [] other rest left is = inl refl
one_begins (w ∷ word) [] rest left is = inr refl
one_begins (true ∷ word) (true ∷ other) rest left is = one_begins word other rest left is
one_begins (false ∷ word) (false ∷ other) rest left is = one_begins word other rest left is
one_begins word other rest left is = cc

lookup-word : {A : Type 0} (table : Table A) (word rest : List Bool) (value : A) → is_prefix_free table ≡ true → IsIn table word value → lookup table (word ++ rest) ≡ Some (value, length word, rest)
lookup-word [] word rest value free is = absurd is
lookup-word (entry ∷ table) word rest value free (inl is) =
    rw (is.0, is.1) (lookup-here entry table (entry.0 ++ rest) rest (after_word-append entry.0 rest))
lookup-word {A} (entry ∷ table) word rest value free (inr there) =
    let both = tests entry table free in
    by_answer (after_word entry.0 (word ++ rest)) refl (apart entry table word value both.0 there) (lookup-word table word rest value both.1 there)
  where
    by_answer : (o : Option (List Bool)) → after_word entry.0 (word ++ rest) ≡ o → not (is_prefix entry.0 word || is_prefix word entry.0) ≡ true → lookup table (word ++ rest) ≡ Some (value, length word, rest) →
        lookup (entry ∷ table) (word ++ rest) ≡ Some (value, length word, rest)
    by_answer None e other later = lookup-past entry table (word ++ rest) e ∙ later
    by_answer (Some left) e other later = elim (one_begins entry.0 word rest left e) [
      | inl first ↦ absurd (not_first (is_prefix entry.0 word) (is_prefix word entry.0) other first)
      | inr second ↦ absurd (not_second (is_prefix entry.0 word) (is_prefix word entry.0) other second)
    ]

-- the word of a value is in the table
word-in : {A : Type 0} (same : A → A → Bool) (value : A) (table : Table A) (word : List Bool) → ((a b : A) → same a b ≡ true → a ≡ b) → word_of (same value) table ≡ Some word → IsIn table word value
word-in same value [] word is found = cc
word-in {A} same value (entry ∷ table) word is found = search (rules, word-in same value table word is)

back : {A : Type 0} (same : A → A → Bool) (value : A) (table : Table A) (word : List Bool) → ((a b : A) → same a b ≡ true → a ≡ b) → is_prefix_free table ≡ true → word_of (same value) table ≡ Some word → IsReadBack (table_code table) word value
back same value table word is free found position rest =
    code-found table (record { position = position; ahead = word ++ rest }) (value, length word, rest) (lookup-word table word rest value free (word-in same value table word is found))

pub token_back : (nc : ℤ) (t : Token) (word : List Bool) → token_word nc t ≡ Some word → IsReadBack (coeff_token nc) word t
token_back nc t word found = back is_token_same t (token_table nc) word token_is_same (tokens_free nc) found

-- what is read is in range
pub token_range : (nc : ℤ) (t : Token) (b left : Bits) → coeff_token nc b ≡ Ok (t, left) → IsToken t
token_range nc t b left is =
    let read = token_own nc t b left is in
    token_tested t (all_in is_token (token_table nc) read.bits t (tokens_tested nc) (word-in is_token_same t (token_table nc) read.bits token_is_same read.is_word))

pub zeros_back : (total : ℕ) (chroma_dc : Bool) (n : ℕ) (word : List Bool) → zeros_word total chroma_dc n ≡ Some word → IsReadBack (total_zeros total chroma_dc) word n
zeros_back total chroma_dc n word found = back is_number_same n (zeros_table total chroma_dc) word number_is_same (zeros_free total chroma_dc) found

pub run_back : (zeros_left run : ℕ) (word : List Bool) → run_word zeros_left run ≡ Some word → IsReadBack (run_before zeros_left) word run
run_back zeros_left run word found position rest = by_test (nat_le run zeros_left) refl
  where
    of_test : Bool → Option (List Bool)
    of_test t = if t then word_of (is_number_same run) (run_table zeros_left) else None

    by_test : (t : Bool) → nat_le run zeros_left ≡ t →
        run_before zeros_left (record { position = position; ahead = word ++ rest }) ≡ Ok (run, record { position = position + length word; ahead = rest })
    by_test true e = rw (back is_number_same run (run_table zeros_left) word number_is_same (runs_free zeros_left) (sym (ap of_test e) ∙ found) position rest, e) refl
    by_test false e = let none : None ≡ Some word = sym (ap of_test e) ∙ found in cc

-- ---- which values have a word

pub all_at : {X : Type 0} (p : X → Bool) (xs : List X) (i : ℕ) (d : X) → list_all p xs ≡ true → i < length xs → p (get_or xs i d) ≡ true
all_at p xs i d all within = true_from_ne_false (p (get_or xs i d)) (λ e. let q = list_all_at p xs i d within e in cc)

range_at : (p : ℕ → Bool) (a n i : ℕ) → list_all p (range_with_len a n) ≡ true → i < n → p (a + i) ≡ true
range_at p a n i all small =
    ap p (sym (get_or-range_with_len a n i 0 small)) ∙ all_at p (range_with_len a n) i 0 all (omega (arith, length-range_with_len a n))

second_of : (a b : Bool) → (a || b) ≡ true → a ≡ false → b ≡ true
second_of true b either e = cc
second_of false b either e = either

-- a test of all pairs of small numbers with a ≤ x and x + y ≤ sum
abbrev pub each_pair : (ℕ → ℕ → Bool) → (a n m sum : ℕ) → Bool
each_pair p a n m sum = list_all (λ x. list_all (λ y. nat_lt sum (x + y) || p x y) (range_with_len 0 m)) (range_with_len a n)

pub pair_at : (p : ℕ → ℕ → Bool) (a n m sum x y : ℕ) → each_pair p a n m sum ≡ true → a ≤ x → x < a + n → y < m → x + y ≤ sum → p x y ≡ true
pair_at p a n m sum x y all low high small within =
    let i = x - a in
    let is_x : a + i ≡ x = omega arith in
    let is_y : 0 + y ≡ y = omega arith in
    let row : list_all (λ y. nat_lt sum (x + y) || p x y) (range_with_len 0 m) ≡ true =
    ap (λ x. list_all (λ y. nat_lt sum (x + y) || p x y) (range_with_len 0 m)) (sym is_x) ∙ range_at (λ x. list_all (λ y. nat_lt sum (x + y) || p x y) (range_with_len 0 m)) a n i all (omega arith) in
    let cell : (nat_lt sum (x + y) || p x y) ≡ true = ap (λ y. nat_lt sum (x + y) || p x y) (sym is_y) ∙ range_at (λ y. nat_lt sum (x + y) || p x y) 0 m y row small in
    second_of (nat_lt sum (x + y)) (p x y) cell (le-ltb sum (x + y) within)

abbrev tokens_whole : Table Token → (most : ℕ) → Bool
tokens_whole table most = each_pair (λ total ones. nat_lt total ones || is_some (word_of (is_token_same (token total ones)) table)) 0 (most + 1) 4 20

token_at : (table : Table Token) (most : ℕ) (t : Token) → tokens_whole table most ≡ true → most ≤ 16 → t.total ≤ most → IsToken t → IsSome (word_of (is_token_same t) table)
token_at table most t all small few is =
    let either = pair_at (λ total ones. nat_lt total ones || is_some (word_of (is_token_same (token total ones)) table)) 0 (most + 1) 4 20 t.total t.ones all (omega arith) (omega arith) (omega (arith, is.few_ones)) (omega (arith, is.few_ones)) in
    second_of (nat_lt t.total t.ones) (is_some (word_of (is_token_same t) table)) either (le-ltb t.total t.ones is.ones)

pub token_whole : (nc : ℤ) (t : Token) → IsToken t → (nc <ℤ pos 0 → t.total ≤ 4) → IsSome (token_word nc t)
token_whole (negsuc n) t is few = token_at (tokens coeff_token_chroma_dc) 4 t refl (omega arith) (few (omega (arith, ints))) is
token_whole (pos n) t is few = each_class (λ table. IsSome (word_of (is_token_same t) table))
    (token_at (tokens coeff_token_0) 16 t refl (omega arith) is.total is) (token_at (tokens coeff_token_2) 16 t refl (omega arith) is.total is)
    (token_at (tokens coeff_token_4) 16 t refl (omega arith) is.total is) (token_at tokens_8 16 t refl (omega arith) is.total is) n

pub zeros_whole : (total n : ℕ) → 1 ≤ total → total ≤ 15 → total + n ≤ 16 → IsSome (zeros_word total false n)
zeros_whole total n some most within = pair_at (λ t z. is_some (zeros_word t false z)) 1 15 16 16 total n refl some (omega arith) (omega arith) within

pub chroma_zeros_whole : (total n : ℕ) → 1 ≤ total → total ≤ 3 → total + n ≤ 4 → IsSome (zeros_word total true n)
chroma_zeros_whole total n some most within = pair_at (λ t z. is_some (zeros_word t true z)) 1 3 4 4 total n refl some (omega arith) (omega arith) within

pub run_whole : (zeros_left run : ℕ) → 1 ≤ zeros_left → zeros_left ≤ 14 → run ≤ zeros_left → IsSome (run_word zeros_left run)
run_whole zeros_left run some most within =
    let either = pair_at (λ z r. nat_lt z r || is_some (run_word z r)) 1 14 15 28 zeros_left run refl some (omega arith) (omega arith) (omega arith) in
    second_of (nat_lt zeros_left run) (is_some (run_word zeros_left run)) either (le-ltb zeros_left run within)
