-- The entries of an indexed table: how they are found, and how the bits ahead are read by them.
pub mod Codes
unfoldable pub use Codes.*
use Rattle.avc_types.specs.declared.fault.Fault.TheVariants as faults
use Rattle.avc_vlc.specs.Indexing.{short_run}

-- ---- an entry says how the bits ahead are read by the table: more bits behind those that decide

-- a word that neither is in front of the bits nor begins with them
past_more : (word bits more : List Bool) → after_word word bits ≡ None → goes_on bits word ≡ false → after_word word (bits ++ more) ≡ None
past_more [] bits more e g = cc
past_more (w ∷ word) [] more e g = cc
past_more (true ∷ word) (true ∷ bits) more e g = past_more word bits more e g
past_more (false ∷ word) (false ∷ bits) more e g = past_more word bits more e g
past_more word bits more e g = refl

-- a word that doesn't begin with the bits
apart_more : (word bits more : List Bool) → is_prefix bits word ≡ false → is_prefix (bits ++ more) word ≡ false
apart_more word [] more e = cc
apart_more [] (b ∷ bits) more e = refl
apart_more (true ∷ word) (true ∷ bits) more e = apart_more word bits more e
apart_more (false ∷ word) (false ∷ bits) more e = apart_more word bits more e
apart_more word bits more e = refl

stops : (bits word : List Bool) → is_prefix bits word ≡ false → goes_on bits word ≡ false
stops bits word = search (rules)

-- whether a codeword goes on behind the bits
abbrev longer : {A : Type 0} → Table A → List Bool → Bool
longer table bits = list_any (λ entry. goes_on bits entry.0) table

lookup-more : {A : Type 0} (table : Table A) (bits more : List Bool) (f : A × ℕ × List Bool) → lookup table bits ≡ Some f → longer table bits ≡ false → lookup table (bits ++ more) ≡ Some (f.0, f.1, f.2 ++ more)
lookup-more [] bits more f e g = cc
lookup-more (entry ∷ table) bits more f e g = lookup_by entry table bits (λ o. o ≡ Some f → lookup (entry ∷ table) (bits ++ more) ≡ Some (f.0, f.1, f.2 ++ more))
    (λ left a q. let r : (entry.1, length entry.0, left) ≡ f = cc in rw (← r) (lookup-here entry table (bits ++ more) (left ++ more) (after_word-more entry.0 bits more left a)))
    (λ a q. lookup-past entry table (bits ++ more) (past_more entry.0 bits more a (or_parts _ _ g).0) ∙ lookup-more table bits more f q (or_parts _ _ g).1)
    e

-- no codeword is in front of the bits, and none begins with them
pub record IsNone {A : Type 0} (table : Table A) (bits : List Bool) : Type 0 where
  pub no_front : lookup table bits ≡ None
  pub no_word : begins table bits ≡ false

none-more : {A : Type 0} (table : Table A) (bits more : List Bool) → lookup table bits ≡ None → begins table bits ≡ false → IsNone table (bits ++ more)
none-more [] bits more e g = record { no_front = refl; no_word = refl }
none-more (entry ∷ table) bits more e g =
    let none = or_parts (is_prefix bits entry.0) (begins table bits) g in
    lookup_by entry table bits (λ o. o ≡ None → IsNone (entry ∷ table) (bits ++ more)) (λ left a q. cc)
    (λ a q.
    let rest = none-more table bits more q none.1 in
    record {
      no_front = lookup-past entry table (bits ++ more) (past_more entry.0 bits more a (stops bits entry.0 none.0)) ∙ rest.no_front;
      no_word = begins-first entry table (bits ++ more) false (apart_more entry.0 bits more none.0) ∙ rest.no_word;
    })
    e

-- ---- what an entry answers

abbrev pub answered : {A : Type 0} → Entry A → ℕ → Option (List Bool × List Bool) → Result (A × Bits) Fault
answered e position o =
    elim o [
      | None ↦ Err faults.Truncated
      | Some p ↦
          elim e.value [ None ↦ Err faults.BadCode | Some v ↦ Ok (v, record { position = position + e.length; ahead = p.1 }) ]
    ]

abbrev pub answer : {A : Type 0} → Entry A → Bits → Result (A × Bits) Fault
answer e b = answered e b.position (split e.length b.ahead)

pub split-append : (word left : List Bool) → split (length word) (word ++ left) ≡ Some (word, left)
split-append [] left = refl
split-append (b ∷ word) left = ap (λ o. option_map (λ p. (b ∷ p.0, p.1)) o) (split-append word left)

-- whether so many bits can be passed
pub skip-ok : (n : ℕ) (b : Bits) (r : Unit {0} × Bits) → skip n b ≡ Ok r → n ≤ length b.ahead
skip-ok n b r is = search (rules, cases_lt, skip, skip_short)

pub skip-err : (n : ℕ) (b : Bits) (f : Fault) → skip n b ≡ Err f → length b.ahead < n
skip-err n b f is = search (rules, cases_lt, skip, skip_long)

abbrev bits_at : ℕ → List Bool → Bits
bits_at position ahead = record { position = position; ahead = ahead }

-- what an entry of a front says
abbrev pub hole : {A : Type 0} → List Bool → Entry A
hole front = record { length = length front; value = None }

abbrev pub word_here : {A : Type 0} → List Bool → A → Entry A
word_here front v = record { length = length front; value = Some v }

-- the word is the whole front
pub record IsWordHere {A : Type 0} (table : Table A) (front : List Bool) (f : A × ℕ × List Bool) (e : Entry A) : Type 0 where
  pub whole : f.2 ≡ []
  pub no_longer : longer table front ≡ false
  pub entry : e ≡ word_here front f.0

word_entry-is : {A : Type 0} (table : Table A) (front : List Bool) (f : A × ℕ × List Bool) (e : Entry A) → word_entry table front f ≡ Some e → IsWordHere table front f e
word_entry-is {A} table front f e p = search (rules)

-- a word that is found
read_word : {A : Type 0} (table : Table A) (front tail : List Bool) (f : A × ℕ × List Bool) (e : Entry A) (position : ℕ) → lookup table front ≡ Some f → word_entry table front f ≡ Some e →
    table_code table (bits_at position (front ++ tail)) ≡ answer e (bits_at position (front ++ tail))
read_word table front tail f e position found is =
    let here = word_entry-is table front f e is in
    let word : IsFound table front f.0 f.1 f.2 = lookup-some table front f found in
    let size : f.1 ≡ length front = word.is_size ∙ ap length (sym (append-nil word.word) ∙ ap (λ l. word.word ++ l) (sym here.whole) ∙ sym word.is_front) in
    let more = lookup-more table front tail f found here.no_longer in
    code-found table (bits_at position (front ++ tail)) (f.0, f.1, f.2 ++ tail) more
    ∙ rw (size, here.whole) (sym (ap (λ x. answer x (bits_at position (front ++ tail))) here.entry ∙ ap (answered (word_here front f.0) position) (split-append front tail)))

read_hole : {A : Type 0} (table : Table A) (front tail : List Bool) (position : ℕ) → lookup table front ≡ None → begins table front ≡ false →
    table_code table (bits_at position (front ++ tail)) ≡ answer (hole front) (bits_at position (front ++ tail))
read_hole table front tail position none no_word = search (rules, none-more, code-none, split-append)

-- ---- along the bits

-- a word that is found, a front with which no word begins, or an answer that needs more bits
data Case {A : Type 0} (table : Table A) (front : List Bool) (on : Option (Entry A)) (e : Entry A) : Type 0 where
  is_found : (f : A × ℕ × List Bool) → lookup table front ≡ Some f → word_entry table front f ≡ Some e → Case table front on e
  is_hole : lookup table front ≡ None → begins table front ≡ false → e ≡ hole front → Case table front on e
  is_open : lookup table front ≡ None → begins table front ≡ true → on ≡ Some e → Case table front on e

cases : {A : Type 0} (table : Table A) (front : List Bool) (on : Option (Entry A)) (e : Entry A) →
    (elim (lookup table front) [ Some f ↦ word_entry table front f | None ↦ elim (begins table front) [ false ↦ Some (hole front) | true ↦ on ] ]) ≡ Some e → Case table front on e
cases {A} table front on e is = by_lookup (lookup table front) refl is
  where
    by_begins : lookup table front ≡ None → (g : Bool) → begins table front ≡ g → (elim g [ false ↦ Some (hole front) | true ↦ on ]) ≡ Some e → Case table front on e
    by_begins none false g is = is_hole none g (cc)
    by_begins none true g is = is_open none g is

    by_lookup : (o : Option (A × ℕ × List Bool)) → lookup table front ≡ o →
        (elim o [ Some f ↦ word_entry table front f | None ↦ elim (begins table front) [ false ↦ Some (hole front) | true ↦ on ] ]) ≡ Some e → Case table front on e
    by_lookup (Some f) found is = is_found f found is
    by_lookup None none is = by_begins none (begins table front) refl is

front_next : (front : List Bool) (b : Bool) → length (front ++ b ∷ []) ≡ length front + 1
front_next front b = length-append front (b ∷ []) ∙ omega arith

-- the entry is no shorter than the front
entry_long : {A : Type 0} (table : Table A) (front bits : List Bool) (e : Entry A) → entry_from table front bits ≡ Some e → length front ≤ e.length
entry_long table front [] e is = elim (cases table front None e is) [
  | is_found f found word ↦ omega (arith, ap (λ x. x.length) (word_entry-is table front f e word).entry)
  | is_hole none no_word same ↦ omega (arith, ap (λ x. x.length) same)
  | is_open none word on ↦ cc
]
entry_long table front (b ∷ bits) e is = elim (cases table front (entry_from table (front ++ b ∷ []) bits) e is) [
  | is_found f found word ↦ omega (arith, ap (λ x. x.length) (word_entry-is table front f e word).entry)
  | is_hole none no_word same ↦ omega (arith, ap (λ x. x.length) same)
  | is_open none word on ↦ omega (arith, entry_long table (front ++ b ∷ []) bits e on, front_next front b)
]

abbrev Answers : {A : Type 0} → Table A → Entry A → ℕ → List Bool → Type 0
Answers table e position ahead = table_code table (bits_at position ahead) ≡ answer e (bits_at position ahead)

-- the bits end where they decide nothing yet
read_cut : {A : Type 0} (table : Table A) (front : List Bool) (e : Entry A) (position : ℕ) → lookup table front ≡ None → begins table front ≡ true → length front < e.length → Answers table e position (front ++ [])
read_cut {A} table front e position none word short = search (rules, append-nil, code-none, split_short)

-- The entry answers as the table does.
pub read_entry : {A : Type 0} (table : Table A) (front bits tail : List Bool) (e : Entry A) (position : ℕ) → entry_from table front bits ≡ Some e → Agree bits tail → Answers table e position (front ++ tail)
read_entry table front [] tail e position is agree = elim (cases table front None e is) [
  | is_found f found word ↦ read_word table front tail f e position found word
  | is_hole none no_word same ↦ rw same (read_hole table front tail position none no_word)
  | is_open none word on ↦ cc
]
read_entry table front (b ∷ bits) [] e position is agree = elim (cases table front (entry_from table (front ++ b ∷ []) bits) e is) [
  | is_found f found word ↦ read_word table front [] f e position found word
  | is_hole none no_word same ↦ rw same (read_hole table front [] position none no_word)
  | is_open none word on ↦ read_cut table front e position none word (omega (arith, entry_long table (front ++ b ∷ []) bits e on, front_next front b))
]
read_entry table front (b ∷ bits) (t ∷ tail) e position is agree = elim (cases table front (entry_from table (front ++ b ∷ []) bits) e is) [
  | is_found f found word ↦ read_word table front (t ∷ tail) f e position found word
  | is_hole none no_word same ↦ rw same (read_hole table front (t ∷ tail) position none no_word)
  | is_open none word on ↦
      let P : List Bool → Type 0 = λ l. Answers table e position l in
      subst P (append_assoc front (b ∷ []) tail ∙ ap (λ c. front ++ c ∷ tail) agree.0) (read_entry table (front ++ b ∷ []) bits tail e position on agree.1)
]

-- ---- the reader's answers

decided_answer : {A : Type 0} (table : Table A) (e : Entry A) (b : Bits) → Decides table b.ahead e → table_code table b ≡ answer e b
decided_answer table e b d = read_entry table [] d.bits b.ahead e b.position d.is_entry d.agrees

-- after the bits were passed
passed_answer : {A : Type 0} (table : Table A) (e : Entry A) (n : ℕ) (b left : Bits) → Decides table b.ahead e → n ≡ e.length → skip n b ≡ Ok (tt, left) →
    table_code table b ≡ (elim e.value [ None ↦ Err faults.BadCode | Some v ↦ Ok (v, left) ])
passed_answer {A} table e n b left d same passed =
    let long : n ≤ length b.ahead = skip-ok n b (tt, left) passed in
    let after : Bits = record { position = b.position + e.length; ahead = drop e.length b.ahead } in
    let all : skip e.length b ≡ Ok (tt, after) = skip_long e.length b (omega arith) in
    let also : skip e.length b ≡ Ok (tt, left) = ap (λ k. skip k b) (sym same) ∙ passed in
    let is : after ≡ left = ap (λ r. elim r [ Ok x ↦ x.1 | Err f ↦ after ]) (sym all ∙ also) in
    decided_answer table e b d ∙ ap (answered e b.position) (split_long e.length b.ahead (omega arith))
    ∙ ap (λ l. elim e.value [ None ↦ Err faults.BadCode | Some v ↦ Ok (v, l) ]) is

pub reads_word : {A : Type 0} (table : Table A) (e : Entry A) (n : ℕ) (b left : Bits) (v : A) → Decides table b.ahead e → n ≡ e.length → skip n b ≡ Ok (tt, left) → e.value ≡ Some v → table_code table b ≡ Ok (v, left)
reads_word table e n b left v d same passed is = passed_answer table e n b left d same passed ∙ ap (λ o. elim o [ None ↦ Err faults.BadCode | Some v ↦ Ok (v, left) ]) is

pub reads_none : {A : Type 0} (table : Table A) (e : Entry A) (n : ℕ) (b left : Bits) → Decides table b.ahead e → n ≡ e.length → skip n b ≡ Ok (tt, left) → e.value ≡ None → table_code table b ≡ Err faults.BadCode
reads_none table e n b left d same passed is = passed_answer table e n b left d same passed ∙ ap (λ o. elim o [ None ↦ Err faults.BadCode | Some v ↦ Ok (v, left) ]) is

pub reads_cut : {A : Type 0} (table : Table A) (e : Entry A) (n : ℕ) (b : Bits) (f : Fault) → Decides table b.ahead e → n ≡ e.length → skip n b ≡ Err f → table_code table b ≡ Err f
reads_cut table e n b f d same cut =
    let short : length b.ahead < n = skip-err n b f cut in
    let also : skip n b ≡ Err faults.Truncated = skip_short n b short in
    let is : faults.Truncated ≡ f = cc in
    decided_answer table e b d ∙ ap (answered e b.position) (split_short e.length b.ahead (omega arith)) ∙ ap (λ x. Err x) is

-- ---- the places of an indexed table

-- the cell of rows that are computed
cell_at : {X : Type 0} (cell : ℕ → ℕ → Option X) (m n : ℕ) (rows : List (List X)) (r c : ℕ) (none : List X) (e : X) →
    map (λ r. map (cell r) (range_with_len 0 n)) (range_with_len 0 m) ≡ map (map Some) rows → r < m → r < length rows → c < n → c < length (get_or rows r none) →
    cell r c ≡ Some (get_or (get_or rows r none) c e)
cell_at cell m n rows r c none e is below within narrow there =
    sym (get_or-map-range_with_len (cell r) 0 n c c None narrow (omega arith))
    ∙ ap (λ l. get_or l c None) (sym (get_or-map-range_with_len (λ r. map (cell r) (range_with_len 0 n)) 0 m r r [] below (omega arith)) ∙ ap (λ l. get_or l r []) is ∙ get_or-map (map Some) rows r none [] within)
    ∙ get_or-map Some (get_or rows r none) c e None there

-- the entry at a place
pub indexed_place : {A : Type 0} (table : Table A) (tail : ℕ) (rows : List (List (Entry A))) (row column : ℕ) (ahead : List Bool) (none : List (Entry A)) (e : Entry A) → IsIndexed table tail rows → row < length rows → column < 2 ^ tail →
    column < length (get_or rows row none) → IsPlaceOf ahead (length rows - 1) tail row column → Decides table ahead (get_or (get_or rows row none) column e)
indexed_place table tail rows row column ahead none e is within narrow there at = record {
  bits = place_bits (length rows - 1) tail row column;
  is_entry = cell_at (λ r c. entry_of table (place_bits (length rows - 1) tail r c)) (length rows) (2 ^ tail) rows row column none e is.same within within narrow there;
  agrees = at.agrees;
}

-- one of several tables
pub indexed_table : {A : Type 0} (each : ℕ → Table A) (tail rows : ℕ) (tables : List (List (List (Entry A)))) (k : ℕ) (none : List (List (Entry A))) →
    AreIndexed each tail rows tables → k < length tables → IsIndexed (each k) tail (get_or tables k none)
indexed_table {A} each tail rows tables k none is there =
    let long : length (get_or tables k none) ≡ rows =
    sym (get_or-map length tables k none 0 there) ∙ ap (λ l. get_or l k 0) is.long ∙ get_or-replicate (length tables) k rows 0 there in
    record {
      same = ap (index (each k) tail) long
          ∙ sym (get_or-map-range_with_len (λ i. index (each i) tail rows) 0 (length tables) k k [] there (omega arith))
          ∙ ap (λ l. get_or l k []) is.same
          ∙ get_or-map (map (map Some)) tables k none [] there;
    }

-- the rows have the words of the table
pub is_written : {A : Type 0} {same : A → A → Bool} {table : Table A} {tail : ℕ} {rows : List (List (Entry A))} →
    map (λ row. map (entry_word same table) row) rows ≡ map (λ r. map (λ c. place_word tail r.0 c.0 c.1) (enumerate_from 0 r.1)) (enumerate_from 0 rows) →
    list_all (λ entry. list_any (λ row. list_any (holds same entry.1) row) rows) table ≡ true → IsWritten same table tail rows
is_written words whole = record { words = words; whole = whole }

-- the rows of one of several tables have its words
pub written_table : {A : Type 0} (same : A → A → Bool) (each : ℕ → Table A) (tail : ℕ) (tables : List (List (List (Entry A)))) (k : ℕ) (none : List (List (Entry A))) →
    AreWritten same each tail tables → k < length tables → IsWritten same (each k) tail (get_or tables k none)
written_table same each tail [] k none are there = absurd (omega arith)
written_table same each tail (rows ∷ tables) zero none are there = are.0
written_table same each tail (rows ∷ tables) (suc k) none are there = written_table same (λ i. each (suc i)) tail tables k none are.1 (omega arith)

-- behind the last row there is none
pub row_past : (rows : List (List (ℕ × ℕ))) (k : ℕ) → length rows ≤ k → row_at rows k ≡ []
row_past rows k past = ap (λ r. elim r [ Some row ↦ row | None ↦ [] ]) (slice_get_past rows k past)

-- the entry of three bits in one of several tables
pub front_entry : {A : Type 0} (each : ℕ → Table A) (tables : List (List (Entry A))) (k n : ℕ) (ahead : List Bool) (none : List (Entry A)) (e : Entry A) → AreFronts each tables → k < length tables → n < 8 → n < length (get_or tables k none) →
    IsFrontOf ahead 3 n → Decides (each k) ahead (get_or (get_or tables k none) n e)
front_entry each tables k n ahead none e are within narrow there at = record {
  bits = bits_of 3 n;
  is_entry = cell_at (λ t f. entry_of (each t) (bits_of 3 f)) (length tables) 8 tables k n none e are.same within within narrow there;
  agrees = at.agrees;
}

-- the run of three bits
pub run_decides : (tables : List (List Run)) (k n : ℕ) (ahead : List Bool) (none : Run) → AreRuns tables → k < length tables → n < 8 → n < length (get_or tables k []) → IsFrontOf ahead 3 n →
    Decides (few_table k) ahead (entry_of_run (get_or (get_or tables k []) n none))
run_decides tables k n ahead none are within narrow there at =
    let row : get_or (map (map entry_of_run) tables) k [] ≡ map entry_of_run (get_or tables k []) = get_or-map (map entry_of_run) tables k [] [] within in
    let same : get_or (get_or (map (map entry_of_run) tables) k []) n (entry_of_run none) ≡ entry_of_run (get_or (get_or tables k []) n none) =
    ap (λ l. get_or l n (entry_of_run none)) row ∙ get_or-map entry_of_run (get_or tables k []) n none (entry_of_run none) there in
    subst (Decides (few_table k) ahead) same
    (front_entry few_table (map (map entry_of_run) tables) k n ahead [] (entry_of_run none) are.fronts (omega (arith, length-map tables (map entry_of_run))) narrow
    (omega (arith, ap length row, length-map (get_or tables k []) entry_of_run)) at)

-- what a test of a whole row says of one of its runs
row_passes : (tables : List (List Run)) (test : ℕ → Run → Bool) (k n : ℕ) (none : Run) →
    map (λ k. list_all (test k) (get_or tables k [])) (range_with_len 0 6) ≡ replicate 6 true → k < 6 → n < length (get_or tables k []) → test k (get_or (get_or tables k []) n none) ≡ true
row_passes tables test k n none passes within there =
    all_at (test k) (get_or tables k []) n none
    (sym (get_or-map-range_with_len (λ k. list_all (test k) (get_or tables k [])) 0 6 k k true within (omega arith)) ∙ ap (λ l. get_or l k true) passes ∙ get_or-replicate 6 k true true within) there

pub run_most : (tables : List (List Run)) (k n : ℕ) (none : Run) → AreRuns tables → k < 6 → n < length (get_or tables k []) → (get_or (get_or tables k []) n none).zeros ≤ k + 1
run_most tables k n none are within there = leb-true _ (k + 1) (row_passes tables (λ k r. nat_le r.zeros (k + 1)) k n none are.most within there)

pub run_short : (tables : List (List Run)) (k n : ℕ) (none : Run) → AreRuns tables → k < 6 → n < length (get_or tables k []) → (get_or (get_or tables k []) n none).length ≤ 3
run_short tables k n none are within there = leb-true _ 3 (row_passes tables (λ _ r. nat_le r.length 3) k n none are.short within there)

-- a run that is not above zerosLeft
pub run_read : (zeros_left run : ℕ) (b left : Bits) → table_code (run_table zeros_left) b ≡ Ok (run, left) → run ≤ zeros_left → run_before zeros_left b ≡ Ok (run, left)
run_read zeros_left run b left is few = rw (is, le-leb run zeros_left few) refl

six_computed : map (λ n. entry_of tokens_8 (bits_of 6 n)) (range_with_len 0 64) ≡ map (λ n. Some (six_bit_entry n)) (range_with_len 0 64)
six_computed = refl

pub six_bits_decide : (number : ℕ) → number < 64 → entry_of tokens_8 (bits_of 6 number) ≡ Some (six_bit_entry number)
six_bits_decide number small =
    sym (get_or-map-range_with_len (λ n. entry_of tokens_8 (bits_of 6 n)) 0 64 number number None small (omega arith))
    ∙ ap (λ l. get_or l number None) six_computed
    ∙ get_or-map-range_with_len (λ n. Some (six_bit_entry n)) 0 64 number number None small (omega arith)

-- ---- the table of coded_block_pattern

all_below : (numbers : List ℕ) (n most : ℕ) → list_all (λ v. nat_lt v most) numbers ≡ true → n < length numbers → get_or numbers n 0 < most
all_below numbers n most test within = ltb-true (get_or numbers n 0) most (all_at (λ v. nat_lt v most) numbers n 0 test within)

pub intra_below : (n : ℕ) → n < 48 → get_or cbp_intra n 0 < 48
intra_below n small = all_below cbp_intra n 48 refl small

pub inter_below : (n : ℕ) → n < 48 → get_or cbp_inter n 0 < 48
inter_below n small = all_below cbp_inter n 48 refl small

pub pattern_intra : (n : ℕ) → n < 48 → pattern_at true n ≡ Some (get_or cbp_intra n 0)
pattern_intra n small = slice_get-get_or cbp_intra n 0 small

pub pattern_inter : (n : ℕ) → n < 48 → pattern_at false n ≡ Some (get_or cbp_inter n 0)
pattern_inter n small = slice_get-get_or cbp_inter n 0 small

pub no_pattern : (intra : Bool) (n : ℕ) → 48 ≤ n → pattern_at intra n ≡ None
no_pattern true n large = slice_get_past cbp_intra n large
no_pattern false n large = slice_get_past cbp_inter n large

abbrev given : Option ℕ → Read ℕ
given o = elim o [ Some pattern ↦ give pattern | None ↦ refuse faults.BadCode ]

pub pattern_refused : (intra : Bool) (n : ℕ) (b left : Bits) → ue b ≡ Ok (n, left) → 48 ≤ n → coded_block_pattern intra b ≡ Err faults.BadCode
pattern_refused intra n b left read large = rw read (ap (λ o. given o left) (no_pattern intra n large))

-- ---- the bits of a number, and the row and the column that they choose

-- the upper and the lower bits
pub bits_of-append : (a b v : ℕ) → bits_of (a + b) v ≡ bits_of a (v / 2 ^ b) ++ bits_of b v
bits_of-append zero b v = ap (λ k. bits_of k v) (omega arith)
bits_of-append (suc a) b v =
    let sum : suc a + b ≡ suc (a + b) = omega arith in
    rw (sum, shr-shr v b a, bits_of-append a b v) (ap (λ k. eqb (v / 2 ^ k % 2) 1 ∷ (bits_of a (v / 2 ^ b) ++ bits_of b v)) (omega arith))

-- bits above the n-th don't matter
pub bits_of-mod : (n j v : ℕ) → bits_of n (v % 2 ^ (j + n)) ≡ bits_of n v
bits_of-mod zero j v = refl
bits_of-mod (suc n) j v =
    let sum : j + suc n ≡ (j + 1) + n = omega arith in
    let low : v % 2 ^ n < 2 ^ n = mod-lt v (pow_pos n) in
    let top : v % 2 ^ (j + suc n) / 2 ^ n % 2 ≡ v / 2 ^ n % 2 =
    rw (sum, mod-pow-add v (j + 1) n, div-mul-add (v / 2 ^ n % 2 ^ (j + 1)) (2 ^ n) (v % 2 ^ n) low) (mod-mod-pow (v / 2 ^ n) j 1) in
    let rest : bits_of n (v % 2 ^ (j + suc n)) ≡ bits_of n v = ap (λ k. bits_of n (v % 2 ^ k)) sum ∙ bits_of-mod n (j + 1) v in
    rw (top, rest) refl

-- bits that the first n begin with
agree_front : (front rest ahead padding : List Bool) (n : ℕ) → front ++ rest ≡ take n (ahead ++ padding) → Agree front ahead
agree_front [] rest ahead padding n same = tt
agree_front (b ∷ front) rest [] padding n same = tt
agree_front (b ∷ front) rest (a ∷ ahead) padding zero same = cc
agree_front (b ∷ front) rest (a ∷ ahead) padding (suc n) same =
    let here : b ≡ a = cc in
    let later : front ++ rest ≡ take n (ahead ++ padding) = cc in
    (here, agree_front front rest ahead padding n later)

pub agree_ahead : (word : ℕ) (front rest ahead : List Bool) → IsAhead word ahead → bits_of 32 word ≡ front ++ rest → Agree front ahead
agree_ahead word front rest ahead is same = agree_front front rest ahead (replicate 32 false) 32 (sym same ∙ is.bits)

-- the first n bits
pub agree_number : (word n : ℕ) (ahead : List Bool) → n ≤ 32 → IsAhead word ahead → Agree (bits_of n (word / 2 ^ (32 - n))) ahead
agree_number word n ahead few is =
    agree_ahead word (bits_of n (word / 2 ^ (32 - n))) (bits_of (32 - n) word) ahead is
    (let sum : 32 ≡ n + (32 - n) = omega arith in ap (λ k. bits_of k word) sum ∙ bits_of-append n (32 - n) word)

-- zeros, then a 1 and the bits behind it
one_behind : (word zeros low tail : ℕ) → 2 ^ (tail + low) ≤ word → word < 2 ^ suc (tail + low) →
    bits_of (zeros + suc (tail + low)) word ≡ (replicate zeros false ++ true ∷ bits_of tail (word / 2 ^ low % 2 ^ tail)) ++ bits_of low word
one_behind word zeros low tail large small =
    let none : word / 2 ^ suc (tail + low) ≡ 0 = div-eq_of_lt small in
    let least : 1 * 2 ^ (tail + low) ≤ word = omega arith in
    let most : word < 2 * 2 ^ (tail + low) = omega (arith, pow-succ' 2 (tail + low)) in
    let one : word / 2 ^ (tail + low) ≡ 1 = div-eq_of_lt-le {k = 1} (2 ^ (tail + low)) least most in
    let split : bits_of (tail + low) word ≡ bits_of tail (word / 2 ^ low % 2 ^ tail) ++ bits_of low word =
    bits_of-append tail low word ∙ ap (λ l. l ++ bits_of low word) (sym (bits_of-mod tail 0 (word / 2 ^ low)) ∙ ap (λ k. bits_of tail (word / 2 ^ low % 2 ^ k)) (omega arith)) in
    bits_of-append zeros (suc (tail + low)) word
    ∙ rw (none, bits_of-zero zeros, one, split) (sym (append_assoc (replicate zeros false) (true ∷ bits_of tail (word / 2 ^ low % 2 ^ tail)) (bits_of low word)))

-- zeros
zeros_behind : (word zeros low : ℕ) → word < 2 ^ low → bits_of (zeros + low) word ≡ replicate zeros false ++ bits_of low word
zeros_behind word zeros low small = search (rules, div-eq_of_lt, bits_of-append, bits_of-zero)

pub agree_place : (word last tail row column : ℕ) (ahead : List Bool) → last ≤ 15 → tail ≤ 8 → row ≡ min (count_leading_zeros 32 word) last → column ≡ word / 2 ^ (31 - tail - row) % 2 ^ tail →
    IsAhead word ahead → Agree (place_bits last tail row column) ahead
agree_place word last tail row column ahead few narrow is_row is_column is = by_row (cases_lt (count_leading_zeros 32 word) last)
  where
    P : Bool → Type 0
    P test = Agree (elim test [ true ↦ replicate row false ++ true ∷ bits_of tail column | false ↦ replicate row false ]) ahead

    by_row : (count_leading_zeros 32 word < last) ⊎ (last ≤ count_leading_zeros 32 word) → Agree (place_bits last tail row column) ahead
    by_row (inl more) =
        let top : (m : ℕ) × (count_leading_zeros 32 word + m ≡ 32) × (word < 2 ^ m) × (2 ^ m ≤ 2 * word + 1) = leading_length 32 word is.below in
        let low = 31 - tail - row in
        let same : row ≡ count_leading_zeros 32 word = omega arith in
        let size : top.0 ≡ suc (tail + low) = omega (arith, top.1) in
        let small : word < 2 ^ suc (tail + low) = let Q : ℕ → Type 0 = λ m. word < 2 ^ m in subst Q size top.2 in
        let twice : 2 ^ suc (tail + low) ≤ 2 * word + 1 = let Q : ℕ → Type 0 = λ m. 2 ^ m ≤ 2 * word + 1 in subst Q size top.3 in
        let large : 2 ^ (tail + low) ≤ word = omega (arith, pow-succ' 2 (tail + low)) in
        let all : 32 ≡ row + suc (tail + low) = omega (arith, top.1) in
        subst P (sym (lt-ltb row last (omega arith)))
        (agree_ahead word (replicate row false ++ true ∷ bits_of tail column) (bits_of low word) ahead is
        (ap (λ k. bits_of k word) all ∙ one_behind word row low tail large small ∙ ap (λ c. (replicate row false ++ true ∷ bits_of tail c) ++ bits_of low word) (sym is_column)))
    by_row (inr none) =
        let top : (m : ℕ) × (count_leading_zeros 32 word + m ≡ 32) × (word < 2 ^ m) × (2 ^ m ≤ 2 * word + 1) = leading_length 32 word is.below in
        let same : row ≡ last = omega arith in
        let shorter : top.0 ≤ 32 - row = omega (arith, top.1) in
        let two : 0 < 2 = lit< tt in
        let powers : 2 ^ top.0 ≤ 2 ^ (32 - row) = pow-le-pow_right two shorter in
        let small : word < 2 ^ (32 - row) = omega (arith, top.2) in
        let all : 32 ≡ row + (32 - row) = omega arith in
        subst P (sym (le-ltb row last (omega arith)))
        (agree_ahead word (replicate row false) (bits_of (32 - row) word) ahead is (ap (λ k. bits_of k word) all ∙ zeros_behind word row (32 - row) small))

pub front_below : (word n : ℕ) → n ≤ 32 → word < 2 ^ 32 → word / 2 ^ (32 - n) < 2 ^ n
front_below word n few small =
    let sum : n + (32 - n) ≡ 32 = omega arith in
    let whole : 2 ^ n * 2 ^ (32 - n) ≡ 2 ^ 32 = sym (pow-add 2 n (32 - n)) ∙ ap (λ k. 2 ^ k) sum in
    (div-lt_iff_lt-mul {x = word} {y = 2 ^ n} (pow_pos (32 - n))).1 (omega arith)

-- the bits that a code holds
pub code_is : (word count most : ℕ) (ahead : List Bool) → most ≤ 16 → count ≡ min most (length ahead) → IsAhead word ahead → take count (bits_of 32 word) ≡ take most ahead
code_is word count most ahead few is_count is = rw is.bits (
    take-take count 32 (ahead ++ replicate 32 false) (omega arith)
    ∙ take-append-le count ahead (replicate 32 false) (omega arith)
    ∙ by_length (cases_lt (length ahead) most))
  where
    by_length : (length ahead < most) ⊎ (most ≤ length ahead) → take count ahead ≡ take most ahead
    by_length (inl short) =
        let same : count ≡ length ahead = omega arith in
        rw same (take_all (length ahead) ahead (omega arith) ∙ sym (take_all most ahead (omega arith)))
    by_length (inr long) = ap (λ k. take k ahead) (omega arith)

pub number_is : (word count : ℕ) → count ≤ 32 → word < 2 ^ 32 → word / 2 ^ (32 - count) ≡ number_of (take count (bits_of 32 word))
number_is word count few small =
    let sum : 32 ≡ count + (32 - count) = omega arith in
    let below : word / 2 ^ (32 - count) < 2 ^ count = front_below word count few small in
    let front : take count (bits_of 32 word) ≡ bits_of count (word / 2 ^ (32 - count)) =
    ap (λ k. take count (bits_of k word)) sum
    ∙ ap (take count) (bits_of-append count (32 - count) word)
    ∙ ap (λ k. take k (bits_of count (word / 2 ^ (32 - count)) ++ bits_of (32 - count) word)) (sym (length-bits_of count (word / 2 ^ (32 - count))))
    ∙ take-append_seam (bits_of count (word / 2 ^ (32 - count))) (bits_of (32 - count) word) in
    sym (ap number_of front ∙ number-bits_of count (word / 2 ^ (32 - count)) ∙ mod-eq_of_lt below)

-- ---- the words of an indexed table

-- a value that fails a test of all values has no codeword
pub word_none : {A : Type 0} (same : A → A → Bool) (value : A) (test : A → Bool) (table : Table A) → ((a b : A) → same a b ≡ true → a ≡ b) → list_all (λ entry. test entry.1) table ≡ true → test value ≡ false →
    word_of (same value) table ≡ None
word_none same value test [] is all fails = refl
word_none {A} same value test (entry ∷ table) is all fails =
    let both = and_parts (test entry.1) (list_all (λ e. test e.1) table) all in
    by_answer (same value entry.1) refl both.0 (word_none same value test table is both.1 fails)
  where
    by_answer : (answer : Bool) → same value entry.1 ≡ answer → test entry.1 ≡ true → word_of (same value) table ≡ None → word_of (same value) (entry ∷ table) ≡ None
    by_answer true e passes later = let q : true ≡ false = sym passes ∙ sym (ap test (is value entry.1 e)) ∙ fails in cc
    by_answer false e passes later = ap (λ t. if t then Some entry.0 else word_of (same value) table) e ∙ later

-- the word of an entry that has the value
held : {A : Type 0} (same : A → A → Bool) (value : A) (table : Table A) (entry : Entry A) (word : List Bool) → ((a b : A) → same a b ≡ true → a ≡ b) →
    entry_word same table entry ≡ (elim entry.value [ None ↦ None | Some own ↦ Some word ]) → holds same value entry ≡ true → Some word ≡ word_of (same value) table
held {A} same value table entry word is placed here = search (rules)

pub word_found : {A : Type 0} (same : A → A → Bool) (value : A) (table : Table A) (tail : ℕ) (rows : List (List (Entry A))) (row column : ℕ) (none : List (Entry A)) (e : Entry A) → ((a b : A) → same a b ≡ true → a ≡ b) → IsWritten same table tail rows →
    row < length rows → column < length (get_or rows row none) → holds same value (get_or (get_or rows row none) column e) ≡ true →
    Some (word_at tail row column (get_or (get_or rows row none) column e).length) ≡ word_of (same value) table
word_found {A} same value table tail rows row column none e is written within there here =
    let places = get_or rows row none in
    let entry = get_or places column e in
    let cells : ℕ × List (Entry A) → List (Option (List Bool)) = λ r. map (λ c. place_word tail r.0 c.0 c.1) (enumerate_from 0 r.1) in
    let left : get_or (map (λ r. map (entry_word same table) r) rows) row [] ≡ map (entry_word same table) places = get_or-map (λ r. map (entry_word same table) r) rows row none [] within in
    let right : get_or (map cells (enumerate_from 0 rows)) row [] ≡ cells (0 + row, places) =
    get_or-map cells (enumerate_from 0 rows) row (0, none) [] (omega (arith, length-enumerate_from 0 rows)) ∙ ap cells (get_or-enumerate_from 0 rows row (0, none) within) in
    let first : 0 + row ≡ row = omega arith in
    let second : 0 + column ≡ column = omega arith in
    let placed : entry_word same table entry ≡ place_word tail row column entry =
    sym (get_or-map (entry_word same table) places column e None there)
    ∙ ap (λ l. get_or l column None) (sym left ∙ ap (λ l. get_or l row []) written.words ∙ right)
    ∙ get_or-map (λ c. place_word tail (0 + row) c.0 c.1) (enumerate_from 0 places) column (0, e) None (omega (arith, length-enumerate_from 0 places))
    ∙ ap (λ c. place_word tail (0 + row) c.0 c.1) (get_or-enumerate_from 0 places column (0, e) there)
    ∙ ap (λ n. place_word tail n (0 + column) entry) first
    ∙ ap (λ n. place_word tail row n entry) second in
    held same value table entry (word_at tail row column entry.length) is placed here

-- ---- six bits

six_words : map (λ n. entry_word is_token_same tokens_8 (six_bit_entry n)) (range_with_len 0 64) ≡ map (λ n. elim (six_bit_entry n).value [ None ↦ None | Some own ↦ Some (bits_of 6 n) ]) (range_with_len 0 64)
six_words = refl

pub six_found : (t : Token) (number : ℕ) → number < 64 → holds is_token_same t (six_bit_entry number) ≡ true → Some (bits_of 6 number) ≡ word_of (is_token_same t) tokens_8
six_found t number small here =
    let placed : entry_word is_token_same tokens_8 (six_bit_entry number) ≡ (elim (six_bit_entry number).value [ None ↦ None | Some own ↦ Some (bits_of 6 number) ]) =
    sym (get_or-map-range_with_len (λ n. entry_word is_token_same tokens_8 (six_bit_entry n)) 0 64 number number None small (omega arith))
    ∙ ap (λ l. get_or l number None) six_words
    ∙ get_or-map-range_with_len (λ n. elim (six_bit_entry n).value [ None ↦ None | Some own ↦ Some (bits_of 6 n) ]) 0 64 number number None small (omega arith) in
    held is_token_same t tokens_8 (six_bit_entry number) (bits_of 6 number) token_is_same placed here

pub and_false : (a b : Bool) → b ≡ false → (a && b) ≡ false
and_false true b e = e
and_false false b e = refl

-- the number of the token is that of its entry
abbrev pub has_six_bits : Token → Bool
has_six_bits t = nat_lt (six_bit_number t) 64 && holds is_token_same t (six_bit_entry (six_bit_number t))

six_whole : list_all (λ entry. has_six_bits entry.1) tokens_8 ≡ true
six_whole = refl

pub six_none : (t : Token) → has_six_bits t ≡ false → word_of (is_token_same t) tokens_8 ≡ None
six_none t fails = word_none is_token_same t has_six_bits tokens_8 token_is_same six_whole fails

-- a number of so many bits is that of its bits
pub number_own : (n number : ℕ) (bits : List Bool) → number < 2 ^ n → bits_of n number ≡ bits → number ≡ number_of bits
number_own n number bits below is = sym (mod-eq_of_lt below) ∙ sym (number-bits_of n number) ∙ ap number_of is

-- ---- a run by three bits of a window

-- first some bits and then others
pub passed_both : (b : Bits) (first n : ℕ) → bits_at (b.position + first + n) (drop n (drop first b.ahead)) ≡ bits_at (b.position + (first + n)) (drop (first + n) b.ahead)
passed_both b first n = ap (λ k. bits_at k (drop n (drop first b.ahead))) (omega arith) ∙ ap (bits_at (b.position + (first + n))) (drop-drop n first b.ahead)

-- more bits behind a run that three bits give
short_more : (zeros_left n run : ℕ) (left b : Bits) → run_before zeros_left (bits_at 0 (bits_of 3 n)) ≡ Ok (run, left) → bits_of 3 n ≡ take 3 b.ahead →
    run_before zeros_left b ≡ Ok (run, bits_at (b.position + left.position) (drop left.position b.ahead))
short_more zeros_left n run left b is front =
    let read = run_own zeros_left run (bits_at 0 (bits_of 3 n)) left is in
    let word = read.bits in
    let once : run_before zeros_left (bits_at 0 (word ++ left.ahead)) ≡ Ok (run, bits_at (0 + length word) left.ahead) = run_back zeros_left run word read.is_word 0 left.ahead in
    let same : bits_at (0 + length word) left.ahead ≡ left =
    ap (λ r. elim r [ Ok x ↦ x.1 | Err f ↦ left ]) (sym once ∙ ap (λ l. run_before zeros_left (bits_at 0 l)) (sym read.ahead) ∙ is) in
    let size : left.position ≡ length word = omega (arith, ap (λ x. x.position) same) in
    let rest = left.ahead ++ drop 3 b.ahead in
    let all : b.ahead ≡ word ++ rest =
    sym (take-append-drop 3 b.ahead) ∙ ap (λ l. l ++ drop 3 b.ahead) (sym front ∙ read.ahead) ∙ append_assoc word left.ahead (drop 3 b.ahead) in
    let behind : drop (length word) b.ahead ≡ rest = ap (drop (length word)) all ∙ drop_at word rest (length word) refl in
    ap (λ l. run_before zeros_left (bits_at b.position l)) all
    ∙ run_back zeros_left run word read.is_word b.position rest
    ∙ ap (λ l. Ok (run, bits_at (b.position + length word) l)) (sym behind)
    ∙ ap (λ k. Ok (run, bits_at (b.position + k) (drop k b.ahead))) (sym size)

pub short_read : (zeros_left n : ℕ) (e : Run) (b : Bits) → bits_of 3 n ≡ take 3 b.ahead → e ≡ short_run zeros_left n → 1 ≤ e.length →
    run_before zeros_left b ≡ Ok (e.zeros, bits_at (b.position + e.length) (drop e.length b.ahead))
unfolding short_run
short_read zeros_left n e b front is some = by (run_before zeros_left (bits_at 0 (bits_of 3 n))) refl
  where
    of_answer : Result (ℕ × Bits) Fault → Run
    of_answer x = elim x [ Ok r ↦ record { length = r.1.position; zeros = r.0 } | Err f ↦ record { length = 0; zeros = 0 } ]

    by : (r : Result (ℕ × Bits) Fault) → run_before zeros_left (bits_at 0 (bits_of 3 n)) ≡ r → run_before zeros_left b ≡ Ok (e.zeros, bits_at (b.position + e.length) (drop e.length b.ahead))
    by (Ok r) read =
        let entry : e ≡ record { length = r.1.position; zeros = r.0 } = is ∙ ap of_answer read in
        subst (λ x. run_before zeros_left b ≡ Ok (x.zeros, bits_at (b.position + x.length) (drop x.length b.ahead))) (sym entry) (short_more zeros_left n r.0 r.1 b read front)
    by (Err f) read =
        let entry : e ≡ record { length = 0; zeros = 0 } = is ∙ ap of_answer read in
        absurd (omega (arith, ap (λ x. x.length) entry))

-- no such run is longer than the zeros that are left, nor has its codeword more than three bits
abbrev is_bounded : ℕ → ℕ → Bool
is_bounded zeros_left n = nat_le (short_run zeros_left n).zeros zeros_left && nat_le (short_run zeros_left n).length 3

all_bounded : each_pair is_bounded 0 16 8 22 ≡ true
unfolding short_run
all_bounded = refl

pub short_bounded : (zeros_left n : ℕ) (e : Run) → zeros_left < 16 → n < 8 → e ≡ short_run zeros_left n → (e.zeros ≤ zeros_left) × (e.length ≤ 3)
short_bounded zeros_left n e few three is =
    let both = and_parts _ _ (pair_at is_bounded 0 16 8 22 zeros_left n all_bounded (omega arith) (omega arith) three (omega arith)) in
    subst (λ x. (x.zeros ≤ zeros_left) × (x.length ≤ 3)) (sym is) (leb-true _ zeros_left both.0, leb-true _ 3 both.1)

pub short_there : (tables : List (List Run)) (zeros_left bits : ℕ) (none : Run) → AreShortRuns tables → zeros_left < 16 → bits < 8 → get_or (get_or tables zeros_left []) bits none ≡ short_run zeros_left bits
short_there tables zeros_left bits none are few three =
    ap (λ t. get_or (get_or t zeros_left []) bits none) (sym are.same)
    ∙ ap (λ t. get_or t bits none) (get_or-map-range_with_len (λ z. map (short_run z) (range_with_len 0 8)) 0 16 zeros_left zeros_left [] few (omega arith))
    ∙ get_or-map-range_with_len (short_run zeros_left) 0 8 bits bits none three (omega arith)

-- ---- worked examples

-- 62 codewords each
sixty_two : (length (tokens coeff_token_0) ∷ length (tokens coeff_token_2) ∷ length (tokens coeff_token_4) ∷ length tokens_8 ∷ []) ≡ 62 ∷ 62 ∷ 62 ∷ 62 ∷ []
sixty_two = refl

abbrev value_of : {A : Type 0} → Read A → List ℕ → Result A Fault
value_of part bytes = elim (part (start bytes)) [ Ok r ↦ Ok r.0 | Err f ↦ Err f ]

no_code : value_of (coeff_token (pos 8)) (0x0A ∷ []) ≡ Err faults.BadCode
no_code = refl

cut_short_row : value_of (coeff_token (pos 8)) (0x08 ∷ []) ≡ Err faults.Truncated
cut_short_row = refl
