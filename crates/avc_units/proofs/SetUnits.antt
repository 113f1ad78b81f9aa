-- The units that decide which parameter sets are in force, and slices that come.
pub mod Common
unfoldable pub use Common.*
use Rattle.avc_units.specs.Grouping.{other as other_kind}
use Rattle.avc_types.specs.declared.fault.Fault.TheVariants as faults
use Rattle.avc_units.specs.declared.header_reader.Brought.TheVariants as brings_kinds
use Rattle.avc_units.specs.declared.kinds.UnitKind.TheVariants as kinds

-- ---- the unit that decides which parameter set of an id is in force: the last of a list

pub last-map : {X Y : Type 0} (f : X → Y) (xs : List X) → last (map f xs) ≡ option_map f (last xs)
last-map f [] = refl
last-map f (x ∷ []) = refl
last-map f (x ∷ y ∷ xs) = last-map f (y ∷ xs)

pub last_behind : {A : Type 0} (xs : List A) (z : A) (zs : List A) → last (xs ++ z ∷ zs) ≡ last (z ∷ zs)
last_behind [] z zs = refl
last_behind (x ∷ []) z zs = refl
last_behind (x ∷ y ∷ xs) z zs = last_behind (y ∷ xs) z zs

pub last_of_list : (o : Option Unit) → last (unit_list o) ≡ o
last_of_list o = grind arith

pub all_last : (P : Unit → Type 0) (us : List Unit) → All P us → All P (unit_list (last us))
all_last P [] h = All-nil P
all_last P (u ∷ []) h = h
all_last P (u ∷ v ∷ us) h = all_last P (v ∷ us) (All-tail P u (v ∷ us) h)

-- ---- lists that are filtered

-- all pass, or none
filtered : {A : Type 0} (p : A → Bool) (b : Bool) (xs : List A) → All (λ x. p x ≡ b) xs → filter p xs ≡ cond b xs []
filtered p b [] h = grind arith
filtered p b (x ∷ xs) h =
    let here = All-head (λ y. p y ≡ b) x xs h in
    let others = filtered p b xs (All-tail (λ y. p y ≡ b) x xs h) in
    grind (arith, here, others)

pub filter-flat_map : {N A : Type 0} (p : A → Bool) (f : N → List A) (ns : List N) → filter p (flat_map f ns) ≡ flat_map (λ n. filter p (f n)) ns
filter-flat_map p f [] = refl
filter-flat_map p f (n ∷ ns) = filter-append p (f n) (flat_map f ns) ∙ ap (λ t. filter p (f n) ++ t) (filter-flat_map p f ns)

pub flat_map_none : {N A : Type 0} (f : N → List A) (ns : List N) → ((n : N) → f n ≡ []) → flat_map f ns ≡ []
flat_map_none f [] none = refl
flat_map_none f (n ∷ ns) none = rw (none n) (flat_map_none f ns none)

pub all_flat : {N A : Type 0} (P : A → Type 0) (f : N → List A) (ns : List N) → ((n : N) → All P (f n)) → All P (flat_map f ns)
all_flat P f [] each = All-nil P
all_flat P f (n ∷ ns) each = All-append P (f n) (flat_map f ns) (each n) (all_flat P f ns each)

-- Of a range of numbers only one has items.
module _ {A : Type 0} (f : ℕ → List A) (one : ℕ) (none : (n : ℕ) → (n ≡ one → ⊥) → f n ≡ []) where
  in_range : (first count : ℕ) → flat_map f (range_with_len first count) ≡ cond (nat_le first one && nat_lt one (first + count)) (f one) []
  in_range first zero = grind (arith, nat_tests)
  in_range first (suc count) = grind (arith, nat_tests, append-nil, none first, in_range (first + 1) count)

  pub only_one : (count : ℕ) → (count ≤ one → f one ≡ []) → flat_map f (range_with_len 0 count) ≡ f one
  only_one count past = grind (arith, nat_tests, in_range 0 count)

  pub no_more_than_one : (count : ℕ) → length (flat_map f (range_with_len 0 count)) ≤ length (f one)
  no_more_than_one count = grind (arith, in_range 0 count)

-- ---- the unit that decides

-- the last set of the units that passes
abbrev pub decides : (SetUnit → Bool) → List Unit → Option SetUnit
decides test us = last (filter test (set_units us))

abbrev pub brings : (SetUnit → Bool) → Unit → Bool
brings test u = satisfies test (set_unit u)

abbrev pub set_in : Option Unit → Option SetUnit
set_in (Some u) = set_unit u
set_in None = None

pub set_units-append : (us vs : List Unit) → set_units (us ++ vs) ≡ set_units us ++ set_units vs
set_units-append [] vs = refl
set_units-append (u ∷ us) vs =
    ap (λ l. list_of (set_unit u) ++ l) (set_units-append us vs)
    ∙ sym (append_assoc (list_of (set_unit u)) (set_units us) (set_units vs))

-- one unit's sets in front
pub sets_then : (sets : List SetUnit) (u : Unit) (us : List Unit) → (sets ++ set_units (u ∷ [])) ++ set_units us ≡ sets ++ set_units (u ∷ us)
sets_then sets u us = append_assoc sets (set_units (u ∷ [])) (set_units us) ∙ ap (λ l. sets ++ l) (sym (set_units-append (u ∷ []) us))

-- the sets of one unit more
pub set_units_more : (before old new : List SetUnit) (u : Unit) (done : List Unit) → new ≡ old ++ set_units (u ∷ []) → old ≡ before ++ set_units done
    → new ≡ before ++ set_units (done ++ u ∷ [])
set_units_more before old new u done put is =
    put ∙ ap (λ l. l ++ set_units (u ∷ [])) is ∙ append_assoc before (set_units done) (set_units (u ∷ [])) ∙ ap (λ l. before ++ l) (sym (set_units-append done (u ∷ [])))

first_set : (test : SetUnit → Bool) (u : Unit) (o : Option SetUnit) (sets : List SetUnit) (us : List Unit) → set_unit u ≡ o → map Some (filter test sets) ≡ map set_unit us
    → map Some (filter test (list_of o ++ sets)) ≡ map set_unit (cond (satisfies test o) (u ∷ us) us)
first_set test u o sets us is others = grind arith

-- The sets that pass are those of the units that bring one that passes.
passing_sets : (test : SetUnit → Bool) (us : List Unit) → map Some (filter test (set_units us)) ≡ map set_unit (filter (brings test) us)
passing_sets test [] = refl
passing_sets test (u ∷ us) = first_set test u (set_unit u) (set_units us) (filter (brings test) us) refl (passing_sets test us)

one_set : (set : Option SetUnit) (o : Option Unit) → option_map Some set ≡ option_map set_unit o → set ≡ set_in o
one_set set o is = grind arith

-- The set that decides is that of the last unit which brings one that passes.
pub chosen : (test : SetUnit → Bool) (us : List Unit) → decides test us ≡ set_in (last (filter (brings test) us))
chosen test us =
    one_set (decides test us) (last (filter (brings test) us))
    (sym (last-map Some (filter test (set_units us))) ∙ ap last (passing_sets test us) ∙ last-map set_unit (filter (brings test) us))

-- What holds of all units that bring a set that passes holds of the one that decides.
pub all_deciding : (P : Unit → Type 0) (in_force : Bool) (test : SetUnit → Bool) (us : List Unit) → All P (filter (brings test) us)
    → All P (deciding_unit in_force test us)
all_deciding P true test us h = all_last P (filter (brings test) us) h
all_deciding P false test us h = All-nil P

deciding_brings : (in_force : Bool) (test : SetUnit → Bool) (us : List Unit) → All (λ u. brings test u ≡ true) (deciding_unit in_force test us)
deciding_brings in_force test us = all_deciding (λ u. brings test u ≡ true) in_force test us (filter_passes (brings test) us)

pub own_unit : (in_force : Bool) (test : SetUnit → Bool) (us : List Unit) → filter (brings test) (deciding_unit in_force test us) ≡ deciding_unit in_force test us
own_unit in_force test us = filtered (brings test) true (deciding_unit in_force test us) (deciding_brings in_force test us)

-- no set passes both tests
abbrev pub AreApart : (test other : SetUnit → Bool) → Type 0
AreApart test other = (s : SetUnit) → other s ≡ true → test s ≡ false

missing : (test other : SetUnit → Bool) → AreApart test other → (o : Option SetUnit) → satisfies other o ≡ true → satisfies test o ≡ false
missing test other apart o passes = grind (arith, apart)

-- It brings none for another id, nor of the other kind.
pub other_unit : (test other : SetUnit → Bool) → AreApart test other → (in_force : Bool) (us : List Unit)
    → filter (brings test) (deciding_unit in_force other us) ≡ []
other_unit test other apart in_force us =
    filtered (brings test) false (deciding_unit in_force other us)
    (All-weaker (λ u. brings other u ≡ true) (λ u. brings test u ≡ false) (λ u. missing test other apart (set_unit u)) _ (deciding_brings in_force other us))

-- ---- what a parameter set's unit says

pub refused_as : {A : Type 0} (r : Result A SetFault) (fault : Option SetFault) → fault ≡ refused r
    → refusal_of (option_map (λ why. why.fault) fault) ≡ refusal_of (fault_in r)
refused_as r fault put = grind arith

-- It is no slice.
pub set_step : (r : Result Step OutOfMemory) (fault : Option Fault) (P : Slice → Type 0) → IfOk r (λ s. s ≡ ends_picture (refusal_of fault)) → IfOk r (λ s. IfSlice s.next P)
set_step (Ok s) None P is = rw is tt
set_step (Ok s) (Some f) P is = rw is tt
set_step (Err e) fault P is = tt

-- a unit with an RBSP is not too long
pub has-body : (u : Unit) (bytes : List ℕ) → rbsp_of u ≡ Some bytes → is_some u.body ≡ true
has-body u bytes e = by u.body e
  where
    by : (o : Option (List ℕ)) → (elim o as (λ _. Option (List ℕ)) [ Some body ↦ Some (rbsp body) | None ↦ None ]) ≡ Some bytes → is_some o ≡ true
    by (Some body) e = refl
    by None e = absurd (none-some bytes e)

pub on-err : {A E : Type 0} (r : Result A E) (P : Type 0) → P → OnErr r P
on-err (Ok x) P p = tt
on-err (Err e) P p = p

-- a set that is put into the table is told by its fault
pub fault_told : {A : Type 0} (r : Result A SetFault) (fault : Option SetFault) (said : Option Fault) (next : Next) (step : Step) → step ≡ ends_picture next
    → next ≡ refusal_of (option_map (λ why. why.fault) fault) → fault ≡ refused r → fault_in r ≡ said → step ≡ ends_picture (refusal_of said)
fault_told r fault said next step is_step is_next put is_said = is_step ∙ ap ends_picture (is_next ∙ refused_as r fault put ∙ ap refusal_of is_said)

-- ---- what a unit brings, by its first byte, its kind and its RBSP

-- forbidden_zero_bit by the test of the first byte
pub is_allowed : (header : ℕ) → header < 128 → forbidden_zero_bit header ≡ false
is_allowed header low = lt-leb 128 header low

pub is_forbidden : (header : ℕ) → 128 ≤ header → forbidden_zero_bit header ≡ true
is_forbidden header high = le-leb 128 header high

pub no_set : (u : Unit) → 128 ≤ u.header → None ≡ set_unit u
no_set u high = rw (set_unit, is_forbidden u.header high) refl

pub set_by : (u : Unit) (k : Kind) (read : Option (List ℕ)) → u.header < 128 → k ≡ kind u → read ≡ rbsp_of u → set_of k read ≡ set_unit u
set_by u k read low is has = rw (set_unit, is_allowed u.header low, is, has) refl

pub set_read : (u : Unit) (k : Kind) (read : Option (List ℕ)) (set : Option ParameterSet) → u.header < 128 → k ≡ kind u → read ≡ rbsp_of u
    → set ≡ option_map parameter_set (set_of k read) → set ≡ option_map parameter_set (set_unit u)
set_read u k read set low is has value = value ∙ ap (option_map parameter_set) (set_by u k read low is has)

-- of other kinds
pub none_read : (k : UnitKind) (read : Option (List ℕ)) → (k ≡ kinds.Sps → ⊥) → (k ≡ kinds.Pps → ⊥) → None ≡ set_of (meant k) read
none_read (kinds.Slice idr) read no_sps no_pps = refl
none_read kinds.Partition read no_sps no_pps = refl
none_read kinds.Sps read no_sps no_pps = absurd (no_sps refl)
none_read kinds.Pps read no_sps no_pps = absurd (no_pps refl)
none_read kinds.Boundary read no_sps no_pps = refl
none_read kinds.Other read no_sps no_pps = refl

pub more_sets : (before : List SetUnit) (u : Unit) (k : Kind) (read : Option (List ℕ)) → u.header < 128 → k ≡ kind u → read ≡ rbsp_of u
    → before ++ list_of (set_of k read) ≡ before ++ set_units (u ∷ [])
more_sets before u k read low is has = ap (λ s. before ++ s) (sym (append-nil (list_of (set_of k read))) ∙ ap (λ s. list_of s ++ []) (set_by u k read low is has))

-- a kind without RBSP
abbrev IsUnread : UnitKind → Type 0
IsUnread k = (k ≡ kinds.Boundary) ⊎ (k ≡ kinds.Other)

pub unread_set : (k : UnitKind) (read : Option (List ℕ)) → IsUnread k → None ≡ set_of (meant k) read
unread_set (kinds.Slice idr) read unread = refl
unread_set kinds.Partition read unread = refl
unread_set kinds.Sps read unread = grind arith
unread_set kinds.Pps read unread = grind arith
unread_set kinds.Boundary read unread = refl
unread_set kinds.Other read unread = refl

pub unread_brought : (sets : Sets) (header : ℕ) (k : UnitKind) (read : Option (List ℕ)) → IsUnread k → brings_kinds.Nothing ≡ brought_by sets header (meant k) read
unread_brought sets header (kinds.Slice idr) read unread = grind arith
unread_brought sets header kinds.Partition read unread = grind arith
unread_brought sets header kinds.Sps read unread = grind arith
unread_brought sets header kinds.Pps read unread = grind arith
unread_brought sets header kinds.Boundary read unread = refl
unread_brought sets header kinds.Other read unread = refl

pub is_read_by : (k : UnitKind) → (k ≡ kinds.Partition → ⊥) → (k ≡ kinds.Boundary → ⊥) → (k ≡ kinds.Other → ⊥) → is_read (meant k) ≡ true
is_read_by (kinds.Slice idr) no_partition no_boundary no_other = refl
is_read_by kinds.Partition no_partition no_boundary no_other = absurd (no_partition refl)
is_read_by kinds.Sps no_partition no_boundary no_other = refl
is_read_by kinds.Pps no_partition no_boundary no_other = refl
is_read_by kinds.Boundary no_partition no_boundary no_other = absurd (no_boundary refl)
is_read_by kinds.Other no_partition no_boundary no_other = absurd (no_other refl)

pub too_long : (sets : Sets) (header : ℕ) (k : Kind) → is_read k ≡ true → brings_kinds.Refused faults.NalTooLong ≡ brought_by sets header k None
too_long sets header (slice idr) read = refl
too_long sets header sps read = refl
too_long sets header pps read = refl
too_long sets header _ read = cc

pub too_long_set : (k : Kind) → None ≡ set_of k None
too_long_set (slice idr) = refl
too_long_set partition = refl
too_long_set sps = refl
too_long_set pps = refl
too_long_set boundary = refl
too_long_set other_kind = refl

pub may_want : (u : Unit) (k : Kind) → u.header < 128 → k ≡ kind u → is_read k ≡ true → is_some u.body ≡ true → MayWantMemory u
may_want u k low is read body = record { allowed = is_allowed u.header low; not_too_long = body; read = ap is_read (sym is) ∙ read }

pub brought-by : (sets : Sets) (u : Unit) (k : Kind) (read : Option (List ℕ)) → u.header < 128 → k ≡ kind u → read ≡ rbsp_of u
    → brought_by sets u.header k read ≡ brought sets u
brought-by sets u k read low is has = rw (brought, is_allowed u.header low, is, has) refl

-- a unit whose forbidden_zero_bit is 1
pub forbidden_brought : (sets : Sets) (u : Unit) → 128 ≤ u.header → brings_kinds.Refused faults.ForbiddenBit ≡ brought sets u
forbidden_brought sets u high = rw (brought, is_forbidden u.header high) refl

pub forbidden_sets : (before : List SetUnit) (u : Unit) → 128 ≤ u.header → before ≡ before ++ set_units (u ∷ [])
forbidden_sets before u high = sym (append-nil before) ∙ ap (λ s. before ++ (list_of s ++ [])) (no_set u high)

-- a unit whose RBSP is read
pub read_brought : (result : Result Brought OutOfMemory) (table before : List SetUnit) → table ≡ before → (u : Unit) (k : Kind) (rbsp seen : List ℕ) → u.header < 128 → k ≡ kind u
    → Some rbsp ≡ rbsp_of u → seen ≡ rbsp → IfOk result (λ b. b ≡ brought_by (sets_after table) u.header k (Some seen)) → IfOk result (λ b. b ≡ brought (sets_after before) u)
read_brought result table before same_table u k rbsp seen low is has same read =
    subst (λ v. IfOk result (λ b. b ≡ v)) (brought-by (sets_after table) u k (Some seen) low is (ap (λ bytes. Some bytes) same ∙ has) ∙ ap (λ sets. brought (sets_after sets) u) same_table) read

pub read_sets : (result : Result Brought OutOfMemory) (table before after : List SetUnit) → table ≡ before → (u : Unit) (k : Kind) (rbsp seen : List ℕ) → u.header < 128 → k ≡ kind u
    → Some rbsp ≡ rbsp_of u → seen ≡ rbsp → OnOk result (after ≡ table ++ list_of (set_of k (Some seen))) → OnOk result (after ≡ before ++ set_units (u ∷ []))
read_sets result table before after same_table u k rbsp seen low is has same read =
    subst (λ v. OnOk result (after ≡ v)) (more_sets table u k (Some seen) low is (ap (λ bytes. Some bytes) same ∙ has) ∙ ap (λ sets. sets ++ set_units (u ∷ [])) same_table) read

-- ---- parameter sets that are sent again: sets come alike

alike : {A B : Type 0} (record_of : Option B → A) (these those more : List B) → record_of (last these) ≡ record_of (last those)
    → record_of (last (these ++ more)) ≡ record_of (last (those ++ more))
alike record_of these those [] same = rw (append-nil these, append-nil those) same
alike record_of these those (s ∷ more) same = rw (last_behind these s more, last_behind those s more) refl

alike_at : {A : Type 0} (record_of : Option SetUnit → A) (test : SetUnit → Bool) (these those more : List SetUnit)
    → record_of (last (filter test these)) ≡ record_of (last (filter test those))
    → record_of (last (filter test (these ++ more))) ≡ record_of (last (filter test (those ++ more)))
alike_at record_of test these those more same =
    rw (filter-append test these more, filter-append test those more) (alike record_of (filter test these) (filter test those) (filter test more) same)

-- sets by their two tables
sets_by : (these those : Sets) → ((id : ℕ) → these.sps id ≡ those.sps id) → ((id : ℕ) → these.pps id ≡ those.pps id) → these ≡ those
sets_by these those by_sps by_pps = λ i. record { sps = fun_ext by_sps i; pps = fun_ext by_pps i }

pub come_alike : SetsComeAlike
come_alike these those more same =
    sets_by (sets_after (these ++ more)) (sets_after (those ++ more))
    (λ id. alike_at sps_record (is_sps id) these those more (ap (λ sets. sets.sps id) same))
    (λ id. alike_at pps_record (is_pps id) these those more (ap (λ sets. sets.pps id) same))

-- ---- sets are in force again

-- the units whose records are in force, of one kind, by id and all
abbrev pub units_by : {A : Type 0} → (Option SetUnit → Option A) → (ℕ → SetUnit → Bool) → List Unit → ℕ → List Unit
units_by record_of test before id = deciding_unit (is_some (record_of (decides (test id) before))) (test id) before

abbrev pub all_by : {A : Type 0} → (Option SetUnit → Option A) → (ℕ → SetUnit → Bool) → List Unit → (count : ℕ) → List Unit
all_by record_of test before count = flat_map (units_by record_of test before) (range_with_len 0 count)

-- a set has one id
abbrev pub HasOneId : (ℕ → SetUnit → Bool) → Type 0
HasOneId test = (i j : ℕ) (s : SetUnit) → test i s ≡ true → test j s ≡ true → i ≡ j

ids_apart : (test : ℕ → SetUnit → Bool) → HasOneId test → (id j : ℕ) → (j ≡ id → ⊥) → AreApart (test id) (test j)
ids_apart test one_id id j differ s passes = grind (arith, one_id j id s passes)

is_id-one : (i j : ℕ) (read : Option ℕ) → is_id i read ≡ true → is_id j read ≡ true → i ≡ j
is_id-one i j read first second = grind (arith, nat_tests)

sps_one_id : HasOneId is_sps
sps_one_id i j (OfSps rbsp) first second = is_id-one i j (sps_id rbsp) first second
sps_one_id i j (OfPps rbsp) first second = cc

pps_one_id : HasOneId is_pps
pps_one_id i j (OfSps rbsp) first second = cc
pps_one_id i j (OfPps rbsp) first second = is_id-one i j (pps_id rbsp) first second

no_sps : (id j : ℕ) → AreApart (is_sps id) (is_pps j)
no_sps id j s passes = grind arith

no_pps : (id j : ℕ) → AreApart (is_pps id) (is_sps j)
no_pps id j s passes = grind arith

module _ {A : Type 0} (record_of : Option SetUnit → Option A) (test : ℕ → SetUnit → Bool) (before : List Unit) where
  -- of the units of one kind those of an id are the ones in force under it
  of_id : HasOneId test → (count id : ℕ) → ((a : A) → record_of (decides (test id) before) ≡ Some a → id < count)
      → filter (brings (test id)) (all_by record_of test before count) ≡ units_by record_of test before id
  of_id one_id count id low =
      let own = own_unit (is_some (record_of (decides (test id) before))) (test id) before in
      filter-flat_map (brings (test id)) (units_by record_of test before) (range_with_len 0 count)
      ∙ only_one (λ j. filter (brings (test id)) (units_by record_of test before j)) id
      (λ j differ. other_unit (test id) (test j) (ids_apart test one_id id j differ) _ before)
      count (λ high. own ∙ none (record_of (decides (test id) before)) low high)
      ∙ own
    where
      none : (r : Option A) → ((a : A) → r ≡ Some a → id < count) → count ≤ id → deciding_unit (is_some r) (test id) before ≡ []
      none None low high = refl
      none (Some a) low high = let wrong = low a refl in absurd (omega (arith, wrong, high))

  -- and none of them is of the other kind
  none_of : (other_test : SetUnit → Bool) → ((j : ℕ) → AreApart other_test (test j)) → (count : ℕ) → filter (brings other_test) (all_by record_of test before count) ≡ []
  none_of other_test apart count =
      filter-flat_map (brings other_test) (units_by record_of test before) (range_with_len 0 count)
      ∙ flat_map_none (λ j. filter (brings other_test) (units_by record_of test before j)) (range_with_len 0 count) (λ j. other_unit other_test (test j) (apart j) _ before)

-- The unit in force decides alone as it did among the others.
again_by : {A : Type 0} (record_of : Option SetUnit → Option A) → record_of None ≡ None → (test : SetUnit → Bool) (before us : List Unit) (r : Option A)
    → record_of (decides test before) ≡ r → filter (brings test) us ≡ deciding_unit (is_some r) test before → record_of (decides test us) ≡ r
again_by record_of none test before us None is same = rw (chosen test us, same) none
again_by record_of none test before us (Some a) is same =
    rw (chosen test us, same, last_of_list (last (filter (brings test) before)), ← chosen test before) is

-- the units of both kinds, of so many ids
abbrev pub units_of_both : List Unit → (sps_count pps_count : ℕ) → List Unit
units_of_both before sps_count pps_count = all_by sps_record is_sps before sps_count ++ all_by pps_record is_pps before pps_count

module _ (before : List Unit) (sps_count pps_count : ℕ) where
  abbrev of_sps : List Unit
  of_sps = all_by sps_record is_sps before sps_count

  abbrev of_pps : List Unit
  of_pps = all_by pps_record is_pps before pps_count

  sps_again : (id : ℕ) → ((set : _) → sps_in_force (set_units before) id ≡ Some set → id < sps_count)
      → sps_in_force (set_units (of_sps ++ of_pps)) id ≡ sps_in_force (set_units before) id
  sps_again id low =
      again_by sps_record refl (is_sps id) before (of_sps ++ of_pps) _ refl
      (filter-append (brings (is_sps id)) of_sps of_pps
      ∙ rw (of_id sps_record is_sps before sps_one_id sps_count id low, none_of pps_record is_pps before (is_sps id) (no_sps id) pps_count) (append-nil _))

  pps_again : (id : ℕ) → ((set : _) → pps_in_force (set_units before) id ≡ Some set → id < pps_count)
      → pps_in_force (set_units (of_sps ++ of_pps)) id ≡ pps_in_force (set_units before) id
  pps_again id low =
      again_by pps_record refl (is_pps id) before (of_sps ++ of_pps) _ refl
      (filter-append (brings (is_pps id)) of_sps of_pps
      ∙ rw (none_of sps_record is_sps before (is_pps id) (no_pps id) sps_count) (of_id pps_record is_pps before pps_one_id pps_count id low))

both_again : (before : List Unit) (sps_count pps_count : ℕ) → ((id : ℕ) (set : _) → sps_in_force (set_units before) id ≡ Some set → id < sps_count)
    → ((id : ℕ) (set : _) → pps_in_force (set_units before) id ≡ Some set → id < pps_count)
    → tables (units_of_both before sps_count pps_count) ≡ tables before
both_again before sps_count pps_count sps_low pps_low =
    sets_by (tables (units_of_both before sps_count pps_count)) (tables before)
    (λ id. sps_again before sps_count pps_count id (sps_low id))
    (λ id. pps_again before sps_count pps_count id (pps_low id))

pub in_force_again : SpsInForceKeepsLimits → PpsInForceKeepsLimits → SetsAreInForceAgain
in_force_again sps_law pps_law before =
    both_again before 32 256
    (λ id set is. let kept = sps_law (set_units before) id set is in omega (arith, kept.within.id, kept.id_is))
    (λ id set is. let kept = pps_law (set_units before) id set is in omega (arith, kept.within.id, kept.id_is))

-- ---- sets in force are units

-- the fault of a set's unit
abbrev fault_of : SetUnit → Option Fault
fault_of (OfSps rbsp) = fault_in (sps_of rbsp)
fault_of (OfPps rbsp) = fault_in (pps_of rbsp)

-- a set with a record has no fault
abbrev HasNoFault : {A : Type 0} → (Option SetUnit → Option A) → Type 0
HasNoFault record_of = (s : SetUnit) → is_some (record_of (Some s)) ≡ true → fault_of s ≡ None

no_fault_in : {A : Type 0} (r : Result A SetFault) → is_some (accepted r) ≡ true → fault_in r ≡ None
no_fault_in r is = grind arith

sps_no_fault : HasNoFault sps_record
sps_no_fault (OfSps rbsp) is = no_fault_in (sps_of rbsp) is
sps_no_fault (OfPps rbsp) is = cc

pps_no_fault : HasNoFault pps_record
pps_no_fault (OfSps rbsp) is = cc
pps_no_fault (OfPps rbsp) is = no_fault_in (pps_of rbsp) is

-- It is not too long, and is taken without a fault where decoding waits.
record IsTaken (u : Unit) : Type 0 where
  pub short : IsTrue (is_some u.body)
  pub no_fault : (sets : Sets) → step sets false None u ≡ ends_picture Nothing

taken : (u : Unit) (s : SetUnit) (forbidden : Bool) (k : Kind) (read : Option (List ℕ)) → fault_of s ≡ None
    → forbidden_zero_bit u.header ≡ forbidden → kind u ≡ k → rbsp_of u ≡ read → (if forbidden then None else set_of k read) ≡ Some s → IsTaken u
taken u s true k read accepted allowed is_kind has is = cc
taken u s false sps (Some rbsp) accepted allowed is_kind has is =
    let none : fault_in (sps_of rbsp) ≡ None = cc in
    record { short = has-body u rbsp has; no_fault = λ sets. rw (step, allowed, is_kind, has, none) refl }
taken u s false pps (Some rbsp) accepted allowed is_kind has is =
    let none : fault_in (pps_of rbsp) ≡ None = cc in
    record { short = has-body u rbsp has; no_fault = λ sets. rw (step, allowed, is_kind, has, none) refl }
taken u s false _ read accepted allowed is_kind has is = cc

module _ {A : Type 0} (record_of : Option SetUnit → Option A) (no_fault : HasNoFault record_of) (no_record : record_of None ≡ None) (before : List Unit) where
  -- It stands among the units.
  record IsThere (u : Unit) : Type 0 where
    place : ℕ
    is_there : slice_get before place ≡ Some u

  all_there : All IsThere before
  all_there = λ k d within. record { place = k; is_there = slice_get-get_or before k d within }

  unit_of : (o : Option Unit) → All IsThere (unit_list o) → is_some (record_of (set_in o)) ≡ true → All (IsSetOf before) (unit_list o)
  unit_of None there in_force = All-nil (IsSetOf before)
  unit_of (Some u) there in_force = by (set_unit u) refl in_force
    where
      by : (set : Option SetUnit) → set_unit u ≡ set → is_some (record_of set) ≡ true → All (IsSetOf before) (u ∷ [])
      by None is in_force = let wrong = ap is_some no_record in cc
      by (Some s) is in_force =
          let here = All-head IsThere u [] there in
          let t = taken u s (forbidden_zero_bit u.header) (kind u) (rbsp_of u) (no_fault s in_force) refl refl refl is in
          All-cons (IsSetOf before) u [] (record { place = here.place; is_there = here.is_there; short = t.short; no_fault = t.no_fault }) (All-nil (IsSetOf before))

  deciding_by : (test : SetUnit → Bool) (in_force : Bool) → is_some (record_of (decides test before)) ≡ in_force → All (IsSetOf before) (deciding_unit in_force test before)
  deciding_by test true is =
      unit_of (last (filter (brings test) before)) (all_last IsThere _ (All-filter (brings test) IsThere before all_there))
      (ap (λ set. is_some (record_of set)) (sym (chosen test before)) ∙ is)
  deciding_by test false is = All-nil (IsSetOf before)

  of_one_kind : (test : ℕ → SetUnit → Bool) (ids : List ℕ) → All (IsSetOf before) (flat_map (units_by record_of test before) ids)
  of_one_kind test ids = all_flat (IsSetOf before) (units_by record_of test before) ids (λ id. deciding_by (test id) _ refl)

pub in_force_are_units : SetsInForceAreUnits
in_force_are_units before =
    All-append (IsSetOf before) _ _ (of_one_kind sps_record sps_no_fault refl before is_sps (range_with_len 0 32))
    (of_one_kind pps_record pps_no_fault refl before is_pps (range_with_len 0 256))

-- ---- what a slice's unit does

-- A slice's unit with its RBSP.
abbrev read_from : Sets → Unit → List ℕ → Result Slice Fault
read_from sets u rbsp = with_header u rbsp (header_in_rbsp u.header sets rbsp)

by-start : (running starts idr : Bool) (open_picture : Option OpenPictureFacts) (sets : Sets) (u : Unit) (read : Result Slice Fault) → is_start u ≡ starts → slice_in sets u ≡ read
    → slice_or_start running open_picture starts read ≡ elim running [ true ↦ running_step sets open_picture u (slice idr) | false ↦ waiting_step sets u (slice idr) ]
by-start true starts idr open_picture sets u read is is_read = rw (is, is_read) refl
by-start false true idr open_picture sets u read is is_read = rw (waiting_step, is, is_read) refl
by-start false false idr open_picture sets u read is is_read = rw (waiting_step, is) refl

type_by : (idr one five parts seven eight others : Bool) → (one ≡ true → five ≡ false)
    → (if one then slice false else (if five then slice true else (if parts then partition else (if seven then sps else (if eight then pps else (if others then boundary else other_kind)))))) ≡ slice idr
    → five ≡ idr
type_by idr one five parts seven eight others apart is = grind arith

one_is_not_five : (type : ℕ) → (type == 1) ≡ true → (type == 5) ≡ false
one_is_not_five type is = grind (arith, nat_tests)

slice_type : (type : ℕ) (idr : Bool) → kind_of type ≡ slice idr → (type == 5) ≡ idr
slice_type type idr is = type_by idr (type == 1) (type == 5) _ (type == 7) (type == 8) _ (one_is_not_five type) is

starts-by : (u : Unit) (idr : Bool) (rbsp : List ℕ) → forbidden_zero_bit u.header ≡ false → kind u ≡ slice idr → rbsp_of u ≡ Some rbsp → is_start u ≡ (idr && reads_zero (ue (start rbsp)))
starts-by u idr rbsp allowed is read = rw (is_start, allowed, slice_type (nal_unit_type u.header) idr is, read) refl

read-by : (sets : Sets) (u : Unit) (rbsp : List ℕ) → rbsp_of u ≡ Some rbsp → slice_in sets u ≡ read_from sets u rbsp
read-by sets u rbsp read = rw (slice_in, read) refl

-- a slice whose header was read in its place
pub slice_read : (u : Unit) (rbsp : List ℕ) (s : Slice) (read : Result Header Fault) → s.unit ≡ u.index → s.rbsp ≡ rbsp → Ok s.header ≡ read → Ok s ≡ with_header u rbsp read
slice_read u rbsp s read is_unit is_rbsp is = (λ i. Ok (record { unit = is_unit i; header = s.header; rbsp = is_rbsp i })) ∙ ap (with_header u rbsp) is

-- with its RBSP
pub slice_or_start-read : (running idr : Bool) (open_picture : Option OpenPictureFacts) (sets : Sets) (u : Unit) (rbsp seen : List ℕ) (starts : Bool) (read : Result Slice Fault)
    → forbidden_zero_bit u.header ≡ false → kind u ≡ slice idr → rbsp_of u ≡ Some rbsp → seen ≡ rbsp → starts ≡ (idr && reads_zero (ue (start seen))) → read ≡ read_from sets u rbsp
    → slice_or_start running open_picture starts read ≡ elim running [ true ↦ running_step sets open_picture u (slice idr) | false ↦ waiting_step sets u (slice idr) ]
slice_or_start-read running idr open_picture sets u rbsp seen starts read allowed is has same is_starts is_read =
    by-start running starts idr open_picture sets u read (starts-by u idr rbsp allowed is has ∙ ap (λ bytes. idr && reads_zero (ue (start bytes))) (sym same) ∙ sym is_starts) (read-by sets u rbsp has ∙ sym is_read)

-- ---- a slice that comes was read

step-kept : (P : Slice → Type 0) (open_picture : Option OpenPictureFacts) (starts : Bool) (read : Result Slice Fault) → IfOk read P → IfSlice (slice_step open_picture starts read).next P
step-kept P None starts (Ok s) kept = kept
step-kept P (Some o) starts (Ok s) kept = by-picture (begins o.last s.header) refl
  where
    by-picture : (new : Bool) → begins o.last s.header ≡ new → IfSlice (readable (Some o) starts s).next P
    by-picture true is = rw (readable, is) kept
    by-picture false is = rw (readable, is) kept
step-kept P None starts (Err f) kept = tt
step-kept P (Some o) starts (Err f) kept = by-full o.full refl
  where
    by-full : (full : Bool) → o.full ≡ full → IfSlice (unreadable (Some o) f).next P
    by-full true is = rw (unreadable, is) tt
    by-full false is = rw (unreadable, is) tt

slice_or_start-kept : (P : Slice → Type 0) (running : Bool) (open_picture : Option OpenPictureFacts) (starts : Bool) (read : Result Slice Fault) → IfOk read P → IfSlice (slice_or_start running open_picture starts read).next P
slice_or_start-kept P true open_picture starts read kept = step-kept P open_picture starts read kept
slice_or_start-kept P false open_picture true read kept = step-kept P None true read kept
slice_or_start-kept P false open_picture false read kept = tt

pub slice_or_start-under : (step : Step) (running : Bool) (open_picture : Option OpenPictureFacts) (starts : Bool) (read : Result Slice Fault) (sets : Sets) → step ≡ slice_or_start running open_picture starts read
    → IfOk read (IsSliceUnder sets) → IfSlice step.next (IsSliceUnder sets)
slice_or_start-under step running open_picture starts read sets same kept =
    rw same (slice_or_start-kept (IsSliceUnder sets) running open_picture starts read kept)

-- ---- what a unit does, by its first byte and its kind

-- what a slice brings where it is no slice
pub slice_or_start-if : (P : Slice → Type 0) (step : Step) (running : Bool) (open_picture : Option OpenPictureFacts) (starts : Bool) (read : Result Slice Fault)
    → step ≡ slice_or_start running open_picture starts read → IfOk read P → IfSlice step.next P
slice_or_start-if P step running open_picture starts read same kept = rw same (slice_or_start-kept P running open_picture starts read kept)

pub partition_step : (running : Bool) (open_picture : Option OpenPictureFacts) (sets : Sets) (u : Unit) → slice_or_start running open_picture false (Err faults.DataPartition)
    ≡ elim running [ true ↦ running_step sets open_picture u partition | false ↦ waiting_step sets u partition ]
partition_step true open_picture sets u = refl
partition_step false open_picture sets u = refl

-- what holds anyway
pub always_kept : (next : Next) (P : Type 0) → P → IfSlice next (λ _. P)
always_kept Nothing P p = tt
always_kept (Refusal f) P p = tt
always_kept (FaultOfOpen f) P p = tt
always_kept (FaultOfOwn f) P p = tt
always_kept (Begins s) P p = p
always_kept (Continues s) P p = p

pub always_brought : (r : Result Step OutOfMemory) (P : Type 0) → P → IfOk r (λ s. IfSlice s.next (λ _. P))
always_brought (Ok s) P p = always_kept s.next P p
always_brought (Err e) P p = tt

pub on-ok : {A E : Type 0} (r : Result A E) (P : Type 0) → P → OnOk r P
on-ok (Ok x) P p = p
on-ok (Err e) P p = tt

pub step-by : (r : Result Step OutOfMemory) (sets : Sets) (context : UnitContext) (u : Unit) (k : Kind) → u.header < 128 → k ≡ kind u
    → IfOk r (λ s. s ≡ step_by context sets u k) → IfOk r (λ s. s ≡ step sets context.running (open_picture_in context) u)
step-by r sets context u k low is did = subst (λ v. IfOk r (λ s. s ≡ v)) (here is) did
  where
    here : k ≡ kind u → step_by context sets u k ≡ step sets context.running (open_picture_in context) u
    here same = rw (step, is_allowed u.header low, same) refl

pub step_sets : (r : Result Step OutOfMemory) (before after : List SetUnit) (u : Unit) (k : Kind) → u.header < 128 → k ≡ kind u
    → OnOk r (after ≡ before ++ list_of (set_of k (rbsp_of u))) → OnOk r (after ≡ before ++ set_units (u ∷ []))
step_sets r before after u k low is did = subst (λ v. OnOk r (after ≡ v)) (more_sets before u k (rbsp_of u) low is refl) did

pub step_wants : (r : Result Step OutOfMemory) (u : Unit) (k : Kind) → u.header < 128 → k ≡ kind u → OnErr r (is_some u.body ≡ true) → OnErr r (is_read k ≡ true) → OnErr r (MayWantMemory u)
step_wants (Ok s) u k low is body read = tt
step_wants (Err e) u k low is body read = may_want u k low is read body

pub forbidden_step : (sets : Sets) (running : Bool) (open_picture : Option OpenPictureFacts) (u : Unit) → 128 ≤ u.header
    → record { closes = false; next = Refusal faults.ForbiddenBit; even_after_fault = true } ≡ step sets running open_picture u
forbidden_step sets running open_picture u high = rw (step, is_forbidden u.header high) refl

-- ---- the units that brought the parameter sets in force are no more than the units of the stream: each brings a set of one id

-- ---- units by the test that their sets pass

-- the units that bring a set of each of these ids
abbrev passing : (ℕ → SetUnit → Bool) → (ids : List ℕ) → List Unit → List Unit
passing test ids us = flat_map (λ id. filter (brings (test id)) us) ids

filtered_more : (p : Unit → Bool) (u : Unit) (us : List Unit) → length (filter p (u ∷ us)) ≡ length (filter p (u ∷ [])) + length (filter p us)
filtered_more p u us = grind arith

passing_more : (test : ℕ → SetUnit → Bool) (ids : List ℕ) (u : Unit) (us : List Unit)
    → length (passing test ids (u ∷ us)) ≡ length (passing test ids (u ∷ [])) + length (passing test ids us)
passing_more test [] u us = refl
passing_more test (id ∷ ids) u us = simp length-append (omega (arith, filtered_more (brings (test id)) u us, passing_more test ids u us))

-- a unit whose set was read with one id, or with none
by_id : (u : Unit) (read : Option ℕ) (n : ℕ) → length (flat_map (λ id. cond (is_id id read) (u ∷ []) []) (range_with_len 0 n)) ≤ 1
by_id u None n = rw (flat_map_none (λ id. []) (range_with_len 0 n) (λ id. refl)) (omega arith)
by_id u (Some read) n =
    let few = no_more_than_one (λ id. cond (read == id) (u ∷ []) []) read (λ id differ. other id differ (read == id) refl) n in
    omega (arith, few, own (read == read))
  where
    other : (id : ℕ) → (id ≡ read → ⊥) → (same : Bool) → (read == id) ≡ same → cond same (u ∷ []) [] ≡ []
    other id differ true is = absurd (differ (sym (eqb-true read id is)))
    other id differ false is = refl

    own : (b : Bool) → length (cond b (u ∷ []) []) ≤ 1
    own b = grind arith

one_of_both : (u : Unit) (o : Option SetUnit) (n m : ℕ)
    → length (flat_map (λ id. cond (satisfies (is_sps id) o) (u ∷ []) []) (range_with_len 0 n)) + length (flat_map (λ id. cond (satisfies (is_pps id) o) (u ∷ []) []) (range_with_len 0 m)) ≤ 1
one_of_both u None n m = rw (flat_map_none (λ id. []) (range_with_len 0 n) (λ id. refl), flat_map_none (λ id. []) (range_with_len 0 m) (λ id. refl)) (omega arith)
one_of_both u (Some (OfSps rbsp)) n m = rw (flat_map_none (λ id. []) (range_with_len 0 m) (λ id. refl)) (omega (arith, by_id u (sps_id rbsp) n))
one_of_both u (Some (OfPps rbsp)) n m = rw (flat_map_none (λ id. []) (range_with_len 0 n) (λ id. refl)) (omega (arith, by_id u (pps_id rbsp) m))

both_few : (n m : ℕ) (us : List Unit) → length (passing is_sps (range_with_len 0 n) us) + length (passing is_pps (range_with_len 0 m) us) ≤ length us
both_few n m [] = rw (flat_map_none (λ id. []) (range_with_len 0 n) (λ id. refl), flat_map_none (λ id. []) (range_with_len 0 m) (λ id. refl)) (omega arith)
both_few n m (u ∷ us) =
    let of_sps = passing_more is_sps (range_with_len 0 n) u us in
    let of_pps = passing_more is_pps (range_with_len 0 m) u us in
    omega (arith, of_sps, of_pps, one_of_both u (set_unit u) n m, both_few n m us)

-- ---- the units that decide

last_few : (us : List Unit) → length (unit_list (last us)) ≤ length us
last_few [] = omega arith
last_few (u ∷ []) = omega arith
last_few (u ∷ v ∷ us) = omega (arith, last_few (v ∷ us))

deciding_few : (in_force : Bool) (test : SetUnit → Bool) (us : List Unit) → length (deciding_unit in_force test us) ≤ length (filter (brings test) us)
deciding_few true test us = last_few (filter (brings test) us)
deciding_few false test us = omega arith

all_few : {A : Type 0} (record_of : Option SetUnit → Option A) (test : ℕ → SetUnit → Bool) (before : List Unit) (ids : List ℕ)
    → length (flat_map (units_by record_of test before) ids) ≤ length (passing test ids before)
all_few record_of test before [] = omega arith
all_few record_of test before (id ∷ ids) =
    simp length-append (omega (arith, deciding_few (is_some (record_of (decides (test id) before))) (test id) before, all_few record_of test before ids))

few_of_both : (before : List Unit) (n m : ℕ)
    → length (flat_map (units_by sps_record is_sps before) (range_with_len 0 n) ++ flat_map (units_by pps_record is_pps before) (range_with_len 0 m)) ≤ length before
few_of_both before n m =
    let of_sps = all_few sps_record is_sps before (range_with_len 0 n) in
    let of_pps = all_few pps_record is_pps before (range_with_len 0 m) in
    simp length-append (omega (arith, of_sps, of_pps, both_few n m before))

pub in_force_are_few : SetsInForceAreFew
in_force_are_few before = few_of_both before 32 256
