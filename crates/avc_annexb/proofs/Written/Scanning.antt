-- A stream zero by zero and run by run, and what is still to come of an RBSP or of a unit with few bytes.
pub mod Common
unfoldable pub use Common.*

-- ---- through a stream: zero by zero, and run by run of other bytes

map_map : {A B C : Type 0} (f : B → C) (g : A → B) (o : Option A) → option_map f (option_map g o) ≡ option_map (λ x. f (g x)) o
map_map f g None = refl
map_map f g (Some x) = refl

passes_none : HasNoBoundary []
passes_none = grind (arith, option_map_id)

passes-append : (a b : List ℕ) → HasNoBoundary a → HasNoBoundary b → HasNoBoundary (a ++ b)
passes-append a b p q = record {
  ends = λ more. simp (append_assoc, p.ends, q.ends, map_map);
  zeros = λ more. simp (append_assoc, p.zeros, q.zeros);
  starts = λ place ended more. simp (append_assoc, p.starts, q.starts, length-append) (ap (λ n. placed_units n ended more) (omega arith));
}

pub placed_units-more : (place : ℕ) (ended : Bool) (b : ℕ) (bytes : List ℕ) → is_start (b ∷ bytes) ≡ false → placed_units place ended (b ∷ bytes) ≡ placed_units (place + 1) ended bytes
placed_units-more place ended b bytes no_start = rw (no_start, placed_units) refl

-- a byte at which no unit ends, before others
passes_more : (b : ℕ) (bytes : List ℕ) → ((more : List ℕ) → is_end (b ∷ bytes ++ more) ≡ false) → HasNoBoundary bytes → HasNoBoundary (b ∷ bytes)
passes_more zero [] no_end p = cc (no_end (0 ∷ 0 ∷ []))
passes_more b bytes no_end p = grind (arith, map_map, placed_units-more, or_parts)

passes_lone : (run : List ℕ) → HasLoneZeros run → HasNoBoundary run
passes_lone [] lone = passes_none
passes_lone (b ∷ run) lone =
    let others : HasLoneZeros run = λ k within is. rw add-one (rw add-one at (lone (suc k) (omega arith) is)) in
    passes_more b run (no_end b run lone) (passes_lone run others)
  where
    no_end : (b : ℕ) (run : List ℕ) → HasLoneZeros (b ∷ run) → (more : List ℕ) → is_end (b ∷ run ++ more) ≡ false
    no_end zero [] lone more = absurd (lone 0 (omega arith) refl refl)
    no_end zero (c ∷ run) lone more = rw (ne_eqb 0 c (λ e. lone 0 (omega arith) refl (sym e))) refl
    no_end (suc b) run lone more = rw (ne_eqb 0 (suc b) (λ e. omega (arith, e))) refl

-- a run, after some zeros that it doesn't make a start code of
passes_after : (count : ℕ) (run : List ℕ) → count ≤ 2 → HasLoneZeros run → 0 < length run → (1 ≤ count → slice_index run 0 ≢ 0) → (2 ≤ count → slice_index run 0 ≢ 1) → HasNoBoundary (replicate count 0 ++ run)
passes_after zero run few lone some no_zero no_start = passes_lone run lone
passes_after (suc zero) (b ∷ run) few lone some no_zero no_start =
    passes_more 0 (b ∷ run) (λ more. rw (ne_eqb 0 b (λ e. no_zero (omega arith) (sym e))) refl) (passes_lone (b ∷ run) lone)
passes_after (suc (suc zero)) (b ∷ run) few lone some no_zero no_start =
    let some_first : eqb 0 b ≡ false = ne_eqb 0 b (λ e. no_zero (omega arith) (sym e)) in
    passes_more 0 (0 ∷ b ∷ run) (λ more. rw (some_first, ne_eqb 1 b (λ e. no_start (omega arith) (sym e))) refl)
    (passes_more 0 (b ∷ run) (λ more. rw some_first refl) (passes_lone (b ∷ run) lone))
passes_after _ _ few lone some no_zero no_start = absurd (omega arith)

-- Nothing has come.
pub scanned_first : ScannedBytes [] [] None 0
scanned_first = record { few = omega arith; place = omega arith; rest = λ ended more. refl }

-- some bytes more, where what they make of the rest is known
scanned_more : (bytes : List ℕ) (done new : List PlacedUnit) (current current' : Option PlacedUnit) (count count' : ℕ) (run : List ℕ) →
    ScannedBytes bytes done current count → count' ≤ 2 → IsAt (length bytes + length run) current' count' →
    ((ended : Bool) (more : List ℕ) → placed_units_after (length bytes) current count ended (run ++ more) ≡ new ++ placed_units_after (length bytes + length run) current' count' ended more) →
    ScannedBytes (bytes ++ run) (done ++ new) current' count'
scanned_more bytes done new current current' count count' run s few place step = grind (arith, length-append, append_assoc)

-- zeros after zeros
zeros_join : (count n : ℕ) (more : List ℕ) → replicate count 0 ++ (replicate n 0 ++ more) ≡ replicate (count + n) 0 ++ more
zeros_join count n more = sym (append_assoc (replicate count 0) (replicate n 0) more) ∙ ap (λ z. z ++ more) (replicate-append-replicate count n 0)

-- no more than two zeros in a row
pub scanned_few : (n : ℕ) (bytes : List ℕ) (done : List PlacedUnit) (current : Option PlacedUnit) (count : ℕ) →
    ScannedBytes bytes done current count → count + n ≤ 2 →
    ScannedBytes (bytes ++ replicate n 0) done current (count + n)
scanned_few n bytes done current count s few =
    rw (append-nil done) at
    (scanned_more bytes done [] current current count (count + n) (replicate n 0) s few (few_place current (length bytes) s.place) (few_step current (length bytes) s.place))
  where
    few_place : (current : Option PlacedUnit) (m : ℕ) → IsAt m current count → IsAt (m + length {A = ℕ} (replicate n 0)) current (count + n)
    few_place None m p = omega (arith, length-replicate {A = ℕ} n 0)
    few_place (Some unit) m p = (omega (arith, p.0, length-replicate {A = ℕ} n 0), p.1)

    few_step : (current : Option PlacedUnit) (m : ℕ) → IsAt m current count → (ended : Bool) (more : List ℕ) →
        placed_units_after m current count ended (replicate n 0 ++ more) ≡ placed_units_after (m + length {A = ℕ} (replicate n 0)) current (count + n) ended more
    few_step None m p ended more = rw (zeros_join count n more) (ap (λ q. placed_units q ended (replicate (count + n) 0 ++ more)) (omega (arith, length-replicate {A = ℕ} n 0)))
    few_step (Some unit) m p ended more = rw (zeros_join count n more) refl

-- the unit that begins here, behind its start code, and the units after it
abbrev pub units_from : ℕ → Bool → List ℕ → List PlacedUnit
units_from place ended bytes = unit_at place (unit_bytes ended bytes) ++ placed_units place ended bytes

-- a start code
pub found_start : (place : ℕ) (ended : Bool) (more : List ℕ) → placed_units place ended (0 ∷ 0 ∷ 1 ∷ more) ≡ units_from (place + 3) ended more
found_start place ended more = ap (λ p. unit_at (place + 3) (unit_bytes ended more) ++ placed_units p ended more) (omega arith)

-- no unit begins in zeros
found_zeros : (place n : ℕ) (ended : Bool) (more : List ℕ) → placed_units place ended (0 ∷ 0 ∷ (replicate n 0 ++ more)) ≡ placed_units (place + n) ended (0 ∷ 0 ∷ more)
found_zeros place zero ended more = ap (λ p. placed_units p ended (0 ∷ 0 ∷ more)) (omega arith)
found_zeros place (suc n) ended more = found_zeros (place + 1) n ended more ∙ ap (λ p. placed_units p ended (0 ∷ 0 ∷ more)) (omega arith)

-- an open unit ends where a third zero or a start code stands
pub closes : (offset : ℕ) (bytes rest : List ℕ) (ended : Bool) → HasNoBoundary bytes → before_end rest ≡ Some [] →
    units_from offset ended (bytes ++ rest) ≡ unit_at offset (Some bytes) ++ placed_units (offset + length bytes) ended rest
closes offset bytes rest ended p stop = grind (arith, append-nil)

-- the same of the unit that may be open
closes_any : (current : Option PlacedUnit) (n count : ℕ) (ended : Bool) (more : List ℕ) → IsAt n current count → before_end (replicate count 0 ++ more) ≡ Some [] →
    (count ≤ n) × (placed_units_after n current count ended more ≡ closed_unit current ++ placed_units (n - count) ended (replicate count 0 ++ more))
closes_any None n count ended more p stop = (p, refl)
closes_any (Some unit) n count ended more p stop = grind (arith, closes)

-- three zeros in a row, or more
pub scanned_many : (n : ℕ) (bytes : List ℕ) (done : List PlacedUnit) (current : Option PlacedUnit) (count : ℕ) →
    ScannedBytes bytes done current count → 2 < count + n →
    ScannedBytes (bytes ++ replicate n 0) (done ++ closed_unit current) None 2
scanned_many n bytes done current count s many =
    scanned_more bytes done (closed_unit current) current None count 2 (replicate n 0) s (omega arith) (omega (arith, length-replicate {A = ℕ} n 0, (step true []).0)) (λ ended more. (step ended more).1)
  where
    step : (ended : Bool) (more : List ℕ) → (count ≤ length bytes)
        × (placed_units_after (length bytes) current count ended (replicate n 0 ++ more) ≡ closed_unit current ++ placed_units (length bytes + length {A = ℕ} (replicate n 0) - 2) ended (0 ∷ 0 ∷ more))
    step ended more =
        let left = count + n - 3 in
        let sum : count + n ≡ suc (suc (suc left)) = omega arith in
        let zeros : replicate count 0 ++ (replicate n 0 ++ more) ≡ replicate (suc (suc (suc left))) 0 ++ more = zeros_join count n more ∙ ap (λ m. replicate m 0 ++ more) sum in
        let closed = closes_any current (length bytes) count ended (replicate n 0 ++ more) s.place (ap before_end zeros) in (
          closed.0,
          closed.1 ∙ ap (λ us. closed_unit current ++ us) (ap (placed_units (length bytes - count) ended) zeros ∙ found_zeros (length bytes - count) (suc left) ended more
              ∙ ap (λ p. placed_units p ended (0 ∷ 0 ∷ more)) (omega (arith, closed.0, length-replicate {A = ℕ} n 0))),
        )

pub scanned_start : (bytes : List ℕ) (done : List PlacedUnit) (current : Option PlacedUnit) → ScannedBytes bytes done current 2 →
    ScannedBytes (bytes ++ 1 ∷ []) (done ++ closed_unit current) (Some (record { offset = length bytes + 1; bytes = [] })) 0
scanned_start bytes done current s =
    scanned_more bytes done (closed_unit current) current (Some (record { offset = length bytes + 1; bytes = [] })) 2 0 (1 ∷ []) s (omega arith) (omega arith, passes_none)
    (λ ended more.
    let closed = closes_any current (length bytes) 2 ended (1 ∷ more) s.place refl in
    closed.1 ∙ ap (λ us. closed_unit current ++ us) (found_start (length bytes - 2) ended more ∙ ap (λ p. units_from p ended more) (omega (arith, closed.0))))

-- a run of a unit, or between units
pub scanned_run : (bytes : List ℕ) (done : List PlacedUnit) (current : Option PlacedUnit) (count : ℕ) (run : List ℕ) → ScannedBytes bytes done current count → HasLoneZeros run → 0 < length run →
    (1 ≤ count → slice_index run 0 ≢ 0) → (2 ≤ count → slice_index run 0 ≢ 1) →
    ScannedBytes (bytes ++ run) done (with_more current (replicate count 0 ++ run)) 0
scanned_run bytes done current count run s lone some no_zero no_start =
    rw (append-nil done) at
    (scanned_more bytes done [] current (with_more current (replicate count 0 ++ run)) count 0 run s (omega arith) (run_place current (length bytes) s.place) (run_step current (length bytes) s.place))
  where
    passes : HasNoBoundary (replicate count 0 ++ run)
    passes = passes_after count run s.few lone some no_zero no_start

    long : length (replicate count 0 ++ run) ≡ count + length run
    long = simp (length-append, length-replicate)

    run_place : (current : Option PlacedUnit) (n : ℕ) → IsAt n current count → IsAt (n + length run) (with_more current (replicate count 0 ++ run)) 0
    run_place None n p = omega arith
    run_place (Some unit) n p = (omega (arith, p.0, long, length-append unit.bytes (replicate count 0 ++ run)), passes-append unit.bytes (replicate count 0 ++ run) p.1 passes)

    run_step : (current : Option PlacedUnit) (n : ℕ) → IsAt n current count → (ended : Bool) (more : List ℕ) →
        placed_units_after n current count ended (run ++ more) ≡ placed_units_after (n + length run) (with_more current (replicate count 0 ++ run)) 0 ended more
    run_step None n p ended more =
        ap (placed_units (n - count) ended) (sym (append_assoc (replicate count 0) run more)) ∙ passes.starts (n - count) ended more
        ∙ ap (λ q. placed_units q ended more) (omega (arith, long))
    run_step (Some unit) n p ended more = simp append_assoc

-- what is left at the end: two zeros at most, in which no unit begins or ends
record AreNothing (zeros : List ℕ) : Type 0 where
  found : (place : ℕ) (ended : Bool) → placed_units place ended zeros ≡ []
  no_end : before_end zeros ≡ None
  last : without_last_zeros zeros ≡ []

only_zeros : (count : ℕ) → count ≤ 2 → AreNothing (replicate count 0 ++ [])
only_zeros (suc (suc (suc _))) few = absurd (omega arith)
only_zeros count few = record { found = λ place ended. refl; no_end = refl; last = refl }

-- the end of the stream ends the open unit
abbrev pub closed_if : Bool → Option PlacedUnit → List PlacedUnit
closed_if ended current = if ended then closed_unit current else []

pub last_found : (ended : Bool) (current : Option PlacedUnit) (n count : ℕ) → count ≤ 2 → IsAt n current count → placed_units_after n current count ended [] ≡ closed_if ended current
last_found true None n count few p = (only_zeros count few).found (n - count) true
last_found false None n count few p = (only_zeros count few).found (n - count) false
last_found true (Some unit) n count few p = grind (arith, only_zeros, append-nil)
last_found false (Some unit) n count few p = grind (arith, only_zeros)

pub scanned_end : (bytes : List ℕ) (done : List PlacedUnit) (current : Option PlacedUnit) (count : ℕ) (ended : Bool) → ScannedBytes bytes done current count → placed_units 0 ended bytes ≡ done ++ closed_if ended current
scanned_end bytes done current count ended s =
    ap (placed_units 0 ended) (sym (append-nil bytes)) ∙ s.rest ended [] ∙ ap (λ t. done ++ t) (last_found ended current (length bytes) count s.few s.place)

pub scanned_so_far : (bytes : List ℕ) (done : List PlacedUnit) (current : Option PlacedUnit) (count : ℕ) → ScannedBytes bytes done current count → placed_units 0 false bytes ≡ done
scanned_so_far bytes done current count s = scanned_end bytes done current count false s ∙ append-nil done

-- the bytes before a place, zeros, and the run after them
pub scanned_on : (front piece : List ℕ) (place used : ℕ) → (front ++ take place piece) ++ take used (drop place piece) ≡ front ++ take (place + used) piece
scanned_on front piece place used = simp (take-add, append_assoc)

-- ---- runs in which each zero stands alone

-- bytes of which the search found none to be a zero, after these
pub lone_more : (bytes : List ℕ) (place len : ℕ) → HasLoneZerosBefore place bytes →
    ((k : ℕ) → 0 ≤ k → k < len → eqb (get_or (drop place bytes) k 0) 0 ≡ true → ⊥) → HasLoneZerosBefore (place + len) bytes
lone_more bytes place len lone free = λ k within is. elim (cases_lt k place) [
  | inl below ↦ (omega (arith, (lone k below is).0), (lone k below is).1)
  | inr above ↦
      let back : place + (k - place) ≡ k = omega arith in
      absurd (free (k - place) (omega arith) (omega arith) (eq-eqb (get_or (drop place bytes) (k - place) 0) 0 (get_or-drop place bytes (k - place) 0 ∙ ap (slice_index bytes) back ∙ is)))
]

-- and a zero, with a byte that is none
pub lone_pair : (bytes : List ℕ) (n : ℕ) → HasLoneZerosBefore n bytes → slice_index bytes (n + 1) ≢ 0 → HasLoneZerosBefore (n + 2) bytes
lone_pair bytes n lone some = grind (arith, cases_eq, cases_lt)

-- ---- no unit is longer than the stream

-- how many bytes there are, if there are any
abbrev size : Option (List ℕ) → ℕ
size None = 0
size (Some bytes) = length bytes

before_end_no_more : (bytes : List ℕ) → size (before_end bytes) ≤ length bytes
before_end_no_more [] = omega arith
before_end_no_more (b ∷ bytes) = longer (is_end (b ∷ bytes)) (before_end bytes) (before_end_no_more bytes)
  where
    longer : (here : Bool) (after : Option (List ℕ)) → size after ≤ length bytes → size (elim here [ true ↦ Some [] | false ↦ option_map (λ f. b ∷ f) after ]) ≤ suc (length bytes)
    longer false None h = omega arith
    longer here after h = omega arith

at_head : (b : ℕ) (bytes rest : List ℕ) → without_last_zeros bytes ≡ rest → length rest ≤ length bytes → length (without_last_zeros (b ∷ bytes)) ≤ suc (length bytes)
at_head zero bytes [] e h = rw (e, without_last_zeros) (omega arith)
at_head b bytes rest e h = rw (e, without_last_zeros) (omega (arith, h))

without_no_more : (bytes : List ℕ) → length (without_last_zeros bytes) ≤ length bytes
without_no_more [] = omega arith
without_no_more (b ∷ bytes) = at_head b bytes (without_last_zeros bytes) refl (without_no_more bytes)

bytes_at : (bytes : List ℕ) (front : Option (List ℕ)) (ended : Bool) → size front ≤ length bytes
    → size (elim front [ Some f ↦ Some f | None ↦ elim ended [ true ↦ Some (without_last_zeros bytes) | false ↦ None ] ]) ≤ length bytes
bytes_at bytes None true h = without_no_more bytes
bytes_at bytes front ended h = omega arith

-- a unit has bytes, and no more than these
pub record IsShort (n : ℕ) (unit : PlacedUnit) : Type 0 where
  pub some : 0 < length unit.bytes
  pub few : length unit.bytes ≤ n

short_here : (n place : ℕ) (here : Bool) (o : Option (List ℕ)) → size o ≤ n → All (IsShort n) (elim here [ true ↦ unit_at place o | false ↦ [] ])
short_here n place true (Some (b ∷ bytes)) h =
    All-cons (IsShort n) (record { offset = place; bytes = b ∷ bytes }) [] (record { some = omega arith; few = h }) (All-nil (IsShort n))
short_here n place here o h = All-nil (IsShort n)

-- so is each unit of a stream of so many bytes
pub are_short : (n place : ℕ) (ended : Bool) (bytes : List ℕ) → length bytes ≤ n → All (IsShort n) (placed_units place ended bytes)
are_short n place ended [] le = All-nil (IsShort n)
are_short n place ended (b ∷ bytes) le =
    let rest = drop 3 (b ∷ bytes) in
    let few = bytes_at rest (before_end rest) ended (before_end_no_more rest) in
    All-append (IsShort n) _ (placed_units (place + 1) ended bytes)
    (short_here n (place + 3) (is_start (b ∷ bytes)) (unit_bytes ended rest) (omega (arith, le, few, length-drop 3 (b ∷ bytes))))
    (are_short n (place + 1) ended bytes (omega (arith, le)))

-- ---- units under two limits

-- the body that is given out, by whether the unit is short
abbrev body_if : Bool → List ℕ → Option (List ℕ)
body_if short body = elim short [ true ↦ Some body | false ↦ None ]

body_cut : (limit max : ℕ) (bytes : List ℕ) → 0 < length bytes → length bytes ≤ limit →
    body_if (nat_le (length bytes) max) (drop 1 bytes) ≡ body_within max (body_if (nat_le (length bytes) limit) (drop 1 bytes))
body_cut limit max [] some le = absurd (omega arith)
body_cut limit max (b ∷ bytes) some le = grind (arith, nat_le)

cut_all : (limit max index : ℕ) (us : List PlacedUnit) → All (IsShort limit) us → numbered max index us ≡ map (unit_within max) (numbered limit index us)
cut_all limit max index [] short = refl
cut_all limit max index (u ∷ us) short = grind (arith, All-head, body_cut, All-tail, cut_all limit max (index + 1) us (All-tail (IsShort limit) u us short))

pub units_are_within_so : UnitsAreWithin
units_are_within_so limit max bytes ended le = cut_all limit max 0 (placed_units 0 ended bytes) (are_short limit 0 ended bytes le)

pub limits_cut_units_so : LimitsCutUnits
limits_cut_units_so limit max bytes ended le =
    ap (map contents) (units_are_within_so limit max bytes ended le) ∙ map-map contents (unit_within max) (units limit bytes ended)

-- ---- where no unit can be too long

abbrev IsWholeUnit : Piece → Type 0
IsWholeUnit u = IsTrue (is_some u.body)

whole_if : (test : Bool) (body : List ℕ) → test ≡ true → IsTrue (is_some (body_if test body))
whole_if true body is = refl
whole_if false body is = (cc)

are_whole : (limit index : ℕ) (us : List PlacedUnit) → All (IsShort limit) us → All IsWholeUnit (numbered limit index us)
are_whole limit index [] short = All-nil IsWholeUnit
are_whole limit index (u ∷ us) short =
    grind (arith, All-head, All-cons, whole_if, nat_le, All-tail, are_whole limit (index + 1) us (All-tail (IsShort limit) u us short))

pub units_are_whole_so : UnitsAreWhole
units_are_whole_so limit bytes ended le = are_whole limit 0 (placed_units 0 ended bytes) (are_short limit 0 ended bytes le)

-- ---- what is still to come of an RBSP, where some zeros were given out already

-- the RBSP of some zeros and the rest, without those zeros
abbrev pub resumed : ℕ → List ℕ → List ℕ
resumed count rest = drop count (rbsp (replicate count 0 ++ rest))

-- a run that has no zero
plain : (run rest : List ℕ) → HasNoZero run → rbsp (run ++ rest) ≡ run ++ rbsp rest
plain [] rest free = refl
plain (zero ∷ run) rest free = absurd (free 0 (omega arith) refl)
plain (suc b ∷ run) rest free = ap (λ t. suc b ∷ t) (plain run rest (λ k within. free (suc k) (omega arith)))

-- a run, after at most two zeros
resumed-run : (count b : ℕ) (run rest : List ℕ) → count ≤ 2 → HasNoZero (b ∷ run) → resumed count (b ∷ run ++ rest) ≡ unescaped_run count (b ∷ run) ++ rbsp rest
resumed-run count zero run rest few free = absurd (free 0 (omega arith) refl)
resumed-run (suc (suc zero)) (suc (suc (suc zero))) run rest few free = plain run rest (λ k within. free (suc k) (omega arith))
resumed-run (suc (suc zero)) (suc (suc (suc (suc b)))) run rest few free = rw (ne_eqb (suc (suc (suc (suc b)))) 3 (λ e. omega (arith, e))) (plain (suc (suc (suc (suc b))) ∷ run) rest free)
resumed-run (suc (suc (suc _))) b run rest few free = absurd (omega arith)
resumed-run count b run rest few free = plain (b ∷ run) rest free

-- zeros always stay
one_stays : (rest : List ℕ) → rbsp (0 ∷ rest) ≡ 0 ∷ drop 1 (rbsp (0 ∷ rest))
one_stays (zero ∷ suc (suc (suc zero)) ∷ rest) = refl
one_stays rest = refl

two_stay : (rest : List ℕ) → rbsp (0 ∷ 0 ∷ rest) ≡ 0 ∷ 0 ∷ drop 2 (rbsp (0 ∷ 0 ∷ rest))
two_stay (zero ∷ rest) = ap (λ t. 0 ∷ t) (one_stays (0 ∷ rest))
two_stay (suc (suc (suc zero)) ∷ rest) = refl
two_stay rest = refl

-- a zero, after at most two
resumed-zero : (count : ℕ) (rest : List ℕ) → count ≤ 2 → resumed count (0 ∷ rest) ≡ 0 ∷ resumed (min (count + 1) 2) rest
resumed-zero zero rest few = one_stays rest
resumed-zero (suc zero) rest few = ap (drop 1) (two_stay rest)
resumed-zero (suc (suc zero)) rest few = ap (drop 1) (two_stay rest)
resumed-zero (suc (suc (suc _))) rest few = absurd (omega arith)

-- a run and a zero
pub resumed-next : (count : ℕ) (run rest : List ℕ) → count ≤ 2 → HasNoZero run → resumed count (run ++ 0 ∷ rest) ≡ (unescaped_run count run ++ 0 ∷ []) ++ resumed (zeros_after count run) rest
resumed-next count [] rest few free = resumed-zero count rest few
resumed-next count (b ∷ run) rest few free = grind (arith, resumed-run, resumed-zero, append_assoc)

-- the last run
pub resumed-last : (count : ℕ) (run : List ℕ) → count ≤ 2 → HasNoZero run → resumed count run ≡ unescaped_run count run
resumed-last count (b ∷ run) few free = rw (append-nil (b ∷ run), append-nil (unescaped_run count (b ∷ run))) at (resumed-run count b run [] few free)
resumed-last (suc (suc (suc _))) [] few free = absurd (omega arith)
resumed-last count [] few free = refl

pub few_after : (count : ℕ) (run : List ℕ) → zeros_after count run ≤ 2
few_after count [] = omega arith
few_after count (_ ∷ _) = omega arith

-- one turn: the run before the next zero, and that zero
pub resumed_more : (raw body : List ℕ) (count place len : ℕ) → count ≤ 2 → place + len < length body → get_or (drop place body) len 0 ≡ 0 → HasNoZero (take (place + len - place) (drop place body)) →
    raw ++ resumed count (drop place body) ≡ rbsp body →
    ((raw ++ unescaped_run count (take (place + len - place) (drop place body))) ++ 0 ∷ []) ++ resumed (zeros_after count (take (place + len - place) (drop place body))) (drop (place + len + 1) body) ≡ rbsp body
resumed_more raw body count place len few within is free sum =
    let n : place + len - place ≡ len = omega arith in
    let run = take (place + len - place) (drop place body) in
    let left : drop place body ≡ run ++ 0 ∷ drop (place + len + 1) body =
    sym (take-append-drop len (drop place body)) ∙ ap (λ t. take len (drop place body) ++ t) (drop-drop len place body ∙ drop_more body (place + len) 0 within ∙ ap (λ b. b ∷ drop (place + len + 1) body) (sym (get_or-drop place body len 0) ∙ is))
    ∙ ap (λ m. take m (drop place body) ++ 0 ∷ drop (place + len + 1) body) (sym n) in
    append_assoc (raw ++ unescaped_run count run) (0 ∷ []) (resumed (zeros_after count run) (drop (place + len + 1) body))
    ∙ append_assoc raw (unescaped_run count run) (0 ∷ resumed (zeros_after count run) (drop (place + len + 1) body))
    ∙ ap (λ t. raw ++ t) (sym (append_assoc (unescaped_run count run) (0 ∷ []) (resumed (zeros_after count run) (drop (place + len + 1) body))) ∙ sym (resumed-next count run (drop (place + len + 1) body) few free) ∙ ap (resumed count) (sym left))
    ∙ sum

-- no zero stands before the first one
pub free_before : (bytes : List ℕ) (count n : ℕ) → ((k : ℕ) → 0 ≤ k → k < n → eqb (get_or bytes k 0) 0 ≡ true → ⊥) → count ≤ n → HasNoZero (take count bytes)
free_before bytes count n before few k within is = grind (arith, length-take, eq-eqb, get_or-take)
