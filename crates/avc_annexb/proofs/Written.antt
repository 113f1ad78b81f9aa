-- Units as they are numbered, joined and written: those that are over stay, and a stream has the units that it was written of.
pub mod Scanning
unfoldable pub use Scanning.*

-- ---- units that are numbered, and bytes that join a unit

pub numbered-append : (max index : ℕ) (done more : List PlacedUnit) → numbered max index (done ++ more) ≡ numbered max index done ++ numbered max (index + length done) more
numbered-append max index [] more = ap (λ n. numbered max n more) (omega arith)
numbered-append max index (unit ∷ done) more = grind (arith, numbered-append max (index + 1) done more)

-- a unit with bytes is added
pub closed_some : (offset : ℕ) (bytes : List ℕ) → 0 < length bytes → unit_at offset (Some bytes) ≡ record { offset = offset; bytes = bytes } ∷ []
closed_some offset [] some = absurd (omega arith)
closed_some offset (b ∷ bytes) some = refl

pub keeps-append : (max : ℕ) (o : OpenUnit max) (unit : PlacedUnit) (a b : List ℕ) → IsOpenUnit max o (with_bytes (with_bytes unit a) b) → IsOpenUnit max o (with_bytes unit (a ++ b))
keeps-append max o unit a b k = rw append_assoc at k

pub units_pushed : (max : ℕ) (given : List Unit) (done : List PlacedUnit) (unit : PlacedUnit) (old : List Unit) (u : Unit) → given ++ old ≡ numbered max 0 done → u ≡ unit_of max (length done) unit →
    given ++ (old ++ u ∷ []) ≡ numbered max 0 (done ++ unit ∷ [])
units_pushed max given done unit old u is made = grind (arith, numbered-append, append_assoc)

pub first_and_rest : (bytes : List ℕ) → 1 ≤ length bytes → get_or bytes 0 0 ∷ take (length bytes - 1) (drop 1 bytes) ≡ bytes
first_and_rest bytes some = rw (take_rest bytes 1) (sym (drop_more bytes 0 0 some))

-- what comes next is what is ready first
pub next_in : (p : SplitterPhase) (max : ℕ) (s : Scanner max) (bytes : List ℕ) (unit : Option Unit) → IsSplitterStateIn p max s bytes → (p ≡ Running) ⊎ (p ≡ Ended) →
    ((done : List PlacedUnit) → AreReady max s.ready done → unit ≡ slice_get (numbered max 0 done) (length s.ready.given.items)) →
    unit ≡ next_unit_of max (record { bytes = bytes; ended = has_ended p; taken = length s.ready.given.items; failed = has_failed p })
next_in Running max s bytes unit is going first = rw (scanned_so_far bytes is.done is.current s.zeros is.scanned) (first is.done is.ready)
next_in Ended max s bytes unit is going first = first (placed_units 0 true bytes) is
next_in (Failed _) max s bytes unit is (inl e) first = (cc)
next_in (Failed _) max s bytes unit is (inr e) first = (cc)

-- one more was taken, if there was one
pub taken_more : (s : SplitterState) (given given' : List Unit) (unit : Option Unit) → s.taken ≡ length given → given' ≡ given ++ option_to_list unit → record s { taken = length given' } ≡ after_next_unit s unit
taken_more s given given' None count is = ap (λ n. record s { taken = n }) (ap length (is ∙ append-nil given) ∙ sym count)
taken_more s given given' (Some unit) count is = ap (λ n. record s { taken = n }) (ap length is ∙ length_push given unit ∙ ap (λ n. n + 1) (sym count))

-- fewer wait once one was taken
there_is : (failed : Bool) (us : List Unit) (taken : ℕ) (unit : Unit) → Some unit ≡ (if failed then None else slice_get us taken) → taken < length us
there_is true us taken unit is = (cc)
there_is false us taken unit is = slice_get_within us taken unit (sym is)

pub fewer_wait : (max : ℕ) (s new : SplitterState) (unit : Option Unit) → unit ≡ next_unit_of max s → new ≡ after_next_unit s unit → IfSome unit (λ _. units_waiting max new < units_waiting max s)
fewer_wait max s new None is after = tt
fewer_wait max s new (Some unit) is after = grind (arith, there_is)

-- how many units there are, where the scan stands at the end of the bytes: those that were given out, and those that are ready
count_so_far : (max : ℕ) (s : Scanner max) (bytes : List ℕ) → HasScanned max s bytes → length (units max bytes false) ≡ length s.ready.given.items + length s.ready.units.items
count_so_far max s bytes is =
    ap (λ d. length (numbered max 0 d)) (scanned_so_far bytes is.done is.current s.zeros is.scanned) ∙ ap length (sym is.ready.units)
    ∙ length-append s.ready.given.items s.ready.units.items

-- bytes were taken up to the end of a unit
pub splitter_took : (max : ℕ) (s new : Scanner max) (bytes piece : List ℕ) (used : ℕ) → HasScanned max s bytes → HasTaken max s piece used new →
    (used < length piece → HasOneMore s.ready new.ready) → new.ready.given.items ≡ s.ready.given.items →
    TakesUnit max (record { bytes = bytes; ended = false; taken = length s.ready.given.items; failed = false }) piece used
    (record { bytes = bytes ++ take used piece; ended = false; taken = length new.ready.given.items; failed = false })
splitter_took max s new bytes piece used is took ended given =
    let before = count_so_far max s bytes is in
    let after = count_so_far max new (bytes ++ take used piece) (took.scans bytes is) in
    let same = ap length given in
    record {
      within = took.within;
      some = took.some;
      is = ap (λ n. record { bytes = bytes ++ take used piece; ended = false; taken = n; failed = false }) same;
      one = omega (arith, before, after, same, took.few.no_more);
      all = λ less. omega (arith, before, after, same, ended less);
    }

-- ---- the units that are over stay, and a unit's bytes have no boundary in them

-- the bytes of a unit
pub record IsUnitBytes (bytes : List ℕ) : Type 0 where
  pub some : 0 < length bytes
  pub passes : HasNoBoundary bytes

abbrev pub HasUnitBytes : PlacedUnit → Type 0
HasUnitBytes unit = IsUnitBytes unit.bytes

at_has_bytes : (offset : ℕ) (bytes : List ℕ) → HasNoBoundary bytes → All HasUnitBytes (unit_at offset (Some bytes))
at_has_bytes offset [] p = All-nil HasUnitBytes
at_has_bytes offset (b ∷ bytes) p =
    All-cons HasUnitBytes (record { offset = offset; bytes = b ∷ bytes }) [] (record { some = omega arith; passes = p }) (All-nil HasUnitBytes)

closed_has_bytes : (n : ℕ) (current : Option PlacedUnit) (count : ℕ) → IsAt n current count → All HasUnitBytes (closed_unit current)
closed_has_bytes n None count p = All-nil HasUnitBytes
closed_has_bytes n (Some unit) count p = at_has_bytes unit.offset unit.bytes p.1

-- a scanner may have gone through these bytes
record Reached (bytes : List ℕ) : Type 0 where
  done : List PlacedUnit
  current : Option PlacedUnit
  count : ℕ
  scanned : ScannedBytes bytes done current count
  have : All HasUnitBytes done

have_more : (bytes : List ℕ) (done : List PlacedUnit) (current : Option PlacedUnit) (count : ℕ) →
    ScannedBytes bytes done current count → All HasUnitBytes done → All HasUnitBytes (done ++ closed_unit current)
have_more bytes done current count s have =
    All-append HasUnitBytes done (closed_unit current) have (closed_has_bytes (length bytes) current count s.place)

reached_run : (bytes : List ℕ) (done : List PlacedUnit) (current : Option PlacedUnit) (count b : ℕ) →
    ScannedBytes bytes done current count → All HasUnitBytes done → b ≢ 0 → (2 ≤ count → b ≢ 1) → Reached (bytes ++ b ∷ [])
reached_run bytes done current count b s have other no_start =
    record { done = _; current = _; count = _; scanned = scanned_run bytes done current count (b ∷ []) s lone (omega arith) (λ _. other) no_start; have = have }
  where
    lone : HasLoneZeros (b ∷ [])
    lone zero within is = absurd (other is)
    lone (suc k) within is = absurd (omega arith)

reached_byte : (b : ℕ) (bytes : List ℕ) (done : List PlacedUnit) (current : Option PlacedUnit) (count : ℕ) →
    ScannedBytes bytes done current count → All HasUnitBytes done → Reached (bytes ++ b ∷ [])
reached_byte zero bytes done current (suc (suc zero)) s h =
    record { done = _; current = _; count = _; scanned = scanned_many 1 bytes done current 2 s (omega arith); have = have_more bytes done current 2 s h }
reached_byte zero bytes done current count s h =
    record { done = _; current = _; count = _; scanned = scanned_few 1 bytes done current count s (omega (arith, s.few)); have = h }
reached_byte (suc zero) bytes done current (suc (suc zero)) s h =
    record { done = _; current = _; count = _; scanned = scanned_start bytes done current s; have = have_more bytes done current 2 s h }
reached_byte b bytes done current count s h = reached_run bytes done current count b s h (omega arith) (λ two. omega (arith, s.few))

reached-append : (bytes more : List ℕ) → Reached bytes → Reached (bytes ++ more)
reached-append bytes [] r = subst Reached (sym (append-nil bytes)) r
reached-append bytes (b ∷ more) r =
    grind (arith, append_assoc, reached_byte, reached-append (bytes ++ b ∷ []) more (reached_byte b bytes r.done r.current r.count r.scanned r.have))

reached : (bytes : List ℕ) → Reached bytes
reached bytes = reached-append [] bytes (record { done = []; current = None; count = 0; scanned = scanned_first; have = All-nil HasUnitBytes })

pub units_stay_first : UnitsStay
units_stay_first max bytes more ended =
    let r = reached bytes in
    let others = placed_units_after (length bytes) r.current r.count ended more in (
      numbered max (0 + length r.done) others,
      ap (numbered max 0) (r.scanned.rest ended more) ∙ numbered-append max 0 r.done others
          ∙ ap (λ d. numbered max 0 d ++ numbered max (0 + length r.done) others) (sym (scanned_so_far bytes r.done r.current r.count r.scanned)),
    )

-- Each unit's bytes are some, and no unit ends or begins in them.
pub units_have_bytes : (bytes : List ℕ) → All HasUnitBytes (placed_units 0 true bytes)
units_have_bytes bytes =
    let r = reached bytes in
    All-same HasUnitBytes (placed_units 0 true bytes) (r.done ++ closed_unit r.current)
    (scanned_end bytes r.done r.current r.count true r.scanned) (have_more bytes r.done r.current r.count r.scanned r.have)

-- ---- the units of a stream that is written of units

-- the n-th unit that is given out is made of the n-th that was placed
record IsNumbered (max index : ℕ) (us : List PlacedUnit) (n : ℕ) (u : Unit) : Type 0 where
  unit : PlacedUnit
  is_there : slice_get us n ≡ Some unit
  is : u ≡ unit_of max (index + n) unit

numbered_get : (max index : ℕ) (us : List PlacedUnit) (n : ℕ) (u : Unit) →
    slice_get (numbered max index us) n ≡ Some u → IsNumbered max index us n u
numbered_get max index [] n u is = (cc)
numbered_get max index (x ∷ us) zero u is = grind (arith, same_Some)
numbered_get max index (x ∷ us) (suc n) u is = grind (arith, numbered_get max (index + 1) us n u is)

pub units_are_numbered_so : UnitsAreNumbered
units_are_numbered_so max bytes ended n u is =
    let r = numbered_get max 0 (placed_units 0 ended bytes) n u is in
    ap (λ v. v.index) r.is ∙ ap saturated (omega arith)

-- no more units than bytes
length-numbered : (max index : ℕ) (us : List PlacedUnit) → length (numbered max index us) ≡ length us
length-numbered max index [] = refl
length-numbered max index (x ∷ us) = ap suc (length-numbered max (index + 1) us)

-- how many have begun: those that are done, and the open one, if it has bytes
pub begun_so_far : (max : ℕ) (s : Scanner max) (bytes : List ℕ) (h : HasScanned max s bytes) (begun : ℕ) → begun ≡ length (closed_unit h.current) →
    min (s.ready.count + begun) (2 ^ 64 - 1) ≡ units_begun max bytes
begun_so_far max s bytes h begun is =
    let all = ap length (scanned_end bytes h.done h.current s.zeros true h.scanned) in
    omega (arith, is, h.ready.count, all, length-append h.done (closed_unit h.current), length-numbered max 0 (placed_units 0 true bytes))

-- and at the end all are done
pub begun_at_end : (max : ℕ) (r : Ready max) (bytes : List ℕ) → AreReady max r (placed_units 0 true bytes) → r.count ≡ units_begun max bytes
begun_at_end max r bytes is = omega (arith, is.count, length-numbered max 0 (placed_units 0 true bytes))

-- the unit that begins here, if a start code stands here
abbrev here : Bool → ℕ → Option (List ℕ) → List PlacedUnit
here test place o = elim test [ true ↦ unit_at place o | false ↦ [] ]

one_here_at_most : (test : Bool) (place : ℕ) (o : Option (List ℕ)) → length (here test place o) ≤ 1
one_here_at_most true place (Some (b ∷ bytes)) = omega arith
one_here_at_most test place o = omega arith

few_placed : (place : ℕ) (ended : Bool) (bytes : List ℕ) → length (placed_units place ended bytes) ≤ length bytes
few_placed place ended [] = omega arith
few_placed place ended (b ∷ bytes) = grind (arith, one_here_at_most, length-append, few_placed (place + 1) ended bytes)

pub units_are_few_so : UnitsAreFew
units_are_few_so max bytes ended = grind (arith, length-numbered, few_placed)

-- what the units say, wherever they stand
abbrev said : ℕ → List PlacedUnit → List (ℕ × Option (List ℕ))
said max us = map (λ unit. contents (unit_of max 0 unit)) us

said-numbered : (max index : ℕ) (us : List PlacedUnit) → map contents (numbered max index us) ≡ said max us
said-numbered max index [] = refl
said-numbered max index (x ∷ us) = ap (λ t. contents (unit_of max 0 x) ∷ t) (said-numbered max (index + 1) us)

said-drop : (max index k : ℕ) (us : List PlacedUnit) → map contents (drop k (numbered max index us)) ≡ said max (drop k us)
said-drop max index zero us = said-numbered max index us
said-drop max index (suc k) [] = refl
said-drop max index (suc k) (x ∷ us) = said-drop max (index + 1) k us

said-append : (max : ℕ) (us vs : List PlacedUnit) → said max (us ++ vs) ≡ said max us ++ said max vs
said-append max us vs = map-append (λ unit. contents (unit_of max 0 unit)) us vs

said-here : (max p q : ℕ) (test : Bool) (o : Option (List ℕ)) → said max (here test p o) ≡ said max (here test q o)
said-here max p q true (Some (b ∷ bytes)) = refl
said-here max p q test o = refl

said-placed : (max p q : ℕ) (ended : Bool) (bytes : List ℕ) → said max (placed_units p ended bytes) ≡ said max (placed_units q ended bytes)
said-placed max p q ended [] = refl
said-placed max p q ended (b ∷ bytes) =
    simp (said-append max, said-here max (p + 3) (q + 3) (is_start (b ∷ bytes)) (unit_bytes ended (drop 3 (b ∷ bytes))), said-placed max (p + 1) (q + 1) ended bytes)

said-moved : (max p q : ℕ) (ended : Bool) (bytes : List ℕ) → said max (units_from p ended bytes) ≡ said max (units_from q ended bytes)
said-moved max p q ended bytes = simp (said-append max, said-here max p q true (unit_bytes ended bytes), said-placed max p q ended bytes)

-- From a unit on, these are the units that begin at its place.
record GoesOn (ended : Bool) (place : ℕ) (bytes : List ℕ) (us : List PlacedUnit) (k : ℕ) (unit : PlacedUnit) : Type 0 where
  skipped : ℕ
  offset : unit.offset ≡ place + skipped
  rest : drop k us ≡ units_from unit.offset ended (drop skipped bytes)

start_is : (bytes : List ℕ) → is_start bytes ≡ true → bytes ≡ 0 ∷ 0 ∷ 1 ∷ drop 3 bytes
start_is bytes is = (starts_is Decides-eqb bytes (0 ∷ 0 ∷ 1 ∷ []) (is_start bytes) refl).0 is

goes_on : (ended : Bool) (place : ℕ) (bytes : List ℕ) (k : ℕ) (unit : PlacedUnit) →
    slice_get (placed_units place ended bytes) k ≡ Some unit → GoesOn ended place bytes (placed_units place ended bytes) k unit
goes_on ended place [] k unit is = (cc)
goes_on ended place (b ∷ bytes) k unit is =
    goes_on_by (is_start (b ∷ bytes)) (unit_bytes ended (drop 3 (b ∷ bytes))) k (λ k at. goes_on ended (place + 1) bytes k unit at) refl refl is
  where
    goes_on_by : (test : Bool) (o : Option (List ℕ)) (k : ℕ) →
        ((k : ℕ) → slice_get (placed_units (place + 1) ended bytes) k ≡ Some unit → GoesOn ended (place + 1) bytes (placed_units (place + 1) ended bytes) k unit) →
        is_start (b ∷ bytes) ≡ test → unit_bytes ended (drop 3 (b ∷ bytes)) ≡ o →
        slice_get (here test (place + 3) o ++ placed_units (place + 1) ended bytes) k ≡ Some unit →
        GoesOn ended place (b ∷ bytes) (here test (place + 3) o ++ placed_units (place + 1) ended bytes) k unit
    goes_on_by true (Some (c ∷ front)) zero later start found is =
        let at : unit.offset ≡ place + 3 = ap (λ v. v.offset) (sym (same_Some (record { offset = place + 3; bytes = c ∷ front }) unit is)) in
        let all : placed_units place ended (b ∷ bytes) ≡ here true (place + 3) (Some (c ∷ front)) ++ placed_units (place + 1) ended bytes = rw (start, placed_units, found) refl in
        let rest = drop 3 (b ∷ bytes) in
        record { skipped = 3; offset = at; rest = sym all ∙ ap (placed_units place ended) (start_is (b ∷ bytes) start) ∙ found_start place ended rest ∙ ap (λ p. units_from p ended rest) (sym at) }
    goes_on_by true (Some (c ∷ front)) (suc k) later start found is =
        let g = later k is in record { skipped = suc g.skipped; offset = omega (arith, g.offset); rest = g.rest }
    goes_on_by test o k later start found is =
        let g = later k is in record { skipped = suc g.skipped; offset = omega (arith, g.offset); rest = g.rest }

-- The units behind a start code, in the stream from a unit on, are those from that unit on.
said_behind : (max place : ℕ) (ended : Bool) (bytes : List ℕ) →
    said max (placed_units place ended (start_code ++ bytes)) ≡ said max (units_from (place + 4) ended bytes)
said_behind max place ended bytes = grind (arith, found_start)

said_from : (max : ℕ) (ended : Bool) (bytes : List ℕ) (k : ℕ) (unit : PlacedUnit) →
    saturated unit.offset < 2 ^ 64 - 1 → slice_get (placed_units 0 ended bytes) k ≡ Some unit → (place : ℕ) →
    said max (placed_units place ended (start_code ++ drop (saturated unit.offset) bytes)) ≡ said max (drop k (placed_units 0 ended bytes))
said_from max ended bytes k unit fits is place =
    let g = goes_on ended 0 bytes k unit is in
    let at : saturated unit.offset ≡ g.skipped = omega (arith, fits, g.offset) in
    let rest = drop g.skipped bytes in
    ap (λ n. said max (placed_units place ended (start_code ++ drop n bytes))) at ∙ said_behind max place ended rest
    ∙ said-moved max (place + 4) unit.offset ended rest ∙ ap (said max) (sym g.rest)

-- a unit that is written behind a start code, and what it says
record IsWritten (max : ℕ) (u : Unit) : Type 0 where
  front : List ℕ
  is : IsUnitBytes front
  stands : written u ≡ start_code ++ front
  header : u.header ≡ slice_index front 0
  body : u.body ≡ Some (drop 1 front)
  says : contents u ≡ contents (unit_of max 0 (record { offset = 0; bytes = front }))

body_is : (test : Bool) (body : List ℕ) (o : Option (List ℕ)) →
    o ≡ elim test [ true ↦ Some body | false ↦ None ] → is_some o ≡ true → o ≡ Some body
body_is true body o is some = is
body_is false body o is some = (cc)

written_is : (u : Unit) (front : List ℕ) → 0 < length front → u.header ≡ slice_index front 0 → u.body ≡ Some (drop 1 front) → written u ≡ start_code ++ front
written_is u front some header body = rw (body, header) (ap (λ t. start_code ++ t) (sym (drop_more front 0 0 some)))

is_written : (max : ℕ) (bytes : List ℕ) (u : Unit) → IsUnitOf max bytes u → IsWritten max u
is_written max bytes u i =
    let us = placed_units 0 true bytes in
    let r = numbered_get max 0 us i.place u i.is_there in
    let front = r.unit.bytes in
    let within = slice_get_within us i.place r.unit r.is_there in
    let same = get_or_from_slice_get us i.place r.unit r.unit r.is_there in
    let have : IsUnitBytes front = subst HasUnitBytes same (units_have_bytes bytes i.place r.unit within) in
    let body = body_is (nat_le (length front) max) (drop 1 front) u.body (ap (λ v. v.body) r.is) i.short in
    let header : u.header ≡ slice_index front 0 = ap (λ v. v.header) r.is in
    record {
      front = front;
      is = have;
      stands = written_is u front have.some header body;
      header = header;
      body = body;
      says = ap contents r.is;
    }

-- What follows the bytes of a unit that is written ends them.
abbrev Closes : Bool → List ℕ → Type 0
Closes ended rest = (place : ℕ) (front : List ℕ) → IsUnitBytes front →
    placed_units place ended (start_code ++ (front ++ rest))
    ≡ record { offset = place + 1 + 3; bytes = front } ∷ placed_units (place + 1 + 3 + length front) ended rest

-- as another start code does, and the end of the stream
closes_start : (ended : Bool) (rest : List ℕ) → before_end rest ≡ Some [] → Closes ended rest
closes_start ended rest stop place front is = grind (arith, found_start, closes, closed_some)

closes_last : Closes true []
closes_last place front is =
    found_start (place + 1) true (front ++ []) ∙ last_found true (Some (record { offset = place + 1 + 3; bytes = front })) (place + 1 + 3 + length front) 0 (omega arith) (omega arith, is.passes)
    ∙ closed_some (place + 1 + 3) front is.some

closes_units : (ended : Bool) (us : List Unit) (rest : List ℕ) → Closes ended rest → Closes ended (flat_map written us ++ rest)
closes_units ended [] rest stop = stop
closes_units ended (u ∷ us) rest stop = closes_start ended ((written u ++ flat_map written us) ++ rest) (written_ends u.body u.header (flat_map written us))
  where
    written_ends : (o : Option (List ℕ)) (header : ℕ) (more : List ℕ) →
        before_end ((elim o [ Some body ↦ start_code ++ header ∷ body | None ↦ start_code ++ header ∷ [] ] ++ more) ++ rest) ≡ Some []
    written_ends (Some body) header more = refl
    written_ends None header more = refl

-- the units that are written, one after the other, and then others; f: what is said of one
said_written : (limit max : ℕ) (bytes : List ℕ) (ended : Bool) (rest : List ℕ) (all : List (ℕ × Option (List ℕ))) (f : Unit → ℕ × Option (List ℕ)) →
    ((u : Unit) (w : IsWritten limit u) → f u ≡ contents (unit_of max 0 (record { offset = 0; bytes = w.front }))) → Closes ended rest →
    ((place : ℕ) → said max (placed_units place ended rest) ≡ all) → (us : List Unit) → All (IsUnitOf limit bytes) us →
    (place : ℕ) → said max (placed_units place ended (flat_map written us ++ rest)) ≡ map f us ++ all
said_written limit max bytes ended rest all f says stop last [] there place = last place
said_written limit max bytes ended rest all f says stop last (u ∷ us) there place =
    let w = is_written limit bytes u (All-head (IsUnitOf limit bytes) u us there) in
    let others = said_written limit max bytes ended rest all f says stop last us (All-tail (IsUnitOf limit bytes) u us there) in
    rw (w.stands, append_assoc w.front (flat_map written us) rest, closes_units ended us rest stop place w.front w.is, says u w, others (place + 1 + 3 + length w.front)) refl

pub written_units_stand_so : WrittenUnitsStand
written_units_stand_so max bytes ended us k u there is fits =
    let r = numbered_get max 0 (placed_units 0 ended bytes) k u is in
    let from = saturated r.unit.offset in
    let units_behind = said_from max ended bytes k r.unit (subst (λ n. n < 2 ^ 64 - 1) (ap (λ v. v.offset) r.is) fits) r.is_there in
    ap (λ n. map contents (units max (flat_map written us ++ start_code ++ drop n bytes) ended)) (ap (λ v. v.offset) r.is)
    ∙ ap (λ t. map contents (units max t ended)) (append_assoc (flat_map written us) start_code (drop from bytes))
    ∙ said-numbered max 0 (placed_units 0 ended (flat_map written us ++ (start_code ++ drop from bytes)))
    ∙ said_written max max bytes ended (start_code ++ drop from bytes) (said max (drop k (placed_units 0 ended bytes))) contents (λ u w. w.says)
    (closes_start ended (start_code ++ drop from bytes) refl) units_behind us there 0
    ∙ ap (λ t. map contents us ++ t) (sym (said-drop max 0 k (placed_units 0 ended bytes)))

-- what a unit of some bytes says, where a unit has so many bytes at most
said_within : (max : ℕ) (front : List ℕ) → 0 < length front →
    (slice_index front 0, body_within max (Some (drop 1 front))) ≡ contents (unit_of max 0 (record { offset = 0; bytes = front }))
said_within max [] some = absurd (omega arith)
said_within max (b ∷ front) some = grind (arith, nat_le)

says_within : (max limit : ℕ) (u : Unit) (w : IsWritten limit u) → contents_within max u ≡ contents (unit_of max 0 (record { offset = 0; bytes = w.front }))
says_within max limit u w = grind (arith, said_within)

pub written_units_stand_alone_so : WrittenUnitsStandAlone
written_units_stand_alone_so limit max bytes us there =
    said-numbered max 0 (placed_units 0 true (flat_map written us))
    ∙ rw (append-nil (flat_map written us), append-nil (map (contents_within max) us)) at
    (said_written limit max bytes true [] [] (contents_within max) (λ u w. says_within max limit u w) closes_last (λ place. refl) us there 0)

-- ---- worked examples of splitting

-- a stream of three units
abbrev stream : List ℕ
stream =
    0 ∷ 0 ∷ 0 ∷ 1 ∷ 0x67 ∷ 0x42 ∷ 0xC0 ∷ 0x0A ∷ 0xDA ∷ 0x71
    ∷ 0 ∷ 0 ∷ 0 ∷ 1 ∷ 0x68 ∷ 0xCE ∷ 0x38 ∷ 0x80 ∷ 0 ∷ 0 ∷ 1 ∷ 0x65 ∷ 0x88 ∷ 0x84 ∷ 0x93 ∷ 0xC0 ∷ []

abbrev line : Unit → List ℕ
line u = u.index ∷ u.offset ∷ u.length ∷ nal_unit_type u.header ∷ nal_ref_idc u.header ∷ []

abbrev lines : List (List ℕ)
lines = (0 ∷ 4 ∷ 6 ∷ 7 ∷ 3 ∷ []) ∷ (1 ∷ 14 ∷ 4 ∷ 8 ∷ 3 ∷ []) ∷ (2 ∷ 21 ∷ 5 ∷ 5 ∷ 3 ∷ []) ∷ []

-- what stands between 00 00 00 and the next 00 00 01, and before the first, belongs to no unit, and a unit without bytes is none
skipped : map line (units 134217728 (9 ∷ 0 ∷ 0 ∷ 1 ∷ 0 ∷ 0 ∷ 1 ∷ 0x65 ∷ 0 ∷ 0 ∷ 0 ∷ 7 ∷ 0 ∷ 0 ∷ 1 ∷ 0x09 ∷ 0 ∷ []) true) ≡ (0 ∷ 7 ∷ 1 ∷ 5 ∷ 3 ∷ []) ∷ (1 ∷ 15 ∷ 1 ∷ 9 ∷ 0 ∷ []) ∷ []
skipped = refl

-- ---- worked examples, a row each

record WorkedRows : Type 0 where
  three_units : map line (units 134217728 stream true) ≡ lines
  -- with no flush the last one's end has not been seen
  two_units : map line (units 134217728 stream false) ≡ (0 ∷ 4 ∷ 6 ∷ 7 ∷ 3 ∷ []) ∷ (1 ∷ 14 ∷ 4 ∷ 8 ∷ 3 ∷ []) ∷ []
  -- two zeros at the end belong to no unit
  same_with_zeros : map line (units 134217728 (stream ++ 0 ∷ 0 ∷ []) true) ≡ lines
  -- two zeros and a 03 belong to it
  longer_with_escape : map (λ u. u.length) (units 134217728 (stream ++ 0 ∷ 0 ∷ 3 ∷ []) true) ≡ 6 ∷ 4 ∷ 8 ∷ []
  too_long : map (λ u. u.body) (units 5 stream true) ≡ None ∷ Some (0xCE ∷ 0x38 ∷ 0x80 ∷ []) ∷ Some (0x88 ∷ 0x84 ∷ 0x93 ∷ 0xC0 ∷ []) ∷ []
  unescaped : rbsp (0x65 ∷ 0 ∷ 0 ∷ 3 ∷ 0 ∷ []) ≡ 0x65 ∷ 0 ∷ 0 ∷ 0 ∷ []
  -- 00 00 02 stays, and zeros are counted anew after a 03 that was left out
  stays : rbsp (0 ∷ 0 ∷ 2 ∷ 0 ∷ 0 ∷ 3 ∷ 0 ∷ 3 ∷ 0 ∷ 0 ∷ 0 ∷ 3 ∷ []) ≡ 0 ∷ 0 ∷ 2 ∷ 0 ∷ 0 ∷ 0 ∷ 3 ∷ 0 ∷ 0 ∷ 0 ∷ []

worked_rows : WorkedRows
worked_rows = search rules
