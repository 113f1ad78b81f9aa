-- The data of slices: put, and read from its bits.
pub mod Macroblocks
unfoldable pub use Macroblocks.*
use Rattle.avc_mbsyntax.specs.SliceData.{after, placed}

-- ---- the data of a slice read from its bits: bits that are there

more_true : (position : ℕ) (ahead : List Bool) → 0 < length ahead → more_data (record { position = position; ahead = ahead }) ≡ true
more_true position ahead some = grind arith

word_some : (v : ℕ) → 0 < length (ue_word v)
unfolding ue_word
word_some v = let n = bits_after_one (v + 1) in omega (arith, length-append (replicate n false) (true ∷ bits_of n (v + 1)))

mb_some : (c : Context) (position : ℕ) (syntax : MbSyntax) (rest : List Bool) → HasRanges c syntax → 0 < length (mb_bits c position syntax ++ rest)
mb_some c position syntax rest is = grind (arith, word_some, length-append {A = Bool})

-- by the two cases of a test
pub on_kind : {P : Type 0} (b : Bool) → (b ≡ true → P) → (b ≡ false → P) → P
on_kind b first second = grind arith

-- ---- one macroblock

pub ranges_of : (c : Context) (syntax : MbSyntax) → is_skip syntax ≡ false → CanStand c syntax → HasRanges c syntax
ranges_of c syntax other is = grind arith

-- read after so many bits, with its own QP
mb_read : (c : Context) (position : ℕ) (rest : List Bool) (m : Mb) → HasRanges c m.syntax → m.qp ≡ qp_of c.qp m.syntax →
    macroblock c (record { position = position; ahead = mb_bits c position m.syntax ++ rest }) ≡ Ok (m, record { position = position + length (mb_bits c position m.syntax); ahead = rest })
mb_read c position rest m is qp = search (rules, mb_is_read)

-- ---- I slices

abbrev all_of : List Mb → SliceMbs
all_of ms = record { mbs = ms; fault = None }

pub i_stand : (s : SliceStart) (before : List PicMb) (qp : ℕ) (syntax : MbSyntax) → s.is_p ≡ false → CanStand (context s before qp) syntax → is_skip syntax ≡ false
i_stand s before qp syntax same is = grind arith

i_some : (s : SliceStart) (before : List PicMb) (qp position : ℕ) (m : Mb) (ms : List Mb) → HasRanges (context s before qp) m.syntax → 0 < length (i_data_bits s before qp position (m ∷ ms))
unfolding i_data_bits
i_some s before qp position m ms is = mb_some (context s before qp) position m.syntax _ is

i_read : (s : SliceStart) (m : Mb) (ms : List Mb) (left : ℕ) (before : List PicMb) (qp position : ℕ) → s.is_p ≡ false → CanFollow s before qp (m ∷ ms) → length (m ∷ ms) ≤ left →
    i_data s left before qp (record { position = position; ahead = i_data_bits s before qp position (m ∷ ms) }) ≡ all_of (m ∷ ms)
unfolding i_data_bits
i_read s m ms zero before qp position same all few = absurd (omega (arith, few))
i_read s m [] (suc left) before qp position same all few = search (rules, mb_read, ranges_of, i_stand)
i_read s m (m' ∷ ms) (suc left) before qp position same all few =
    let c = context s before qp in
    let next = position + length (mb_bits c position m.syntax) in
    let before' = before ++ placed s m ∷ [] in
    let others = i_data_bits s before' m.qp next (m' ∷ ms) in
    let read = mb_read c position others m (ranges_of c m.syntax (i_stand s before qp m.syntax same all.0) all.0) all.1 in
    let second = ranges_of (context s before' m.qp) m'.syntax (i_stand s before' m.qp m'.syntax same all.2.0) all.2.0 in
    let more = more_true next others (i_some s before' m.qp next m' ms second) in
    let rest = i_read s m' ms left before' m.qp next same all.2 (omega (arith, few)) in
    rw (i_data, read) (ap (after (m ∷ [])) (rw more rest))

-- ---- P slices

-- the bits after the run, of a macroblock that is not skipped
abbrev mb_and_rest : SliceStart → List PicMb → (qp first : ℕ) → Mb → List Mb → List Bool
mb_and_rest s before qp first m ms =
    let w = mb_bits (context s before qp) first m.syntax in
    w ++ p_data_bits s (before ++ placed s m ∷ []) m.qp (first + length w) 0 ms

pub bits_skip : (s : SliceStart) (before : List PicMb) (qp position run : ℕ) (m : Mb) (ms : List Mb) → is_skip m.syntax ≡ true →
    p_data_bits s before qp position run (m ∷ ms) ≡ p_data_bits s (before ++ placed s m ∷ []) qp position (run + 1) ms
unfolding p_data_bits
bits_skip s before qp position run m ms is = grind arith

pub bits_other : (s : SliceStart) (before : List PicMb) (qp position run : ℕ) (m : Mb) (ms : List Mb) → is_skip m.syntax ≡ false →
    p_data_bits s before qp position run (m ∷ ms) ≡ ue_word run ++ mb_and_rest s before qp (position + length (ue_word run)) m ms
unfolding p_data_bits
bits_other s before qp position run m ms is = grind arith

p_some : (s : SliceStart) (before : List PicMb) (qp position run : ℕ) (ms : List Mb) → 1 ≤ run + length ms → 0 < length (p_data_bits s before qp position run ms)
unfolding p_data_bits
p_some s before qp position zero [] some = absurd (omega (arith, some))
p_some s before qp position (suc run) [] some = word_some (suc run)
p_some s before qp position run (m ∷ ms) some =
    search (rules, word_some, length-append, p_some s (before ++ placed s m ∷ []) qp position (run + 1) ms (omega arith))

-- a run that fits, and what comes then
abbrev turn : SliceStart → (turns : ℕ) → List PicMb → (qp : ℕ) → Bits → SliceMbs
turn s turns before qp b = after_run s before qp b (λ before' qp' b'. p_data s turns before' qp' b')

p_turn : (s : SliceStart) (turns : ℕ) (before : List PicMb) (qp run : ℕ) (b b' : Bits) → (length before == s.size) ≡ false → nat_lt (s.size - length before) run ≡ false → ue b ≡ Ok (run, b') →
    p_data s (suc turns) before qp b ≡ after (replicate run (skipped qp)) (turn s turns (before ++ replicate run (placed s (skipped qp))) qp b')
p_turn s turns before qp run b b' below fits read = rw (p_data, where_room, below, read, from_run, fits) refl

p_mb : (s : SliceStart) (turns : ℕ) (before : List PicMb) (qp position : ℕ) (ahead : List Bool) (b' : Bits) (m : Mb) → 0 < length ahead → (length before == s.size) ≡ false
    → macroblock (context s before qp) (record { position = position; ahead = ahead }) ≡ Ok (m, b') →
    turn s turns before qp (record { position = position; ahead = ahead })
    ≡ after (m ∷ []) (elim (more_data b') [ true ↦ p_data s turns (before ++ placed s m ∷ []) m.qp b' | false ↦ ended ])
p_mb s turns before qp position [] b' m some below read = absurd (omega (arith, some))
p_mb s turns before qp position (x ∷ ahead) b' m some below read = rw (where_room, below, read) refl

-- a run read from its word
run_read : (position run : ℕ) (rest : List Bool) → run < 4294967295 → ue (record { position = position; ahead = ue_word run ++ rest }) ≡ Ok (run, record { position = position + length (ue_word run); ahead = rest })
run_read position run rest small = ((back-ue small).back position rest).read

-- with more data the rest, else nothing
rest_read : (s : SliceStart) (turns : ℕ) (before : List PicMb) (qp position : ℕ) (ms : List Mb)
    → (1 ≤ length ms → p_data s turns before qp (record { position = position; ahead = p_data_bits s before qp position 0 ms }) ≡ all_of ms) →
    elim (more_data (record { position = position; ahead = p_data_bits s before qp position 0 ms })) [
      | true ↦ p_data s turns before qp (record { position = position; ahead = p_data_bits s before qp position 0 ms })
      | false ↦ ended
    ] ≡ all_of ms
unfolding p_data_bits
rest_read s turns before qp position [] read = refl
rest_read s turns before qp position (m ∷ ms) read =
    rw (more_true position (p_data_bits s before qp position 0 (m ∷ ms)) (p_some s before qp position 0 (m ∷ ms) (omega arith))) (read (omega arith))

-- one more in the run
run_grows : {A : Type 0} (before front : List A) (run : ℕ) (x : A) → before ≡ front ++ replicate run x → before ++ x ∷ [] ≡ front ++ replicate (run + 1) x
run_grows before front run x is = rw (is, append_assoc, replicate-append-replicate run 1 x) refl

pub skipped_is : (m : Mb) (qp : ℕ) → is_skip m.syntax ≡ true → m.qp ≡ qp_of qp m.syntax → m ≡ skipped qp
skipped_is m qp is same = grind arith

skip_joins : (run : ℕ) (m : Mb) (qp : ℕ) (ms : List Mb) → m ≡ skipped qp → replicate (run + 1) (skipped qp) ++ ms ≡ replicate run (skipped qp) ++ m ∷ ms
skip_joins run m qp ms same = rw (same, ← replicate-append-replicate run 1 (skipped qp), append_assoc) refl

run_count : {A : Type 0} (before front : List A) (run : ℕ) (x : A) → before ≡ front ++ replicate run x → length before ≡ length front + run
run_count before front run x is = rw (is, length-append, length-replicate) refl

-- the run, a macroblock that is not skipped, and the rest
other_read : (s : SliceStart) (m : Mb) (ms : List Mb) (turns : ℕ) (front before : List PicMb) (qp position run : ℕ) → CanFollow s before qp (m ∷ ms) → before ≡ front ++ replicate run (placed s (skipped qp))
    → is_skip m.syntax ≡ false → run + length (m ∷ ms) < 4294967295 → length before + length (m ∷ ms) ≤ s.size →
    (let next = position + length (ue_word run) + length (mb_bits (context s before qp) (position + length (ue_word run)) m.syntax) in
    let b : Bits = record { position = next; ahead = p_data_bits s (before ++ placed s m ∷ []) m.qp next 0 ms } in
    elim (more_data b) [ true ↦ p_data s turns (before ++ placed s m ∷ []) m.qp b | false ↦ ended ] ≡ all_of ms) →
    p_data s (suc turns) front qp (record { position = position; ahead = p_data_bits s before qp position run (m ∷ ms) }) ≡ all_of (replicate run (skipped qp) ++ m ∷ ms)
other_read s m ms turns front before qp position run all is other small room rest =
    let x = placed s (skipped qp) in
    let c = context s before qp in
    let ranges = ranges_of c m.syntax other all.0 in
    let word = ue_word run in
    let first = position + length word in
    let w = mb_bits c first m.syntax in
    let next = first + length w in
    let others = p_data_bits s (before ++ placed s m ∷ []) m.qp next 0 ms in
    let count = run_count before front run x is in
    let below : (length front == s.size) ≡ false = ne_eqb (length front) s.size (λ e. omega (arith, room, count, e)) in
    let below' : (length before == s.size) ≡ false = ne_eqb (length before) s.size (λ e. omega (arith, room, e)) in
    let fits : nat_lt (s.size - length front) run ≡ false = le-ltb (s.size - length front) run (omega (arith, room, count)) in
    let b : Bits = record { position = position; ahead = word ++ (w ++ others) } in
    let b' : Bits = record { position = first; ahead = w ++ others } in
    let b'' : Bits = record { position = next; ahead = others } in
    ap (λ t. p_data s (suc turns) front qp (record { position = position; ahead = t })) (bits_other s before qp position run m ms other)
    ∙ p_turn s turns front qp run b b' below fits (run_read position run (w ++ others) (omega (arith, small)))
    ∙ ap (λ l. after (replicate run (skipped qp)) (turn s turns l qp b')) (sym is)
    ∙ ap (after (replicate run (skipped qp))) (p_mb s turns before qp first (w ++ others) b'' m (mb_some c first m.syntax others ranges) below' (mb_read c first others m ranges all.1)
    ∙ ap (after (m ∷ [])) rest)

-- a run at the end
end_read : (s : SliceStart) (turns : ℕ) (front : List PicMb) (qp position run : ℕ) → length front < s.size → length front + run ≤ s.size → run < 4294967295 →
    p_data s (suc turns) front qp (record { position = position; ahead = ue_word run }) ≡ all_of (replicate run (skipped qp) ++ [])
end_read s turns front qp position run any room small =
    let below : (length front == s.size) ≡ false = ne_eqb (length front) s.size (λ e. omega (arith, any, e)) in
    let fits : nat_lt (s.size - length front) run ≡ false = le-ltb (s.size - length front) run (omega (arith, room)) in
    let b : Bits = record { position = position; ahead = ue_word run } in
    let b' : Bits = record { position = position + length (ue_word run); ahead = [] } in
    let read : ue b ≡ Ok (run, b') = ap (λ t. ue (record { position = position; ahead = t })) (sym (append-nil (ue_word run))) ∙ run_read position run [] small in
    p_turn s turns front qp run b b' below fits read

p_read : (s : SliceStart) (ms : List Mb) (turns : ℕ) (front before : List PicMb) (qp position run : ℕ) → CanFollow s before qp ms → before ≡ front ++ replicate run (placed s (skipped qp))
    → 1 ≤ run + length ms → run + length ms ≤ turns → run + length ms < 4294967295 → length before + length ms ≤ s.size →
    p_data s turns front qp (record { position = position; ahead = p_data_bits s before qp position run ms }) ≡ all_of (replicate run (skipped qp) ++ ms)
unfolding p_data_bits
p_read s ms zero front before qp position run all is some few small room = absurd (omega (arith, some, few))
p_read s [] (suc turns) front before qp position zero all is some few small room = absurd (omega (arith, some))
p_read s [] (suc turns) front before qp position (suc k) all is some few small room =
    let count = run_count before front (suc k) (placed s (skipped qp)) is in
    end_read s turns front qp position (suc k) (omega (arith, room, count)) (omega (arith, room, count)) (omega (arith, small))
p_read s (m ∷ ms) (suc turns) front before qp position run all is some few small room =
    let before' = before ++ placed s m ∷ [] in
    let x = placed s (skipped qp) in
    let more : length before' ≡ length before + 1 = length-append before (placed s m ∷ []) in
    on_kind (is_skip m.syntax)
    (λ skip.
    let same = skipped_is m qp skip all.1 in
    let is' : before' ≡ front ++ replicate (run + 1) x = ap (λ y. before ++ placed s y ∷ []) same ∙ run_grows before front run x is in
    let follow : CanFollow s before' qp ms = subst (λ q. CanFollow s before' q ms) (ap (λ y. y.qp) same) all.2 in
    ap (λ t. p_data s (suc turns) front qp (record { position = position; ahead = t })) (bits_skip s before qp position run m ms skip)
    ∙ p_read s ms (suc turns) front before' qp position (run + 1) follow is' (omega arith) (omega (arith, few)) (omega (arith, small)) (omega (arith, room, more))
    ∙ ap all_of (skip_joins run m qp ms same))
    (λ other.
    let next = position + length (ue_word run) + length (mb_bits (context s before qp) (position + length (ue_word run)) m.syntax) in
    let rest = rest_read s turns before' m.qp next ms
    (λ any. p_read s ms turns before' before' m.qp next 0 all.2 (sym (append-nil before')) (omega (arith, any)) (omega (arith, few)) (omega (arith, small)) (omega (arith, room, more))) in
    other_read s m ms turns front before qp position run all is other small room rest)

-- ---- the data of a slice

abbrev data_where : (p : Bool) → SliceStart → List PicMb → Bits → SliceMbs
data_where p s before b = elim p [ true ↦ p_data s (s.size - length before) before s.qp b | false ↦ i_data s (s.size - length before) before s.qp b ]

read_where : (p : Bool) (s : SliceStart) (before : List PicMb) (position : ℕ) (ms : List Mb) → s.is_p ≡ p → 1 ≤ length ms → length ms < 4294967295 → length before + length ms ≤ s.size → CanFollow s before s.qp ms →
    data_where p s before (record { position = position; ahead = rest_bits p s before s.qp position 0 ms }) ≡ all_of ms
read_where p s before position [] same some small room all = absurd (omega (arith, some))
read_where true s before position (m ∷ ms) same some small room all =
    p_read s (m ∷ ms) (s.size - length before) before before s.qp position 0 all (sym (append-nil before)) (omega arith) (omega (arith, room)) (omega (arith, small)) room
read_where false s before position (m ∷ ms) same some small room all = i_read s m ms (s.size - length before) before s.qp position same all (omega (arith, room))

-- a run of 0, and no more data
none_read : (s : SliceStart) (turns : ℕ) (before : List PicMb) (qp position : ℕ) → 0 < turns → length before < s.size →
    p_data s turns before qp (record { position = position; ahead = ue_word 0 }) ≡ all_of []
none_read s zero before qp position some any = absurd (omega (arith, some))
none_read s (suc turns) before qp position some any = end_read s turns before qp position 0 any (omega (arith, any)) (omega arith)

none_where : (p : Bool) (s : SliceStart) (before : List PicMb) (position : ℕ) → (p ≡ false → 1 ≤ 0) → length before < s.size →
    data_where p s before (record { position = position; ahead = elim p [ true ↦ ue_word 0 | false ↦ [] ] }) ≡ all_of []
none_where true s before position some any = none_read s (s.size - length before) before s.qp position (omega (arith, any)) any
none_where false s before position some any = absurd (omega (arith, some refl))

pub all_data_is_read : DataIsRead
all_data_is_read s before position [] some small any room all = none_where s.is_p s before position some any
all_data_is_read s before position (m ∷ ms) some small any room all = by_type s.is_p refl
  where
    by_type : (p : Bool) → s.is_p ≡ p → slice_data s before (record { position = position; ahead = data_bits s before position (m ∷ ms) }) ≡ all_of (m ∷ ms)
    by_type p same = subst (λ q. data_where q s before (record { position = position; ahead = rest_bits q s before s.qp position 0 (m ∷ ms) }) ≡ all_of (m ∷ ms)) (sym same) (read_where p s before position (m ∷ ms) same (omega arith) small room all)

-- ---- the data of a slice depends on no macroblock of another slice

-- the same macroblocks are available to both
record SeeSame (s s' : SliceStart) (before before' : List PicMb) : Type 0 where
  like : IsLike s s'
  long : length before ≡ length before'
  seen : (a : ℕ) → available before s.slice a ≡ available before' s'.slice a

seen_at : (s s' : SliceStart) (before before' : List PicMb) (place : Option Location) → SeeSame s s' before before' → at_location before s.slice place ≡ at_location before' s'.slice place
seen_at s s' before before' None same = refl
seen_at s s' before before' (Some l) same = same.seen l.address

-- ---- one macroblock more of the slice

more_at : (slice : ℕ) (before : List PicMb) (mb : Mb) (a : ℕ) →
    available (before ++ record { slice = slice; mb = mb } ∷ []) slice a ≡ (if a == length before then Some mb else available before slice a)
more_at slice before mb a = grind (arith, common_steps, nat_tests, ints, eq-eqb, slice_get-next, ne_eqb, slice_get-append, slice_get_past, length-append)

more_seen : (s s' : SliceStart) (before before' : List PicMb) (mb : Mb) → SeeSame s s' before before' → SeeSame s s' (before ++ placed s mb ∷ []) (before' ++ placed s' mb ∷ [])
more_seen s s' before before' mb same = record {
  like = same.like;
  long = rw (length-append, length-append before', same.long) refl;
  seen = λ a. more_at s.slice before mb a ∙ rw (same.long, same.seen a) refl ∙ sym (more_at s'.slice before' mb a);
}

-- ---- the context

side : (s s' : SliceStart) (before before' : List PicMb) (x y : ℤ) → SeeSame s s' before before' →
    at_location before s.slice (location_at s.width (length before) x y) ≡ at_location before' s'.slice (location_at s'.width (length before') x y)
side s s' before before' x y same = seen_at s s' before before' (location_at s.width (length before) x y) same ∙ rw (same.like.width, same.long) refl

contexts : (s s' : SliceStart) (before before' : List PicMb) (qp : ℕ) → SeeSame s s' before before' → context s before qp ≡ context s' before' qp
contexts s s' before before' qp same =
    rw (side s s' before before' (negsuc 0) (pos 0) same, side s s' before before' (pos 0) (negsuc 0) same, same.like.is_p, same.like.num_ref_idx_active) refl

-- ---- the data

i_same : (s s' : SliceStart) (before before' : List PicMb) (qp position : ℕ) (ms : List Mb) → SeeSame s s' before before' → i_data_bits s before qp position ms ≡ i_data_bits s' before' qp position ms
unfolding i_data_bits
i_same s s' before before' qp position [] same = refl
i_same s s' before before' qp position (m ∷ ms) same =
    let here = contexts s s' before before' qp same in
    rw here (ap (λ l. mb_bits (context s' before' qp) position m.syntax ++ l) (i_same s s' (before ++ placed s m ∷ []) (before' ++ placed s' m ∷ []) m.qp _ ms (more_seen s s' before before' m same)))

p_same : (s s' : SliceStart) (before before' : List PicMb) (qp position run : ℕ) (ms : List Mb) → SeeSame s s' before before' → p_data_bits s before qp position run ms ≡ p_data_bits s' before' qp position run ms
unfolding p_data_bits
p_same s s' before before' qp position run [] same = refl
p_same s s' before before' qp position run (m ∷ ms) same =
    let after = more_seen s s' before before' m same in
    let here = contexts s s' before before' qp same in
    let first = position + length (ue_word run) in
    let skip = p_same s s' (before ++ placed s m ∷ []) (before' ++ placed s' m ∷ []) qp position (run + 1) ms after in
    let other = p_same s s' (before ++ placed s m ∷ []) (before' ++ placed s' m ∷ []) m.qp (first + length (mb_bits (context s' before' qp) first m.syntax)) 0 ms after in
    grind (arith, here, skip, other)

follows : (s s' : SliceStart) (before before' : List PicMb) (qp : ℕ) (ms : List Mb) → SeeSame s s' before before' → CanFollow s before qp ms → CanFollow s' before' qp ms
follows s s' before before' qp [] same all = tt
follows s s' before before' qp (m ∷ ms) same all = (
  rw (contexts s s' before before' qp same) at all.0,
  all.1,
  follows s s' (before ++ placed s m ∷ []) (before' ++ placed s' m ∷ []) m.qp ms (more_seen s s' before before' m same) all.2,
)

where_same : (p : Bool) (s s' : SliceStart) (before before' : List PicMb) (qp position : ℕ) (ms : List Mb) → SeeSame s s' before before' →
    rest_bits p s before qp position 0 ms ≡ rest_bits p s' before' qp position 0 ms
where_same true s s' before before' qp position ms same = p_same s s' before before' qp position 0 ms same
where_same false s s' before before' qp position ms same = i_same s s' before before' qp position ms same

pub data_alone : DataStandsAlone
data_alone s s' before before' position [] like long others others' = (rw (like.is_p) refl, λ all. tt)
data_alone s s' before before' position (m ∷ ms) like long others others' =
    let same : SeeSame s s' before before' = record { like = like; long = long; seen = λ a. others a ∙ sym (others' a) } in (
      ap (λ p. rest_bits p s before s.qp position 0 (m ∷ ms)) like.is_p ∙ ap (λ q. rest_bits s'.is_p s before q position 0 (m ∷ ms)) like.qp
          ∙ where_same s'.is_p s s' before before' s'.qp position (m ∷ ms) same,
      λ all. rw (like.qp) at (follows s s' before before' s.qp (m ∷ ms) same all),
    )

-- ---- the macroblocks of a slice put one after another: what the row has of them

tells : {Y : Type 0} (said : PicMb → Y) (told : NeighbourInfo → Y) (before : List PicMb) (info : List NeighbourInfo) → map said before ≡ map told info → InfoTell said told before info
tells said told before info same = ([], same ∙ sym (append-nil (map told info)))

-- ---- the context

abbrev of_parts : (is_p : Bool) → (num_ref_idx_active qp : ℕ) → (left up : Option TotalCoeffs) → Context
of_parts is_p num_ref_idx_active qp left up = record { is_p = is_p; num_ref_idx_active = num_ref_idx_active; qp = qp; left = left; up = up }

pub context_told : (s : SliceStart) (before : List PicMb) (p : PictureInfo) (c : Context) (qp : ℕ) (left up : Option TotalCoeffs) → IsOf s c → AreInfoOf s.width before p
    → left ≡ option_map (λ f. f.total_coeffs) (mb_a p 1) → up ≡ option_map (λ f. f.total_coeffs) (mb_b p 1) → of_parts c.is_p c.num_ref_idx_active qp left up ≡ context s before qp
context_told s before p c qp left up own is is_left is_up =
    let slices = tells (λ m. m.slice) (λ f. f.slice) before p.info is.slices in
    let counts = tells (λ m. total_coeffs_of m.mb.syntax) (λ f. f.total_coeffs) before p.info is.total_coeffs in
    let found = total_coeffs_found before p 1 (omega (arith, is.some, is.wide)) slices counts in
    let long : length p.info ≡ length before = sym (length-map p.info (λ (f : NeighbourInfo). f.slice)) ∙ ap length (sym is.slices) ∙ length-map before (λ (m : PicMb). m.slice) in
    let left_is : left ≡ left_total_coeffs s before = is_left ∙ sym found.0 ∙ rw (is.wide, long, own.own) refl in
    let up_is : up ≡ up_total_coeffs s before = is_up ∙ sym found.1 ∙ rw (is.wide, long, own.own) refl in
    cc (left_is, up_is, own.is_p, own.num_ref_idx_active)

-- ---- one macroblock

-- what is put of it, and then the others
abbrev own_and_rest : (p : Bool) → SliceStart → (before : List PicMb) → (qp position run : ℕ) → Mb → List Mb → List Bool
own_and_rest p s before qp position run m ms =
    let w = own_bits (context s before qp) position run m.syntax in
    w ++ rest_bits p s (before ++ placed s m ∷ []) m.qp (position + length w) (run_after run m.syntax) ms

own_first : (p : Bool) (s : SliceStart) (before : List PicMb) (qp position run : ℕ) (m : Mb) (ms : List Mb) → s.is_p ≡ p → CanStand (context s before qp) m.syntax → m.qp ≡ qp_of qp m.syntax →
    rest_bits p s before qp position run (m ∷ ms) ≡ own_and_rest p s before qp position run m ms
unfolding i_data_bits p_data_bits
own_first p s before qp position run m ms same stands is_qp = grind (arith, append_assoc, length-append {A = Bool})

-- ---- the end

none_left : (p : Bool) (s : SliceStart) (before : List PicMb) (qp position run : ℕ) → rest_bits p s before qp position run [] ≡ last_run_bits_where p run
unfolding i_data_bits p_data_bits
none_left p s before qp position run = grind arith

-- ---- so many macroblocks

abbrev pub before_of : CodedSlice → (i : ℕ) → List PicMb
before_of c i = earlier_mbs c ++ map (placed (own_start c)) (take i c.macroblocks)

-- What was put of the first of them, and what the others will put, is all; the row has those that were put.
pub record IsPut (c : CodedSlice) (old : Made) (i : ℕ) (row : PictureInfo) (qp run : ℕ) (now : Made) : Type 0 where
  pub going : now.failed ≡ false
  pub told : AreInfoOf (own_start c).width (before_of c i) row
  pub few : run ≤ i
  pub follow : CanFollow (own_start c) (before_of c i) qp (drop i c.macroblocks)
  pub sum : now.bits ++ rest_bits (own_start c).is_p (own_start c) (before_of c i) qp (length now.bits) run (drop i c.macroblocks)
      ≡ old.bits ++ some_bits (own_start c) (earlier_mbs c) (length old.bits) c.macroblocks

pub put_none : (c : CodedSlice) (old : Made) (row : PictureInfo) (qp : ℕ) → IsCodedSlice c → old.failed ≡ false → AreInfoOf (own_start c).width (earlier_mbs c) row → qp ≡ (own_start c).qp → IsPut c old 0 row qp 0 old
put_none c old row qp is going told is_qp = search (rules, append-nil)

-- the macroblock at place i, between those before it and those after it
pub record IsAt (ms : List Mb) (i : ℕ) (m : Mb) : Type 0 where
  pub first : drop i ms ≡ m ∷ drop (i + 1) ms
  pub last : take (i + 1) ms ≡ take i ms ++ m ∷ []

pub is_at : (ms : List Mb) (i : ℕ) (m : Mb) → i < length ms → m ≡ get_or ms i m → IsAt ms i m
is_at ms i m within is = record { first = at_place ms i m m within is; last = take_more ms i m within ∙ ap (λ x. take i ms ++ x ∷ []) (sym is) }

before_more : (c : CodedSlice) (i : ℕ) (m : Mb) → IsAt c.macroblocks i m → before_of c i ++ placed (own_start c) m ∷ [] ≡ before_of c (i + 1)
before_more c i m here =
    rw (here.last, map-append) (append_assoc (earlier_mbs c) (map (placed (own_start c)) (take i c.macroblocks)) (placed (own_start c) m ∷ []))

-- its context, and that it can stand there
pub stands_at : {c : CodedSlice} {old now : Made} {i : ℕ} {row : PictureInfo} {qp run : ℕ} {m : Mb} {k : Context} {syntax : MbSyntax}
    → IsPut c old i row qp run now → IsAt c.macroblocks i m → k ≡ context (own_start c) (before_of c i) qp → syntax ≡ m.syntax → CanStand k syntax
stands_at is here is_k is_syntax = search rules

pub put_next : {c : CodedSlice} {old now new : Made} {i : ℕ} {row row' : PictureInfo} {qp qp' run run' : ℕ} {m : Mb} {k : Context} {syntax : MbSyntax}
    → IsPut c old i row qp run now → IsAt c.macroblocks i m → k ≡ context (own_start c) (before_of c i) qp → syntax ≡ m.syntax
    → new ≡ with_bits now (own_bits k (length now.bits) run syntax) → AreInfoOf (own_start c).width (before_of c i ++ placed (own_start c) m ∷ []) row'
    → run' ≡ run_after run syntax → run' ≤ run + 1 → qp' ≡ m.qp → IsPut c old (i + 1) row' qp' run' new
put_next {c} {old} {now} {new} {i} {row} {row'} {qp} {qp'} {run} {run'} {m} {k} {syntax} is here is_k is_syntax is_new told is_run few is_qp =
    let s = own_start c in
    let before = before_of c i in
    let before' = before ++ placed s m ∷ [] in
    let ms = drop (i + 1) c.macroblocks in
    let all = old.bits ++ some_bits s (earlier_mbs c) (length old.bits) c.macroblocks in
    let follow : CanFollow s before qp (m ∷ ms) = subst (λ l. CanFollow s before qp l) here.first is.follow in
    let grown = before_more c i m here in
    let w = own_bits (context s before qp) (length now.bits) run m.syntax in
    let first = own_first s.is_p s before qp (length now.bits) run m ms refl follow.0 follow.1 in
    let put : new ≡ with_bits now (own_bits (context s before qp) (length now.bits) run m.syntax) = rw (← is_k, ← is_syntax) is_new in
    let sum : new.bits ++ rest_bits s.is_p s before' m.qp (length new.bits) (run_after run m.syntax) ms ≡ all =
    rw (put, length-append now.bits w, append_assoc) (rw (here.first, first) at is.sum) in
    record {
      going = ap (λ t. t.failed) is_new;
      told = subst (λ b. AreInfoOf s.width b row') grown told;
      few = omega (arith, few, is.few);
      follow = subst (λ q. CanFollow s (before_of c (i + 1)) q ms) (sym is_qp) (subst (λ b. CanFollow s b m.qp ms) grown follow.2);
      sum = rw (← grown, is_qp, is_run, is_syntax) sum;
    }

pub put_end : {c : CodedSlice} {old now new : Made} {i : ℕ} {row : PictureInfo} {qp run : ℕ} {p : Bool}
    → IsPut c old i row qp run now → drop i c.macroblocks ≡ [] → (own_start c).is_p ≡ p → new ≡ with_bits now (last_run_bits_where p run)
    → new ≡ with_bits old (some_bits (own_start c) (earlier_mbs c) (length old.bits) c.macroblocks)
put_end is none same is_new = search (rules, none_left)

-- ---- the unit

-- the unit of the bits that were put
pub unit_put : (c : CodedSlice) (empty first second : Made) (header : ℕ) (unit : List ℕ) → empty ≡ nothing → first ≡ with_bits empty (header_bits c.sps c.pps c.header)
    → second ≡ with_bits first (data_bits (own_start c) (earlier_mbs c) (length first.bits) c.macroblocks) → header ≡ slice_unit_header c.header → IsUnit header second.bits unit →
    IsUnit (slice_unit_header c.header) (coded_slice_bits c) unit
unit_put c empty first second header unit is_empty is_first is_second is_header written = rw (is_header, is_second, is_first, is_empty) at written

-- ---- slices of any macroblocks read from their units

none_is_own : (n a : ℕ) → available (replicate n (record { slice = 0; mb = skipped 0 })) 1 a ≡ None
none_is_own zero a = refl
none_is_own (suc n) zero = refl
none_is_own (suc n) (suc a) = none_is_own n a

pub coded_slice_back : CodedSlicesAreRead
coded_slice_back c unit is written =
    let header = header_bits c.sps c.pps c.header in
    let own = own_start c in
    let earlier = earlier_mbs c in
    let others = data_bits own earlier (length header) c.macroblocks in
    let raw = rbsp (drop 1 unit) in
    let bits : bits_before_stop raw ≡ header ++ others = ap (λ b. b.ahead) (unit_start (slice_unit_header c.header) (header ++ others) unit written) in
    let left : drop (length header) (bits_before_stop raw) ≡ others = ap (drop (length header)) bits ∙ drop-append_seam header others in
    record {
      header_read = λ sets force. header_unit_is_read sets c.sps c.pps c.header others unit force is.header written;
      macroblocks_read =
          λ s before like count none any room.
          let long : length earlier ≡ length before = length-replicate c.header.first_mb_in_slice _ ∙ sym count in
          let alone = data_alone own s earlier before (length header) c.macroblocks like long (none_is_own c.header.first_mb_in_slice) none in
          ap (λ t. slice_data s before (record { position = length header; ahead = t })) (left ∙ alone.0)
          ∙ all_data_is_read s before (length header) c.macroblocks (λ other. is.some (like.is_p ∙ other)) (omega (arith, is.few)) any room (alone.1 is.follow);
    }
