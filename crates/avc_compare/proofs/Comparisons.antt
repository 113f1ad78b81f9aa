-- A comparison, event after event.
pub mod Streams
unfoldable pub use Streams.*

-- ---- what is lent

pub still_lent : {T E : Type 0} → (r : Reporting T E) → LendsTheSame r r
still_lent r = (refl, refl)

pub lent_then : {T E : Type 0} → (a b c : Reporting T E) → LendsTheSame a b → LendsTheSame b c → LendsTheSame a c
lent_then a b c before more = (more.0 ∙ before.0, more.1 ∙ before.1)

-- ---- samples of pictures one behind another

in_first : (xs ys : List ℕ) (k : ℕ) → k < length xs → get_or (xs ++ ys) k 0 ≡ get_or xs k 0
in_first xs ys k h = grind (arith, common_steps)

in_second : (xs ys : List ℕ) (k : ℕ) → length xs ≤ k → get_or (xs ++ ys) k 0 ≡ get_or ys (k - length xs) 0
in_second xs ys k h = grind (arith, common_steps)

both_same : (most : ℕ) (a b x y : List ℕ) → length x ≡ length a → AreSame most a x → AreSame most b y → AreSame most (a ++ b) (x ++ y)
both_same most a b x y long first second k inside =
    ⊎_elim
    (λ here.
    ap (λ n. differs most n (get_or (x ++ y) k 0)) (in_first a b k here) ∙ ap (λ n. differs most (get_or a k 0) n) (in_first x y k (omega (arith, here, long))) ∙ first k here)
    (λ below.
    let second' : get_or (x ++ y) k 0 ≡ get_or y (k - length a) 0 = in_second x y k (omega (arith, below, long)) ∙ ap (λ n. get_or y (k - n) 0) long in
    ap (λ n. differs most n (get_or (x ++ y) k 0)) (in_second a b k below) ∙ ap (λ n. differs most (get_or b (k - length a) 0) n) second'
    ∙ second (k - length a) (omega (arith, inside, below, length-append a b)))
    (cases_lt k (length a))

pub pictures-append : (a b : List Event) → pictures_in (a ++ b) ≡ pictures_in a ++ pictures_in b
pictures-append [] b = refl
pictures-append (Picture p ∷ a) b = ap (λ ps. p ∷ ps) (pictures-append a b)
pictures-append (Refused unit f ∷ a) b = pictures-append a b

pub shown-append : (a b : List Event) → shown (a ++ b) ≡ shown a ++ shown b
shown-append a b = ap (λ ps. flat_map i420 ps) (pictures-append a b) ∙ flat_map-append i420 (pictures_in a) (pictures_in b)

same_then : (most : ℕ) (a b : List Event) (x y : List ℕ) → IsSame most a x → IsSame most b y → IsSame most (a ++ b) (x ++ y)
same_then most a b x y first second = record {
  all = length-append x y ∙ ap (λ n. n + length y) first.all ∙ ap (λ n. length (shown a) + n) second.all ∙ sym (length-append (shown a) (shown b)) ∙ ap length (sym (shown-append a b));
  same = subst (λ ours. AreSame most ours (x ++ y)) (sym (shown-append a b)) (both_same most (shown a) (shown b) x y first.all first.same second.same);
}

-- a picture by itself
pub picture_same : (most : ℕ) (p : Decoded) (here : List ℕ) → length here ≡ length (i420 p) → AreSame most (i420 p) here → IsSame most (Picture p ∷ []) here
picture_same most p here long same =
    let one : i420 p ≡ shown (Picture p ∷ []) = sym (append-nil (i420 p)) in
    record { all = long ∙ ap length one; same = subst (λ ours. AreSame most ours here) one same }

-- no picture
pub nothing_same : (most : ℕ) (unit : ℕ) (f : Fault) → IsSame most (Refused unit f ∷ []) []
nothing_same most unit f = record { all = refl; same = λ k inside. absurd (omega (arith, inside)) }

-- ---- lines on pictures

-- one behind another
lines_then : (how : Comparison) (r : Report) (a b : List Event) (x y s t : List ℕ) → AreLines how r a x s → AreLines how (report_with r a) b y t → AreLines how r (a ++ b) (x ++ y) (s ++ t)
lines_then how r [] b x y s t first second = subst (λ z. AreLines how r b (z ++ y) (s ++ t)) (sym first.0) (subst (λ z. AreLines how r b y (z ++ t)) (sym first.1) second)
lines_then how r (Picture p ∷ a) b x y s t first second = (
  first.0 ++ y,
  first.1 ++ t,
  record {
    here = first.2.here;
    line = first.2.line;
    bytes = ap (λ z. z ++ y) first.2.bytes ∙ append_assoc first.2.here first.0 y;
    texts = ap (λ z. z ++ t) first.2.texts ∙ append_assoc first.2.line first.1 t;
    long = first.2.long;
    is = first.2.is;
    fits = first.2.fits;
  },
  lines_then how (report_with r (Picture p ∷ [])) a b first.0 y first.1 t first.3 second,
)
lines_then how r (Refused unit f ∷ a) b x y s t first second = lines_then how (report_with r (Refused unit f ∷ [])) a b x y s t first second

-- that on one picture
pub picture_line : (how : Comparison) (r : Report) (p : Decoded) (here line : List ℕ) → length here ≡ length (i420 p) → other_size how.size p ≡ None → IsLine how.has_psnr r.pictures p here line → AreLines how r (Picture p ∷ []) here line
picture_line how r p here line long fits is =
    ([], [], record { here = here; line = line; bytes = sym (append-nil here); texts = sym (append-nil line); long = long; is = is; fits = fits }, (refl, refl))

pub lines_more : (how : Comparison) (r : Report) (done : List Event) (event : Event) (theirs here text line : List ℕ) → r ≡ report_of done → AreLines how no_report done theirs text
    → AreLines how r (event ∷ []) here line → AreLines how no_report (done ++ event ∷ []) (theirs ++ here) (text ++ line)
lines_more how r done event theirs here text line reported before more =
    lines_then how no_report done (event ∷ []) theirs here text line before (subst (λ (q : Report). AreLines how q (event ∷ []) here line) (reported ∙ sym (report_more [] done)) more)

-- nothing was written more
no_more : (held h h' : Option (List ℕ)) (text : List ℕ) → Appends held h text → Appends h h' [] → Appends held h' text
no_more held h h' text before none = subst (Appends held h') (append-nil text) (Appends-trans held h h' text [] before none)

-- ---- the loop

pub begins : (how : Comparison) (unread other held : Option (List ℕ)) (m : Machine) (a : Waiting) (r : Report) → m ≡ new_machine how.output → a ≡ nothing_read → r ≡ no_report
    → IsComparing how 0 unread unread other other held held m a r
begins how unread other held m a r new nothing none =
    subst (λ (n : Machine). IsComparing how 0 unread unread other other held held n a r) (sym new) (subst (λ (b : Waiting). IsComparing how 0 unread unread other other held held (new_machine how.output) b r) (sym nothing) (record {
      done = [];
      theirs = [];
      text = [];
      reading = record { mode = refl; consumed = Consumes-nil unread; ended = refl; at_end = λ over. cc; rest = events_defined (new_machine how.output); parts = refl; taken = refl };
      consumed = Consumes-nil other;
      written = Appends-nil held;
      alike = record { same = record { all = refl; same = λ k inside. absurd (omega (arith, inside)) }; reported = none; lines = (refl, refl) };
      many = omega arith;
    }))

pub one_more : (how : Comparison) (count : ℕ) (unread l l' other o o' held h h' : Option (List ℕ)) (m m' : Machine) (a a' : Waiting) (r r' : Report) (event : Event)
    → TakesNext l l' m m' a a' (Some event) → ComparesEvent how event o o' h h' r r' (Ok None) → IsComparing how count unread l other o held h m a r
    → IsComparing how (count + 1) unread l' other o' held h' m' a' r'
one_more how count unread l l' other o o' held h h' m m' a a' r r' event next compared i = record {
  done = i.done ++ event ∷ [];
  theirs = i.theirs ++ compared.0;
  text = i.text ++ compared.1;
  reading = next.on how.output unread i.done i.reading;
  consumed = Consumes-trans other o o' i.theirs compared.0 i.consumed compared.2;
  written = Appends-trans held h h' i.text compared.1 i.written compared.3;
  alike = record {
    same = same_then how.most i.done (event ∷ []) i.theirs compared.0 i.alike.same compared.4;
    reported = compared.6 ∙ ap (λ q. report_with q (event ∷ [])) i.alike.reported ∙ report_more i.done (event ∷ []);
    lines = lines_more how r i.done event i.theirs compared.0 i.text compared.1 i.alike.reported i.alike.lines compared.5;
  };
  many = omega (arith, i.many, length-append i.done (event ∷ []));
}

-- why it was broken off at an event, and what was written of its line
pub stopped : (fault : CompareFault) (how : Comparison) (number : ℕ) (event : Event) (here : List ℕ) (h h' : Option (List ℕ)) (bytes : List ℕ) (front rest : List Event)
    → StopsAt fault how number event here h h' → BreaksOffFor fault bytes front rest
stopped (Ours Memory) how number event here h h' bytes front rest why = tt
stopped (Ours Write) how number event here h h' bytes front rest why = tt
stopped (Ours Read) how number event here h h' bytes front rest why = absurd why
stopped (Ours Endless) how number event here h h' bytes front rest why = absurd why
stopped (Ours Size) how number event here h h' bytes front rest why = absurd why
stopped Theirs how number event here h h' bytes front rest why = tt

pub stopped_part : (fault : CompareFault) (how : Comparison) (number : ℕ) (event : Event) (here : List ℕ) (h h' : Option (List ℕ)) (rest : List Event)
    → StopsAt fault how number event here h h' → WritesPart fault how.has_psnr number (event ∷ rest) here h h'
stopped_part (Ours Memory) how number event here h h' rest why = why
stopped_part (Ours Write) how number (Picture p) here h h' rest why = why
stopped_part (Ours Write) how number (Refused unit f) here h h' rest why = absurd why
stopped_part (Ours Read) how number event here h h' rest why = absurd why
stopped_part (Ours Endless) how number event here h h' rest why = absurd why
stopped_part (Ours Size) how number event here h h' rest why = absurd why
stopped_part Theirs how number event here h h' rest why = why

-- ---- how it ends

-- what the bytes define that were read up to an event
pub up_to : EventsOnlyGrow → (output : Output) (unread l l' : Option (List ℕ)) (m m' : Machine) (a a' : Waiting) (done : List Event) (event : Event)
    → TakesNext l l' m m' a a' (Some event) → IsReading output unread l m a done
    → (bytes : List ℕ) × (all : Bool) × (rest : List Event) × HasRead unread l' bytes all × (events output max_unit bytes all ≡ done ++ event ∷ rest)
up_to grow output unread l l' m m' a a' done event next i =
    let left = left_over grow output unread l' m' a' (done ++ event ∷ []) (next.on output unread done i) in
    (m'.bytes ++ a'.bytes, m'.ended, left.0, left.1, left.2 ∙ append_assoc done (event ∷ []) left.0)

-- the pictures before an event are the other's
pub comparing_looks : (how : Comparison) (count : ℕ) (unread l other o held h : Option (List ℕ)) (m : Machine) (a : Waiting) (r : Report) → (i : IsComparing how count unread l other o held h m a r)
    → IsLooking how unread other held (stand l o h m a r) i.done i.theirs i.text
comparing_looks how count unread l other o held h m a r i = record { reading = i.reading; consumed = i.consumed; written = i.written; reported = i.alike.reported; lines = i.alike.lines }

-- with an event more
pub looking_more : (how : Comparison) (unread other held : Option (List ℕ)) (s t : Stand) (done : List Event) (before text : List ℕ) (event : Event) (here line : List ℕ)
    → TakesNext s.left t.left s.machine t.machine s.waiting t.waiting (Some event) → Consumes s.rest t.rest here → Appends s.holds t.holds line → AreLines how s.report (event ∷ []) here line
    → t.report ≡ report_with s.report (event ∷ []) → IsLooking how unread other held s done before text
    → IsLooking how unread other held t (done ++ event ∷ []) (before ++ here) (text ++ line)
looking_more how unread other held s t done before text event here line next more wrote lines reported i = record {
  reading = next.on how.output unread done i.reading;
  consumed = Consumes-trans other s.rest t.rest before here i.consumed more;
  written = Appends-trans held s.holds t.holds text line i.written wrote;
  reported = reported ∙ ap (λ q. report_with q (event ∷ [])) i.reported ∙ report_more done (event ∷ []);
  lines = lines_more how s.report done event before here text line i.reported i.lines lines;
}

-- at an event, and what was sought behind it
pub found : EventsOnlyGrow → (how : Comparison) (count : ℕ) (unread l other o held h : Option (List ℕ)) (s t : Stand) (m : Machine) (a : Waiting) (r : Report) (event : Event) (verdict : Verdict)
    (displaced : Result (List Displaced) CompareFault) → TakesNext l s.left m s.machine a s.waiting (Some event) → ComparesEvent how event o s.rest h s.holds r s.report (Ok (Some verdict))
    → IsComparing how count unread l other o held h m a r → FindsBehind how verdict s t displaced → FindsAll how unread t.left other t.rest held t.holds t.report verdict displaced
found grow how count unread l other o held h s t m a r event verdict displaced next compared i behind = by event verdict next compared.2 behind
  where
    all_theirs : Consumes other s.rest (i.theirs ++ compared.0)
    all_theirs = Consumes-trans other o s.rest i.theirs compared.0 i.consumed compared.1

    stays : (v : Verdict) → t ≡ s → FindsAll how unread s.left other s.rest held s.holds r v displaced → FindsAll how unread t.left other t.rest held t.holds t.report v displaced
    stays v same f =
        subst (λ (u : Stand). FindsAll how unread u.left other u.rest held u.holds u.report v displaced) (sym same) (subst (λ q. FindsAll how unread s.left other s.rest held s.holds q v displaced) (sym compared.3) f)

    by : (e : Event) (v : Verdict) → TakesNext l s.left m s.machine a s.waiting (Some e) → EndsAtEvent how r.pictures e compared.0 s.rest h s.holds v → FindsBehind how v s t displaced
        → FindsAll how unread t.left other t.rest held t.holds t.report v displaced
    by (Picture p) (Fewer n) next' ends behind' =
        let at = up_to grow how.output unread l s.left m s.machine a s.waiting i.done (Picture p) next' i.reading in
        stays (Fewer n) behind'.0 (
          at.0,
          i.theirs ++ compared.0,
          i.text,
          at.1,
          true,
          at.3,
          record { consumed = all_theirs; whole = λ over. ends.1 },
          no_more held h s.holds i.text i.written ends.3,
          (p, compared.0, record { front = i.done; rest = at.2; before = i.theirs; parts = at.4; bytes = refl; alike = i.alike }, refl, ends.0, ends.2, ends.4),
          behind'.1,
        )
    by (Picture p) (OtherSize sizes) next' ends behind' =
        let at = up_to grow how.output unread l s.left m s.machine a s.waiting i.done (Picture p) next' i.reading in
        stays (OtherSize sizes) behind'.0 (
          at.0,
          i.theirs ++ compared.0,
          i.text,
          at.1,
          false,
          at.3,
          record { consumed = all_theirs; whole = λ over. cc },
          no_more held h s.holds i.text i.written ends.2,
          (
            p,
            record { front = i.done; rest = at.2; before = i.theirs; parts = at.4; bytes = ap (λ b. i.theirs ++ b) ends.0; alike = i.alike },
            ends.1,
          ),
          behind'.1,
        )
    by (Picture p) (Differs d) next' ends behind' =
        let counted : Stand = record s { report = report_with s.report (Picture p ∷ []) } in
        let line = picture_line how r p compared.0 ends.0 (ends.1).long (ends.1).fits ends.2 in
        let looking = looking_more how unread other held (stand l o h m a r) counted i.done i.theirs i.text (Picture p) compared.0 ends.0 next' compared.1 ends.3 line
        (ap (λ q. report_with q (Picture p ∷ [])) compared.3) (comparing_looks how count unread l other o held h m a r i) in
        let seen = behind'.on unread other held p (i.done ++ Picture p ∷ []) (i.theirs ++ compared.0) (i.text ++ ends.0) looking in (
          i.done,
          p,
          i.theirs,
          compared.0,
          seen.0,
          i.alike.same,
          subst (λ (q : Report). IsDiffering how q.pictures p compared.0 d) i.alike.reported ends.1,
          seen.1,
          seen.2,
        )
    by (Picture p) Same next' ends behind' = absurd ends
    by (Picture p) (More n) next' ends behind' = absurd ends
    by (Refused unit f) v next' ends behind' = absurd ends

-- behind all events
pub at_end : (how : Comparison) (count number : ℕ) (unread l l' other o o' held h : Option (List ℕ)) (m m' : Machine) (a a' : Waiting) (r : Report) (verdict : Verdict)
    → number ≡ r.pictures → TakesNext l l' m m' a a' None → EndsAll number o o' (Ok verdict) → IsComparing how count unread l other o held h m a r
    → FindsAll how unread l' other o' held h r verdict (Ok [])
at_end how count number unread l l' other o o' held h m m' a a' r verdict counted next ended i = by verdict ended
  where
    last : HasRead unread l' m'.bytes true × (events how.output max_unit m'.bytes true ≡ i.done)
    last = next.on how.output unread i.done i.reading

    alike : IsAlike how (events how.output max_unit m'.bytes true) i.theirs r i.text
    alike = subst (λ es. IsAlike how es i.theirs r i.text) (sym last.1) i.alike

    by : (v : Verdict) → EndsAll number o o' (Ok v) → FindsAll how unread l' other o' held h r v (Ok [])
    by Same ends = (
      m'.bytes,
      i.theirs,
      i.text,
      true,
      true,
      last.0,
      record { consumed = subst (Consumes other o') (append-nil i.theirs) (Consumes-trans other o o' i.theirs [] i.consumed ends.0); whole = λ over. ends.1 },
      i.written,
      (refl, refl, alike),
      refl,
    )
    by (More n) ends = (
      m'.bytes,
      i.theirs ++ ends.0 ∷ [],
      i.text,
      true,
      false,
      last.0,
      record { consumed = Consumes-trans other o o' i.theirs (ends.0 ∷ []) i.consumed ends.1; whole = λ over. cc },
      i.written,
      (i.theirs, ends.0, refl, refl, alike, ends.2 ∙ counted),
      refl,
    )
    by (Fewer n) ends = absurd ends
    by (Differs d) ends = absurd ends
    by (OtherSize sizes) ends = absurd ends

-- ---- faults

pub reading_stopped : (fault : RunFault) (bytes : List ℕ) (front rest : List Event) → StopsFor fault bytes rest → BreaksOffFor (Ours fault) bytes front rest
reading_stopped Read bytes front rest why = why
reading_stopped Endless bytes front rest why = let many : 2 ^ 32 ≤ length bytes + length front = omega (arith, why) in many
reading_stopped Memory bytes front rest why = tt
reading_stopped Write bytes front rest why = absurd why
reading_stopped Size bytes front rest why = absurd why

pub err_is : {A E : Type 0} (r : Result A E) (f : E) → IsErrAnd r (λ e. e ≡ f) → r ≡ Err f
err_is r f is = grind arith

-- behind all events, where the other can't be read
pub not_ended : (how : Comparison) (count number : ℕ) (unread l l' other o o' held h : Option (List ℕ)) (m m' : Machine) (a a' : Waiting) (r : Report) (fault : CompareFault) (result : Result Findings CompareFault)
    → IsErrAnd result (λ e. e ≡ fault) → TakesNext l l' m m' a a' None → EndsAll number o o' (Err fault) → IsComparing how count unread l other o held h m a r
    → Compares how unread l' other o' held h r result
not_ended how count number unread l l' other o o' held h m m' a a' r fault result is next ended i =
    let last = next.on how.output unread i.done i.reading in
    subst (Compares how unread l' other o' held h r) (sym (err_is result fault is ∙ ap (λ f. Err f) ended.2)) (
      m'.bytes,
      i.theirs ++ ended.0,
      true,
      last.0,
      Consumes-trans other o o' i.theirs ended.0 i.consumed ended.1,
      record {
        front = i.done;
        rest = [];
        before = i.theirs;
        here = ended.0;
        text = i.text;
        wrote = h;
        parts = last.1 ∙ sym (append-nil i.done);
        bytes_are = refl;
        alike = i.alike;
        why = tt;
        lines = i.written;
        part = Appends-nil h;
      },
    )

pub no_part : (fault : RunFault) (told : Bool) (number : ℕ) (bytes here : List ℕ) (rest front : List Event) (h : Option (List ℕ)) → StopsFor fault bytes front → WritesPart (Ours fault) told number rest here h h
no_part Read told number bytes here rest front h why = Appends-nil h
no_part Endless told number bytes here rest front h why = Appends-nil h
no_part Memory told number bytes here rest front h why = Appends-nil h
no_part Write told number bytes here rest front h why = absurd why
no_part Size told number bytes here rest front h why = absurd why

-- in reading
pub not_taken : (how : Comparison) (count : ℕ) (unread l l' other o held h : Option (List ℕ)) (m : Machine) (a : Waiting) (r : Report) (fault : RunFault) (result : Result Findings CompareFault)
    → IsErrAnd result (λ e. e ≡ Ours fault) → BreaksReading l l' m a fault → IsComparing how count unread l other o held h m a r → Compares how unread l' other o held h r result
not_taken how count unread l l' other o held h m a r fault result is broken i =
    let off = broken.on how.output unread i.done i.reading in
    subst (Compares how unread l' other o held h r) (sym (err_is result (Ours fault) is)) (
      off.bytes,
      i.theirs,
      off.all,
      off.read,
      i.consumed,
      record {
        front = i.done;
        rest = off.rest;
        before = i.theirs;
        here = [];
        text = i.text;
        wrote = h;
        parts = off.parts;
        bytes_are = sym (append-nil i.theirs);
        alike = i.alike;
        why = reading_stopped fault off.bytes i.done off.rest off.why;
        lines = i.written;
        part = no_part fault how.has_psnr r.pictures off.bytes [] off.rest off.rest h off.why;
      },
    )

-- at an event
pub not_compared : EventsOnlyGrow → (how : Comparison) (count : ℕ) (unread l l' other o o' held h h' : Option (List ℕ)) (m m' : Machine) (a a' : Waiting) (r r' : Report) (event : Event) (fault : CompareFault)
    (result : Result Findings CompareFault) → IsErrAnd result (λ e. e ≡ fault) → TakesNext l l' m m' a a' (Some event) → ComparesEvent how event o o' h h' r r' (Err fault)
    → IsComparing how count unread l other o held h m a r → Compares how unread l' other o' held h' r' result
not_compared grow how count unread l l' other o o' held h h' m m' a a' r r' event fault result is next compared i =
    let at = up_to grow how.output unread l l' m m' a a' i.done event next i.reading in
    subst (λ q. Compares how unread l' other o' held h' q result) (sym compared.3) (subst (Compares how unread l' other o' held h' r) (sym (err_is result fault is)) (
      at.0,
      i.theirs ++ compared.0,
      at.1,
      at.3,
      Consumes-trans other o o' i.theirs compared.0 i.consumed compared.1,
      record {
        front = i.done;
        rest = event ∷ at.2;
        before = i.theirs;
        here = compared.0;
        text = i.text;
        wrote = h;
        parts = at.4;
        bytes_are = refl;
        alike = i.alike;
        why = stopped fault how r.pictures event compared.0 h h' at.0 i.done (event ∷ at.2) compared.2;
        lines = i.written;
        part = stopped_part fault how r.pictures event compared.0 h h' at.2 compared.2;
      },
    ))

-- after so many events
pub too_many : EventsOnlyGrow → (how : Comparison) (count : ℕ) (unread l other o held h : Option (List ℕ)) (m : Machine) (a : Waiting) (r : Report) → 2 ^ 32 ≤ count
    → IsComparing how count unread l other o held h m a r → Compares how unread l other o held h r (Err (Ours Endless))
too_many grow how count unread l other o held h m a r all i =
    let left = left_over grow how.output unread l m a i.done i.reading in
    let many : 2 ^ 32 ≤ length (m.bytes ++ a.bytes) + length i.done = omega (arith, all, i.many) in (
      m.bytes ++ a.bytes,
      i.theirs,
      m.ended,
      left.1,
      i.consumed,
      record {
        front = i.done;
        rest = left.0;
        before = i.theirs;
        here = [];
        text = i.text;
        wrote = h;
        parts = left.2;
        bytes_are = sym (append-nil i.theirs);
        alike = i.alike;
        why = many;
        lines = i.written;
        part = Appends-nil h;
      },
    )

-- before anything was read
pub none_read : (how : Comparison) (unread other held : Option (List ℕ)) (r : Report) (fault : RunFault) (result : Result Findings CompareFault) → IsErrAnd result (λ e. e ≡ Ours fault) → fault ≡ Memory
    → r ≡ no_report → Compares how unread unread other other held held r result
unfolding begins
none_read how unread other held r fault result is memory none =
    let i = begins how unread other held (new_machine how.output) nothing_read r refl refl none in
    subst (Compares how unread unread other other held held r) (sym (err_is result (Ours fault) is ∙ ap (λ f. Err (Ours f)) memory)) (
      [],
      [],
      false,
      record { consumed = Consumes-nil unread; whole = λ over. cc },
      Consumes-nil other,
      record {
        front = [];
        rest = events how.output max_unit [] false;
        before = [];
        here = [];
        text = [];
        wrote = held;
        parts = refl;
        bytes_are = refl;
        alike = i.alike;
        why = tt;
        lines = Appends-nil held;
        part = Appends-nil held;
      },
    )

-- ---- one picture

-- how many samples a picture has as I420
pub i420_count : (p : Decoded) → length (i420 p) ≡ sample_count (shape_of p)
i420_count p =
    let luma = luma_window p p.luma in
    let cb = chroma_window p p.cb in
    let cr = chroma_window p p.cr in
    let c = p.crop in
    let luma_is : length luma ≡ shown_samples (shape_of p) Luma = length-window p.width p.luma c.left c.top (shown_width p) (shown_height p) in
    let cb_is : length cb ≡ shown_samples (shape_of p) Cb = length-window (p.width / 2) p.cb (c.left / 2) (c.top / 2) (shown_width p / 2) (shown_height p / 2) in
    let cr_is : length cr ≡ shown_samples (shape_of p) Cr = length-window (p.width / 2) p.cr (c.left / 2) (c.top / 2) (shown_width p / 2) (shown_height p / 2) in
    length-append (luma ++ cb) cr ∙ ap (λ n. n + length cr) (length-append luma cb) ∙ ap (λ n. n + length cb + length cr) luma_is ∙ ap (λ n. shown_samples (shape_of p) Luma + n + length cr) cb_is
    ∙ ap (λ n. shown_samples (shape_of p) Luma + shown_samples (shape_of p) Cb + n) cr_is

-- the line on the samples that were compared is that on the picture
pub line_of : (told : Bool) (number : ℕ) (p : Decoded) (picture : ComparedPicture) (ours theirs bytes line : List ℕ) → picture ≡ compared_picture number p → ours ≡ i420 p → theirs ≡ bytes
    → IsLineOf told picture ours theirs line → IsLine told number p bytes line
line_of told number p picture ours theirs bytes line compared whole read is =
    by told (subst (λ s. IsLineOf told s (i420 p) bytes line) compared (subst (λ o. IsLineOf told picture o bytes line) whole (subst (λ t. IsLineOf told picture ours t line) read is)))
  where
    by : (b : Bool) → IsLineOf b (compared_picture number p) (i420 p) bytes line → IsLine b number p bytes line
    by true is' = is'
    by false is' = is'

-- the samples that were compared are the picture's and those that were read
pub judged : (how : Comparison) (number : ℕ) (p : Decoded) (old new held holds : Option (List ℕ)) (picture : ComparedPicture) (ours theirs bytes : List ℕ) (found : Option Verdict)
    → picture ≡ compared_picture number p → ours ≡ i420 p → theirs ≡ bytes → Consumes old new bytes → length bytes ≡ length (i420 p)
    → other_size how.size p ≡ None → FindsIn how.most picture ours theirs found → TellsLine how.has_psnr picture ours theirs held holds (Ok tt) → ComparesPicture how number p old new held holds (Ok found)
judged how number p old new held holds picture ours theirs bytes found compared whole read consumed long fits finds told =
    by found (subst (λ s. FindsIn how.most s (i420 p) bytes found) compared (subst (λ o. FindsIn how.most picture o bytes found) whole (subst (λ t. FindsIn how.most picture ours t found) read finds)))
  where
    is : IsLine how.has_psnr number p bytes told.0
    is = line_of how.has_psnr number p picture ours theirs bytes told.0 compared whole read told.1

    by : (f : Option Verdict) → FindsIn how.most (compared_picture number p) (i420 p) bytes f → ComparesPicture how number p old new held holds (Ok f)
    by None same = (bytes, told.0, consumed, long, same, is, told.2, fits)
    by (Some (Differs d)) found' =
        (bytes, consumed, (told.0, record { long = long; fits = fits; which = found'.0; differs = found'.1; ours = found'.2; theirs = found'.3 }, is, told.2))
    by (Some Same) found' = absurd found'
    by (Some (Fewer n)) found' = absurd found'
    by (Some (More n)) found' = absurd found'
    by (Some (OtherSize sizes)) found' = absurd found'

-- samples are no further apart than any from themselves
same_sample : (most x : ℕ) → differs most x x ≡ false
same_sample most x = grind (arith, nat_tests)

-- the other's bytes are the picture's, and no line is told
pub passed : (how : Comparison) (number : ℕ) (p : Decoded) (old new held : Option (List ℕ)) (bytes : List ℕ) → bytes ≡ i420 p → how.has_psnr ≡ false → Consumes old new bytes
    → other_size how.size p ≡ None → ComparesPicture how number p old new held held (Ok None)
passed how number p old new held bytes is lineless consumed fits = (
  bytes,
  [],
  consumed,
  ap length is,
  λ k inside. ap (λ l. differs_at how.most (i420 p) l k) is ∙ same_sample how.most (slice_index (i420 p) k),
  subst (λ b. IsLine b number p bytes []) (sym lineless) refl,
  Appends-nil held,
  fits,
)

-- the other has not so many bytes left
pub lacking : (how : Comparison) (number : ℕ) (p : Decoded) (old new held : Option (List ℕ)) (theirs : List ℕ) → ReadsBeside p old new theirs (Ok false)
    → other_size how.size p ≡ None → ComparesPicture how number p old new held held (Ok (Some (Fewer number)))
lacking how number p old new held theirs read fits = (read.0, read.1, (read.3, read.2, refl, Appends-nil held, fits))

-- the other could not be read
pub not_met : (how : Comparison) (number : ℕ) (p : Decoded) (old new held : Option (List ℕ)) (fault : CompareFault) (result : Result (Option Verdict) CompareFault)
    → IsErrAnd result (λ e. e ≡ fault) → fault ≡ Theirs → (here : List ℕ) × Consumes old new here → ComparesPicture how number p old new held held result
not_met how number p old new held fault result is theirs rest =
    subst (ComparesPicture how number p old new held held) (sym (err_is result fault is ∙ ap (λ f. Err f) theirs)) (rest.0, rest.1, Appends-nil held)

-- memory to tell where they differ was refused
pub not_judged : (how : Comparison) (number : ℕ) (p : Decoded) (old new held : Option (List ℕ)) (theirs : List ℕ) (fault : RunFault) (result : Result (Option Verdict) CompareFault)
    → IsErrAnd result (λ e. e ≡ Ours fault) → fault ≡ Memory → Consumes old new theirs → ComparesPicture how number p old new held held result
not_judged how number p old new held theirs fault result is memory consumed =
    subst (ComparesPicture how number p old new held held) (sym (err_is result (Ours fault) is ∙ ap (λ f. Err (Ours f)) memory)) (theirs, consumed, Appends-nil held)

-- why no more could be read
pub unread : (fault : CompareFault) (how : Comparison) (number : ℕ) (event : Event) (here : List ℕ) (held : Option (List ℕ)) → IsUnread fault → StopsAt fault how number event here held held
unread (Ours Memory) how number event here held why = Appends-nil held
unread (Ours Write) how number event here held why = absurd why
unread (Ours Read) how number event here held why = absurd why
unread (Ours Endless) how number event here held why = absurd why
unread (Ours Size) how number event here held why = absurd why
unread Theirs how number event here held why = Appends-nil held

pub not_read : (how : Comparison) (number : ℕ) (p : Decoded) (old new held : Option (List ℕ)) (theirs : List ℕ) (fault : CompareFault) (result : Result (Option Verdict) CompareFault)
    → IsErrAnd result (λ e. e ≡ fault) → ReadsBeside p old new theirs (Err fault) → ComparesPicture how number p old new held held result
not_read how number p old new held theirs fault result is read =
    subst (ComparesPicture how number p old new held held) (sym (err_is result fault is)) (read.0, read.1, unread fault how number (Picture p) read.0 held read.2)

-- ---- one event

pub picture_ended : (how : Comparison) (number : ℕ) (event : Event) (p : Decoded) (o o' h h' : Option (List ℕ)) (before now : Report) (verdict : Verdict) → event ≡ Picture p → number ≡ before.pictures
    → now ≡ before → ComparesPicture how number p o o' h h' (Ok (Some verdict)) → ComparesEvent how event o o' h h' before now (Ok (Some verdict))
picture_ended how number event p o o' h h' before now verdict is counted same compared =
    subst (λ e. ComparesEvent how e o o' h h' before now (Ok (Some verdict))) (sym is)
    (compared.0, compared.1, subst (λ n. EndsAt how n p compared.0 o' h h' verdict) counted compared.2, same)

pub picture_passed : (how : Comparison) (number : ℕ) (event : Event) (p : Decoded) (o o' h h' : Option (List ℕ)) (before now : Report) → event ≡ Picture p → number ≡ before.pictures
    → now ≡ report_with before (Picture p ∷ []) → ComparesPicture how number p o o' h h' (Ok None) → ComparesEvent how event o o' h h' before now (Ok None)
picture_passed how number event p o o' h h' before now is counted more compared =
    subst (λ e. ComparesEvent how e o o' h h' before now (Ok None)) (sym is) (
      compared.0,
      compared.1,
      compared.2,
      compared.6,
      picture_same how.most p compared.0 compared.3 compared.4,
      picture_line how before p compared.0 compared.1 compared.3 compared.7 (subst (λ n. IsLine how.has_psnr n p compared.0 compared.1) counted compared.5),
      more,
    )

pub refused_passed : (how : Comparison) (event : Event) (unit : ℕ) (f : Fault) (o h : Option (List ℕ)) (before now : Report) → event ≡ Refused unit f
    → now ≡ report_with before (Refused unit f ∷ []) → ComparesEvent how event o o h h before now (Ok None)
refused_passed how event unit f o h before now is more =
    subst (λ e. ComparesEvent how e o o h h before now (Ok None)) (sym is) ([], [], Consumes-nil o, Appends-nil h, nothing_same how.most unit f, (refl, refl), more)

-- a line that could not be written
pub untold : (how : Comparison) (number : ℕ) (p : Decoded) (old new held holds : Option (List ℕ)) (picture : ComparedPicture) (ours theirs bytes : List ℕ) (fault : RunFault)
    (result : Result (Option Verdict) CompareFault) → IsErrAnd result (λ e. e ≡ Ours fault) → picture ≡ compared_picture number p → ours ≡ i420 p → theirs ≡ bytes → Consumes old new bytes
    → TellsLine how.has_psnr picture ours theirs held holds (Err fault) → ComparesPicture how number p old new held holds result
untold how number p old new held holds picture ours theirs bytes fault result is compared whole read consumed told =
    subst (ComparesPicture how number p old new held holds) (sym (err_is result (Ours fault) is)) (bytes, consumed, by fault told)
  where
    by : (f : RunFault) → TellsLine how.has_psnr picture ours theirs held holds (Err f) → StopsAt (Ours f) how number (Picture p) bytes held holds
    by Write told' = record { line = told'.0; is = line_of how.has_psnr number p picture ours theirs bytes told'.0 compared whole read told'.1; first = told'.2 }
    by Memory told' = told'
    by Read told' = absurd told'
    by Endless told' = absurd told'
    by Size told' = absurd told'

-- a line that was to be written
pub told_line : (told : Bool) (picture : ComparedPicture) (ours theirs line : List ℕ) (psnr : Psnr) (held holds : Option (List ℕ)) (r : Result (Unit {0}) RunFault) → told ≡ true
    → IsPsnr picture.shape ours theirs psnr → line ≡ psnr_line picture.number psnr → OnOk r (Appends held holds line) → IfErr r (λ fault. (fault ≡ Write) × WritesFirst held holds line)
    → TellsLine told picture ours theirs held holds r
told_line told picture ours theirs line psnr held holds r on is text ok err = subst (λ b. TellsLine b picture ours theirs held holds r) (sym on) (by r ok err)
  where
    by : (res : Result (Unit {0}) RunFault) → OnOk res (Appends held holds line) → IfErr res (λ fault. (fault ≡ Write) × WritesFirst held holds line) → TellsLine true picture ours theirs held holds res
    by (Ok done) ok' err' = (line, (psnr, is, text), ok')
    by (Err fault) ok' err' = subst (λ f. TellsLine true picture ours theirs held holds (Err f)) (sym err'.0) (line, (psnr, is, text), err'.1)

-- ---- bytes that are read into a part

take_split : (a b : ℕ) (old new : List ℕ) → a ≤ b → take a new ≡ take a old → take a old ++ slice_range new a b ≡ take b new
take_split a b old new h front =
    let same : a + (b - a) ≡ b = omega arith in
    ap (λ l. l ++ slice_range new a b) (sym front) ∙ sym (take-add a (b - a) new) ∙ ap (λ n. take n new) same

slice_range-put_mid : (a k n : ℕ) (xs ys : List ℕ) → a ≤ length xs → n ≤ length ys → slice_range (put_mid a k xs ys) a (a + n) ≡ take n ys
slice_range-put_mid a k n xs ys within fits =
    let same : (a + n) - a ≡ n = omega arith in
    let after = post_of a k xs in
    ap (take ((a + n) - a)) (drop_at (take a xs) (ys ++ after) a (length-take-le a xs within)) ∙ ap (λ m. take m (ys ++ after)) same ∙ take-append-le n ys after fits

pub read_behind : (old mid new : Option (List ℕ)) (xs ys : List ℕ) (a k n : ℕ) → a ≤ length xs → n ≤ length ys → Consumes old mid (take a xs) → Consumes mid new (take n ys)
    → Consumes old new (take (a + n) (put_mid a k xs ys))
read_behind old mid new xs ys a k n within fits before more =
    let part = slice_range-put_mid a k n xs ys within fits in
    let joined = take_split a (a + n) xs (put_mid a k xs ys) (omega arith) (take-put_mid_below _ _ _ _ _ (le_refl _) within) in
    subst (Consumes old new) (ap (λ l. take a xs ++ l) (sym part) ∙ joined) (Consumes-trans old mid new (take a xs) (take n ys) before more)

-- ---- texts

pub writes_text : (text : List ℕ) (held holds : Option (List ℕ)) (r : Result (Unit {0}) RunFault) → OnOk r (Appends held holds text) → IfErr r (λ fault. StopsPicture fault true held holds text)
    → WritesText text held holds r
writes_text text held holds (Ok done) ok err = ok
writes_text text held holds (Err fault) ok err = err
