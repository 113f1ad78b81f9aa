-- Looking on behind the first picture that differs, event after event.
use Rattle.avc_compare.proofs.Comparisons.{ap, sym, subst, ◌∙◌, append_assoc, append-nil, arith, length-append, length-take, take_all, refl, err_is}
use Rattle.avc_compare.proofs.Comparisons.{◌≡◌, ℕ, suc, ◌+◌, ◌<◌, ◌≤◌, ◌^◌, List, [], ◌∷◌, ◌++◌, length, take, min, Option, Some, None, Bool, true, false, Result, Ok, Err, IsErrAnd}
use Rattle.avc_compare.proofs.Comparisons.{Appends, Consumes, IsAtEnd, Appends-nil, Consumes-nil, Consumes-trans, HasRead, RunFault, CompareFault, Report, Event, Picture, Refused, Decoded, Sizes}
use Rattle.avc_compare.proofs.Comparisons.{Memory, Endless, Ours, EventsOnlyGrow, Comparison, Digested, Differing, Displaced, Stand}
use Rattle.avc_compare.proofs.Comparisons.{events, max_unit, shown, i420, pictures_in, report_with, other_size, digests_of, most_sought, kept, with_ours, with_theirs, is_enough}
use Rattle.avc_compare.proofs.Comparisons.{pictures-append, shown-append, looking_more, up_to, reading_stopped, no_part, stopped, stopped_part, left_over, picture_line}
use Rattle.avc_compare.proofs.Comparisons.{AreLines, BreaksReading, TakesNext, IsDisplaced, IsLookedOn, Lacks, Sees, WritesPart, GoesOn, IsFurther, IsLooking, LacksLeft, LooksAt, LooksAtEvent, LooksOn, Seeks, StopsAt}
use Rattle.avc_compare.proofs.Comparisons.{compared_picture, line_of, unread, untold, ComparedPicture, ReadsBeside, TellsLine}
use Rattle.avc_compare.proofs.Comparisons.{TellsOn}
use Rattle.avc_console.specs.Reporting.{with_picture, Reported}
use Rattle.md5.specs.Md5.{md5}
use Rattle.std.proofs.lemmas.Bool.Decides.{nat_tests}
use Rattle.std.proofs.lemmas.List.{length-map, map-append}
use Rattle.std.specs.List.{cons_option}
use Rattle.std.specs.Prelude.{nat_le, nat_lt, not, map, ◌&&◌, if◌then◌else◌}
use Rattle.std.proofs.Common.{inl, inr}
use Rattle.avc_compare.specs.Displaced.{pictures_beside}
use Rattle.avc_annexb.specs.Units.{saturated}
use Rattle.avc_compare.proofs.Seeking.{beside_then, kept_is}

-- ---- so many pictures

-- how many MD5s of ours are known
digests_count : (ours : List ℕ) (ps : List Decoded) → length (take most_sought (ours ∷ digests_of ps)) ≡ min 17 (suc (length ps))
digests_count ours ps = length-take 17 (ours ∷ digests_of ps) ∙ ap (λ n. min 17 (suc n)) (length-map ps (λ p. md5 (i420 p)))

-- not all that are sought were seen
not_enough : (how : Comparison) (count n : ℕ) → is_enough how count ≡ false → count ≡ min 17 (suc n) → how.has_psnr ≡ false → n + 1 < 17
not_enough how count n less counted none =
    let test : nat_le 17 count ≡ false = sym (ap (λ (b : Bool). not b && nat_le 17 count) none) ∙ less in
    let few : count < 17 = grind (arith, nat_tests) in
    omega (arith, few, counted)

enough : (how : Comparison) (count n : ℕ) → is_enough how count ≡ true → count ≡ min 17 (suc n) → (how.has_psnr ≡ false) × (17 ≤ n + 1)
enough how count n is counted = by how.has_psnr refl
  where
    by : (b : Bool) → how.has_psnr ≡ b → (how.has_psnr ≡ false) × (17 ≤ n + 1)
    by true told = let none : false ≡ true = sym (ap (λ (b : Bool). not b && nat_le 17 count) told) ∙ is in absurd (cc)
    by false told =
        let test : nat_le 17 count ≡ true = sym (ap (λ (b : Bool). not b && nat_le 17 count) told) ∙ is in
        let many : 17 ≤ count = grind (arith, nat_tests) in
        (told, omega (arith, many, counted))

-- ---- one event

-- behind what was looked at
regrouped : (how : Comparison) (unread other held : Option (List ℕ)) (s : Stand) (a b c : List Event) (x y z u v w : List ℕ) → IsLooking how unread other held s ((a ++ b) ++ c) ((x ++ y) ++ z) ((u ++ v) ++ w)
    → IsLooking how unread other held s (a ++ (b ++ c)) (x ++ (y ++ z)) (u ++ (v ++ w))
regrouped how unread other held s a b c x y z u v w i =
    subst (λ es. IsLooking how unread other held s es (x ++ (y ++ z)) (u ++ (v ++ w))) (append_assoc a b c)
    (subst (λ bs. IsLooking how unread other held s ((a ++ b) ++ c) bs (u ++ (v ++ w))) (append_assoc x y z)
    (subst (λ t. IsLooking how unread other held s ((a ++ b) ++ c) ((x ++ y) ++ z) t) (append_assoc u v w) i))

-- before any event
pub further_begins : (how : Comparison) (ours theirs : List ℕ) (s : Stand) (d : Digested) → d ≡ record { ours = ours ∷ []; theirs = theirs ∷ [] } → GoesOn how 0 ours theirs s s d
unfolding pictures_beside
further_begins how ours theirs s d is = record {
  on = λ unread other held done before text i. record {
    looked = [];
    more = [];
    lines = [];
    looking = subst (λ es. IsLooking how unread other held s es (before ++ []) (text ++ [])) (sym (append-nil done)) (subst (λ bs. IsLooking how unread other held s done bs (text ++ [])) (sym (append-nil before))
        (subst (λ t. IsLooking how unread other held s done before t) (sym (append-nil text)) i));
    many = omega arith;
    few = λ none. omega arith;
    whole = refl;
    ours_are = ap (λ (e : Digested). e.ours) is;
    theirs_are = ap (λ (e : Digested). e.theirs) is;
  };
}

-- its pictures' MD5s behind those before
ours_more : (ours : List ℕ) (looked : List Event) (event : Event) → (ours ∷ digests_of (pictures_in looked)) ++ digests_of (pictures_in (event ∷ [])) ≡ ours ∷ digests_of (pictures_in (looked ++ event ∷ []))
ours_more ours looked event =
    ap (λ l. ours ∷ l) (sym (map-append (λ p. md5 (i420 p)) (pictures_in looked) (pictures_in (event ∷ []))) ∙ ap digests_of (sym (pictures-append looked (event ∷ []))))

theirs_more : (theirs : List ℕ) (looked : List Event) (event : Event) (more here : List ℕ) → length more ≡ length (shown looked)
    → (theirs ∷ map md5 (pictures_beside (pictures_in looked) more)) ++ map md5 (pictures_beside (pictures_in (event ∷ [])) here) ≡ theirs ∷ map md5 (pictures_beside (pictures_in (looked ++ event ∷ [])) (more ++ here))
theirs_more theirs looked event more here whole =
    ap (λ l. theirs ∷ l) (sym (map-append md5 (pictures_beside (pictures_in looked) more) (pictures_beside (pictures_in (event ∷ [])) here))
    ∙ ap (map md5) (sym (beside_then (pictures_in looked) (pictures_in (event ∷ [])) more here whole)
    ∙ ap (λ ps. pictures_beside ps (more ++ here)) (sym (pictures-append looked (event ∷ [])))))

-- a picture beside as many bytes
beside_one : (p : Decoded) (here : List ℕ) → length here ≡ length (i420 p) → pictures_beside (p ∷ []) here ≡ here ∷ []
unfolding pictures_beside
beside_one p here long =
    let fits : nat_lt (length here) (length (i420 p)) ≡ false = grind (arith, nat_tests) in
    ap (λ (b : Bool). if b then [] else take (length (i420 p)) here ∷ []) fits ∙ ap (λ l. l ∷ []) (take_all (length (i420 p)) here (omega (arith, long)))

nothing_beside : (front : List (List ℕ)) → front ++ [] ≡ front ++ map md5 (pictures_beside [] [])
unfolding pictures_beside
nothing_beside front = refl

further : (how : Comparison) (count : ℕ) (unread other held : Option (List ℕ)) (ours theirs : List ℕ) (t u : Stand) (d e : Digested) (done : List Event) (before text : List ℕ) (event : Event) (here line : List ℕ)
    → (f : IsFurther how count unread other held ours theirs t d done before text) → is_enough how (length d.ours) ≡ false
    → TakesNext t.left u.left t.machine u.machine t.waiting u.waiting (Some event) → Consumes t.rest u.rest here → Appends t.holds u.holds line → AreLines how t.report (event ∷ []) here line
    → u.report ≡ report_with t.report (event ∷ []) → length here ≡ length (shown (event ∷ []))
    → e.ours ≡ take most_sought ((ours ∷ digests_of (pictures_in f.looked)) ++ digests_of (pictures_in (event ∷ [])))
    → e.theirs ≡ take most_sought ((theirs ∷ map md5 (pictures_beside (pictures_in f.looked) f.more)) ++ map md5 (pictures_beside (pictures_in (event ∷ [])) here))
    → IsFurther how (count + 1) unread other held ours theirs u e done before text
further how count unread other held ours theirs t u d e done before text event here line f less next more wrote lines reported whole ours_are theirs_are = record {
  looked = f.looked ++ event ∷ [];
  more = f.more ++ here;
  lines = f.lines ++ line;
  looking = regrouped how unread other held u done f.looked (event ∷ []) before f.more here text f.lines line
      (looking_more how unread other held t u (done ++ f.looked) (before ++ f.more) (text ++ f.lines) event here line next more wrote lines reported f.looking);
  many = omega (arith, f.many, length-append f.looked (event ∷ []));
  few = λ none.
      let counted : length d.ours ≡ min 17 (suc (length (pictures_in f.looked))) = ap length f.ours_are ∙ digests_count ours (pictures_in f.looked) in
      let few = not_enough how (length d.ours) (length (pictures_in f.looked)) less counted none in
      let all : length (pictures_in (f.looked ++ event ∷ [])) ≡ length (pictures_in f.looked) + length (pictures_in (event ∷ [])) =
      ap length (pictures-append f.looked (event ∷ [])) ∙ length-append (pictures_in f.looked) (pictures_in (event ∷ [])) in
      omega (arith, few, all, at_most_one event);
  whole = length-append f.more here ∙ ap (λ n. n + length here) f.whole ∙ ap (λ n. length (shown f.looked) + n) whole ∙ sym (length-append (shown f.looked) (shown (event ∷ []))) ∙ ap length (sym (shown-append f.looked (event ∷ [])));
  ours_are = ours_are ∙ ap (take most_sought) (ours_more ours f.looked event);
  theirs_are = theirs_are ∙ ap (take most_sought) (theirs_more theirs f.looked event f.more here f.whole);
}
  where
    at_most_one : (e : Event) → length (pictures_in (e ∷ [])) ≤ 1
    at_most_one (Picture p) = omega arith
    at_most_one (Refused unit f) = omega arith

pub goes_on : (how : Comparison) (count : ℕ) (ours theirs : List ℕ) (s t u : Stand) (d e : Digested) (event : Event) → GoesOn how count ours theirs s t d → is_enough how (length d.ours) ≡ false
    → TakesNext t.left u.left t.machine u.machine t.waiting u.waiting (Some event) → LooksAtEvent how event t.rest u.rest t.holds u.holds t.report u.report d e (Ok true)
    → GoesOn how (count + 1) ours theirs s u e
goes_on how count ours theirs s t u d e event g less next looks = record { on = λ unread other held done before text i. by event next looks unread other held done before text (g.on unread other held done before text i) }
  where
    by : (event : Event) → TakesNext t.left u.left t.machine u.machine t.waiting u.waiting (Some event) → LooksAtEvent how event t.rest u.rest t.holds u.holds t.report u.report d e (Ok true)
        → (unread other held : Option (List ℕ)) (done : List Event) (before text : List ℕ) → IsFurther how count unread other held ours theirs t d done before text → IsFurther how (count + 1) unread other held ours theirs u e done before text
    by (Picture p) next' looks' unread other held done before text f =
        let at = looks'.0 in
        let one : i420 p ≡ shown (Picture p ∷ []) = sym (append-nil (i420 p)) in
        further how count unread other held ours theirs t u d e done before text (Picture p) at.0 at.1 f less next' at.2 at.5 (picture_line how t.report p at.0 at.1 at.3 at.6 at.4) looks'.1 (at.3 ∙ ap length one)
        (ap (λ (q : Digested). q.ours) at.7 ∙ ap (λ l. kept l (md5 (i420 p))) f.ours_are ∙ kept_is (ours ∷ digests_of (pictures_in f.looked)) (md5 (i420 p)))
        (ap (λ (q : Digested). q.theirs) at.7 ∙ ap (λ l. kept l (md5 at.0)) f.theirs_are ∙ kept_is (theirs ∷ map md5 (pictures_beside (pictures_in f.looked) f.more)) (md5 at.0)
        ∙ ap (λ l. take most_sought ((theirs ∷ map md5 (pictures_beside (pictures_in f.looked) f.more)) ++ map md5 l)) (sym (beside_one p at.0 at.3)))
    by (Refused unit fault) next' looks' unread other held done before text f =
        further how count unread other held ours theirs t u d e done before text (Refused unit fault) [] [] f less next' (subst (λ o. Consumes t.rest o []) (sym looks'.0) (Consumes-nil t.rest))
        (subst (λ o. Appends t.holds o []) (sym looks'.1) (Appends-nil t.holds)) (refl, refl) looks'.3 refl
        (ap (λ (q : Digested). q.ours) looks'.2 ∙ f.ours_are ∙ ap (take most_sought) (sym (append-nil (ours ∷ digests_of (pictures_in f.looked)))))
        (ap (λ (q : Digested). q.theirs) looks'.2 ∙ f.theirs_are ∙ ap (take most_sought) (sym (append-nil (theirs ∷ map md5 (pictures_beside (pictures_in f.looked) f.more))) ∙ none))
      where
        none : (theirs ∷ map md5 (pictures_beside (pictures_in f.looked) f.more)) ++ [] ≡ (theirs ∷ map md5 (pictures_beside (pictures_in f.looked) f.more)) ++ map md5 (pictures_beside (pictures_in (Refused unit fault ∷ [])) [])
        none = nothing_beside (theirs ∷ map md5 (pictures_beside (pictures_in f.looked) f.more))

-- ---- the end

-- what was looked at, and why not more
looked_on : (how : Comparison) (count : ℕ) (unread other held : Option (List ℕ)) (ours theirs : List ℕ) (t u : Stand) (d : Digested) (done : List Event) (before text : List ℕ)
    → (f : IsFurther how count unread other held ours theirs t d done before text) → (bytes : List ℕ) (all : Bool) (others : List Event) (part : List ℕ) (over : Bool) (result : Result Digested CompareFault)
    → HasRead unread u.left bytes all → Consumes t.rest u.rest part → (over ≡ true → IsAtEnd u.rest) → events how.output max_unit bytes all ≡ (done ++ f.looked) ++ others → u.report ≡ t.report
    → Sees how ours theirs bytes all over done f.looked others f.more part u.report.pictures t.holds u.holds result → IsLookedOn how unread u.left other u.rest held u.holds u.report done before ours theirs result
looked_on how count unread other held ours theirs t u d done before text f bytes all others part over result read more last parts same sees = record {
  bytes = bytes;
  all = all;
  over = over;
  looked = f.looked;
  others = others;
  more = f.more;
  part = part;
  text = text ++ f.lines;
  wrote = t.holds;
  read = read;
  read_theirs = record { consumed = Consumes-trans other t.rest u.rest (before ++ f.more) part f.looking.consumed more; whole = last };
  parts = parts;
  reported = same ∙ f.looking.reported;
  lines = f.looking.lines;
  written = f.looking.written;
  few = f.few;
  sees = sees;
}

-- none of the next picture
ours_end : (ours : List ℕ) (looked : List Event) (digests : List (List ℕ)) → digests ≡ take most_sought (ours ∷ digests_of (pictures_in looked))
    → digests ≡ take most_sought (ours ∷ digests_of (pictures_in looked ++ cons_option None []))
ours_end ours looked digests is = is ∙ ap (λ ps. take most_sought (ours ∷ digests_of ps)) (sym (append-nil (pictures_in looked)))

-- behind so many
pub ends_enough : EventsOnlyGrow → (how : Comparison) (count : ℕ) (ours theirs : List ℕ) (s t : Stand) (d : Digested) → GoesOn how count ours theirs s t d → is_enough how (length d.ours) ≡ true → LooksOn how ours theirs s t (Ok d)
ends_enough grow how count ours theirs s t d g is = record {
  on = λ unread other held done before text i.
      let f = g.on unread other held done before text i in
      let left = left_over grow how.output unread t.left t.machine t.waiting (done ++ f.looked) f.looking.reading in
      let counted : length d.ours ≡ min 17 (suc (length (pictures_in f.looked))) = ap length f.ours_are ∙ digests_count ours (pictures_in f.looked) in
      looked_on how count unread other held ours theirs t t d done before text f (t.machine.bytes ++ t.waiting.bytes) t.machine.ended left.0 [] false (Ok d) left.1 (Consumes-nil t.rest) (λ over. cc) left.2 refl
      (None, (refl, inl (enough how (length d.ours) (length (pictures_in f.looked)) is counted)), Appends-nil t.holds, ours_end ours f.looked d.ours f.ours_are, f.theirs_are);
}

-- with the stream
pub ends_stream : (how : Comparison) (count : ℕ) (ours theirs : List ℕ) (s t u : Stand) (d : Digested) → GoesOn how count ours theirs s t d → TakesNext t.left u.left t.machine u.machine t.waiting u.waiting None
    → u.rest ≡ t.rest → u.holds ≡ t.holds → u.report ≡ t.report → LooksOn how ours theirs s u (Ok d)
ends_stream how count ours theirs s t u d g next rest holds same = record {
  on = λ unread other held done before text i.
      let f = g.on unread other held done before text i in
      let last = next.on how.output unread (done ++ f.looked) f.looking.reading in
      looked_on how count unread other held ours theirs t u d done before text f u.machine.bytes true [] [] false (Ok d) last.0 (subst (λ o. Consumes t.rest o []) (sym rest) (Consumes-nil t.rest)) (λ over. cc)
      (last.1 ∙ sym (append-nil (done ++ f.looked))) same
      (None, (refl, inr (refl, refl)), subst (λ o. Appends t.holds o []) (sym holds) (Appends-nil t.holds), ours_end ours f.looked d.ours f.ours_are, f.theirs_are);
}

-- whether the other has ended
abbrev over_at : Option Sizes → Bool
over_at None = true
over_at (Some sizes) = false

lacks : (sizes : Option Sizes) (left : Option (List ℕ)) (here : List ℕ) (p : Decoded) → LacksLeft sizes left here p → Lacks sizes (over_at sizes) here p × ((over_at sizes ≡ true) → IsAtEnd left)
lacks None left here p is = ((refl, is.1), λ over. is.0)
lacks (Some sizes) left here p is = (is, λ over. cc)

-- at a picture that the other lacks
pub ends_lacking : EventsOnlyGrow → (how : Comparison) (count : ℕ) (ours theirs : List ℕ) (s t u : Stand) (d e : Digested) (event : Event) → GoesOn how count ours theirs s t d
    → TakesNext t.left u.left t.machine u.machine t.waiting u.waiting (Some event) → LooksAtEvent how event t.rest u.rest t.holds u.holds t.report u.report d e (Ok false) → LooksOn how ours theirs s u (Ok e)
ends_lacking grow how count ours theirs s t u d e event g next looks = record { on = λ unread other held done before text i. by event next looks unread other held done before text (g.on unread other held done before text i) }
  where
    by : (event : Event) → TakesNext t.left u.left t.machine u.machine t.waiting u.waiting (Some event) → LooksAtEvent how event t.rest u.rest t.holds u.holds t.report u.report d e (Ok false)
        → (unread other held : Option (List ℕ)) (done : List Event) (before text : List ℕ) → IsFurther how count unread other held ours theirs t d done before text
        → IsLookedOn how unread u.left other u.rest held u.holds u.report done before ours theirs (Ok e)
    by (Picture p) next' looks' unread other held done before text f =
        let at = looks'.0 in
        let up = up_to grow how.output unread t.left u.left t.machine u.machine t.waiting u.waiting (done ++ f.looked) (Picture p) next' f.looking.reading in
        let none = lacks (other_size how.size p) u.rest at.0 p at.2 in
        looked_on how count unread other held ours theirs t u d done before text f up.0 up.1 (Picture p ∷ up.2) at.0 (over_at (other_size how.size p)) (Ok e) up.3 at.1 none.1 up.4 looks'.1 (
          Some p,
          (up.2, refl, none.0),
          at.3,
          ap (λ (q : Digested). q.ours) at.4 ∙ ap (λ l. kept l (md5 (i420 p))) f.ours_are ∙ kept_is (ours ∷ digests_of (pictures_in f.looked)) (md5 (i420 p))
              ∙ ap (λ l. take most_sought (ours ∷ l)) (sym (map-append (λ q. md5 (i420 q)) (pictures_in f.looked) (p ∷ []))),
          ap (λ (q : Digested). q.theirs) at.4 ∙ f.theirs_are,
        )
    by (Refused unit fault) next' looks' unread other held done before text f = absurd looks'.3

-- ---- faults

-- in reading
pub not_read_on : (how : Comparison) (count : ℕ) (ours theirs : List ℕ) (s t u : Stand) (d : Digested) (fault : RunFault) (result : Result Digested CompareFault) → IsErrAnd result (λ e. e ≡ Ours fault)
    → GoesOn how count ours theirs s t d → BreaksReading t.left u.left t.machine t.waiting fault → u.rest ≡ t.rest → u.holds ≡ t.holds → u.report ≡ t.report → LooksOn how ours theirs s u result
not_read_on how count ours theirs s t u d fault result is g broken rest holds same = subst (LooksOn how ours theirs s u) (sym (err_is result (Ours fault) is)) (record {
  on = λ unread other held done before text i.
      let f = g.on unread other held done before text i in
      let off = broken.on how.output unread (done ++ f.looked) f.looking.reading in
      looked_on how count unread other held ours theirs t u d done before text f off.bytes off.all off.rest [] false (Err (Ours fault)) off.read (subst (λ o. Consumes t.rest o []) (sym rest) (Consumes-nil t.rest)) (λ over. cc)
      off.parts same (
        reading_stopped fault off.bytes (done ++ f.looked) off.rest off.why,
        subst (λ o. WritesPart (Ours fault) how.has_psnr u.report.pictures off.rest [] t.holds o) (sym holds) (no_part fault how.has_psnr u.report.pictures off.bytes [] off.rest off.rest t.holds off.why),
      );
})

-- at an event
pub not_looked_at : EventsOnlyGrow → (how : Comparison) (count : ℕ) (ours theirs : List ℕ) (s t u : Stand) (d e : Digested) (event : Event) (fault : CompareFault) (result : Result Digested CompareFault) → IsErrAnd result (λ f. f ≡ fault)
    → GoesOn how count ours theirs s t d → TakesNext t.left u.left t.machine u.machine t.waiting u.waiting (Some event) → LooksAtEvent how event t.rest u.rest t.holds u.holds t.report u.report d e (Err fault)
    → LooksOn how ours theirs s u result
not_looked_at grow how count ours theirs s t u d e event fault result is g next looks = subst (LooksOn how ours theirs s u) (sym (err_is result fault is)) (record {
  on = λ unread other held done before text i. by event next looks unread other held done before text (g.on unread other held done before text i);
})
  where
    at_event : (event : Event) (here : List ℕ) → TakesNext t.left u.left t.machine u.machine t.waiting u.waiting (Some event) → Consumes t.rest u.rest here → StopsAt fault how t.report.pictures event here t.holds u.holds
        → u.report ≡ t.report → (unread other held : Option (List ℕ)) (done : List Event) (before text : List ℕ) → IsFurther how count unread other held ours theirs t d done before text
        → IsLookedOn how unread u.left other u.rest held u.holds u.report done before ours theirs (Err fault)
    at_event event here next' more why same unread other held done before text f =
        let up = up_to grow how.output unread t.left u.left t.machine u.machine t.waiting u.waiting (done ++ f.looked) event next' f.looking.reading in
        let here_is = subst (λ (q : Report). StopsAt fault how q.pictures event here t.holds u.holds) (sym same) why in
        looked_on how count unread other held ours theirs t u d done before text f up.0 up.1 (event ∷ up.2) here false (Err fault) up.3 more (λ over. cc) up.4 same
        (stopped fault how u.report.pictures event here t.holds u.holds up.0 (done ++ f.looked) (event ∷ up.2) here_is, stopped_part fault how u.report.pictures event here t.holds u.holds up.2 here_is)

    by : (event : Event) → TakesNext t.left u.left t.machine u.machine t.waiting u.waiting (Some event) → LooksAtEvent how event t.rest u.rest t.holds u.holds t.report u.report d e (Err fault)
        → (unread other held : Option (List ℕ)) (done : List Event) (before text : List ℕ) → IsFurther how count unread other held ours theirs t d done before text
        → IsLookedOn how unread u.left other u.rest held u.holds u.report done before ours theirs (Err fault)
    by (Picture p) next' looks' = let at = looks'.0 in at_event (Picture p) at.0 next' at.1 at.2 looks'.1
    by (Refused unit f) next' looks' =
        let passed = looks'.3 in
        at_event (Refused unit f) [] next' (subst (λ o. Consumes t.rest o []) (sym looks'.0) (Consumes-nil t.rest))
        (subst (λ g'. StopsAt g' how t.report.pictures (Refused unit f) [] t.holds u.holds) (sym passed.0) (subst (λ o. Appends t.holds o []) (sym looks'.1) (Appends-nil t.holds))) passed.1

-- after so many events
pub too_many_looked : EventsOnlyGrow → (how : Comparison) (count : ℕ) (ours theirs : List ℕ) (s t : Stand) (d : Digested) → 2 ^ 32 ≤ count → GoesOn how count ours theirs s t d → LooksOn how ours theirs s t (Err (Ours Endless))
too_many_looked grow how count ours theirs s t d all g = record {
  on = λ unread other held done before text i.
      let f = g.on unread other held done before text i in
      let left = left_over grow how.output unread t.left t.machine t.waiting (done ++ f.looked) f.looking.reading in
      let many : 2 ^ 32 ≤ length (t.machine.bytes ++ t.waiting.bytes) + length (done ++ f.looked) = omega (arith, all, f.many, length-append done f.looked) in
      looked_on how count unread other held ours theirs t t d done before text f (t.machine.bytes ++ t.waiting.bytes) t.machine.ended left.0 [] false (Err (Ours Endless)) left.1 (Consumes-nil t.rest) (λ over. cc) left.2 refl
      (many, Appends-nil t.holds);
}

-- before any event
pub no_digests : EventsOnlyGrow → (how : Comparison) (ours theirs : List ℕ) (s : Stand) (fault : RunFault) (result : Result Digested CompareFault) → IsErrAnd result (λ e. e ≡ Ours fault) → fault ≡ Memory → LooksOn how ours theirs s s result
no_digests grow how ours theirs s fault result is memory = subst (LooksOn how ours theirs s s) (sym (err_is result (Ours fault) is ∙ ap (λ f. Err (Ours f)) memory)) (record {
  on = λ unread other held done before text i.
      let d : Digested = record { ours = ours ∷ []; theirs = theirs ∷ [] } in
      let f = (further_begins how ours theirs s d refl).on unread other held done before text i in
      let left = left_over grow how.output unread s.left s.machine s.waiting (done ++ f.looked) f.looking.reading in
      looked_on how 0 unread other held ours theirs s s d done before text f (s.machine.bytes ++ s.waiting.bytes) s.machine.ended left.0 [] false (Err (Ours Memory)) left.1 (Consumes-nil s.rest) (λ over. cc) left.2 refl
      (tt, Appends-nil s.holds);
})

-- ---- what was sought

pub sought : (how : Comparison) (d : Differing) (s t u : Stand) (seen : Result Digested CompareFault) (result : Result (List Displaced) CompareFault)
    → t ≡ (record s { report = record s.report { pictures = saturated (s.report.pictures + 1) } }) → LooksOn how d.our_digest d.their_digest t u seen → IsDisplaced d.picture.number seen result → Seeks how d s u result
sought how d s t u seen result counted looks displaced = record {
  on = λ unread other held p done before text i. (seen, (subst (λ (q : Stand). LooksOn how d.our_digest d.their_digest q u seen) counted looks).on unread other held done before text i, displaced);
}

-- ---- one picture

-- a picture and the other's bytes beside it
pub looked_at : (how : Comparison) (number : ℕ) (p : Decoded) (old new held holds : Option (List ℕ)) (picture : ComparedPicture) (ours theirs bytes a b : List ℕ) (d e f : Digested) → picture ≡ compared_picture number p
    → ours ≡ i420 p → theirs ≡ bytes → Consumes old new bytes → length bytes ≡ length (i420 p) → other_size how.size p ≡ None
    → TellsLine how.has_psnr picture ours theirs held holds (Ok tt) → e ≡ with_ours a d → a ≡ md5 (i420 p) → f ≡ with_theirs b e → b ≡ md5 bytes → LooksAt how number p old new held holds d f (Ok true)
looked_at how number p old new held holds picture ours theirs bytes a b d e f compared whole read consumed long fits told first ours_are second theirs_are = (
  bytes,
  told.0,
  consumed,
  long,
  line_of how.has_psnr number p picture ours theirs bytes told.0 compared whole read told.1,
  told.2,
  fits,
  second ∙ ap (λ x. with_theirs x e) theirs_are ∙ ap (λ (q : Digested). with_theirs (md5 bytes) q) (first ∙ ap (λ x. with_ours x d) ours_are),
)

-- a line that could not be written
pub not_told : (how : Comparison) (number : ℕ) (p : Decoded) (old new held holds : Option (List ℕ)) (picture : ComparedPicture) (ours theirs bytes : List ℕ) (fault : RunFault)
    (result : Result Bool CompareFault) (d e : Digested) → IsErrAnd result (λ e. e ≡ Ours fault) → picture ≡ compared_picture number p → ours ≡ i420 p → theirs ≡ bytes → Consumes old new bytes
    → TellsLine how.has_psnr picture ours theirs held holds (Err fault) → LooksAt how number p old new held holds d e result
not_told how number p old new held holds picture ours theirs bytes fault result d e is compared whole read consumed told =
    subst (LooksAt how number p old new held holds d e) (sym (err_is result (Ours fault) is))
    (untold how number p old new held holds picture ours theirs bytes fault (Err (Ours fault)) refl compared whole read consumed told)

-- the other has not so many bytes left
pub lacks_left : (how : Comparison) (number : ℕ) (p : Decoded) (old new held : Option (List ℕ)) (theirs a : List ℕ) (d e : Digested) → ReadsBeside p old new theirs (Ok false)
    → other_size how.size p ≡ None → e ≡ with_ours a d → a ≡ md5 (i420 p) → LooksAt how number p old new held held d e (Ok false)
lacks_left how number p old new held theirs a d e read fits first ours_are = (
  read.0,
  read.1,
  subst (λ s. LacksLeft s new read.0 p) (sym fits) (read.2, read.3),
  Appends-nil held,
  first ∙ ap (λ x. with_ours x d) ours_are,
)

-- no more could be read
pub not_read_beside : (how : Comparison) (number : ℕ) (p : Decoded) (old new held : Option (List ℕ)) (theirs : List ℕ) (fault : CompareFault) (result : Result Bool CompareFault) (d e : Digested)
    → IsErrAnd result (λ f. f ≡ fault) → ReadsBeside p old new theirs (Err fault) → LooksAt how number p old new held held d e result
not_read_beside how number p old new held theirs fault result d e is read =
    subst (LooksAt how number p old new held held d e) (sym (err_is result fault is)) (read.0, read.1, unread fault how number (Picture p) read.0 held read.2)

-- ---- one event

pub picture_looked_at : (how : Comparison) (number : ℕ) (event : Event) (p : Decoded) (o o' h h' : Option (List ℕ)) (before now : Report) (d e : Digested) → event ≡ Picture p → number ≡ before.pictures
    → now ≡ report_with before (Picture p ∷ []) → LooksAt how number p o o' h h' d e (Ok true) → LooksAtEvent how event o o' h h' before now d e (Ok true)
picture_looked_at how number event p o o' h h' before now d e is counted more looks =
    subst (λ ev. LooksAtEvent how ev o o' h h' before now d e (Ok true)) (sym is) (subst (λ n. LooksAt how n p o o' h h' d e (Ok true)) counted looks, more)

-- a picture that is counted tells nothing
pub counted_told : (old new : Reported) (now : Option (List ℕ)) → new ≡ with_picture old → TellsOn old new now now
counted_told old new now is = subst (λ (q : Reported). TellsOn old q now now) (sym is) (record { line_is = refl; told = λ start told. told })
