-- Writing a text of a stream by parts of what was read, of which the last bytes wait.
use Rattle.std.proofs.lemmas.List.{take-append-drop}
use Rattle.std.proofs.Math.Seq.{take-add, take-length}
use Rattle.std.specs.Prelude.{◌-◌, drop, slice_range}
use Rattle.avc_console.specs.StreamWriting.{AreWrittenBut, IsStoppedBehind, IsTakenIn}
use Rattle.avc_console.proofs.Texts.{◌≡◌, ℕ, ◌+◌, ◌<◌, ◌≤◌, ◌^◌, List, [], ◌++◌, length, take, Option, false}
use Rattle.avc_console.proofs.Texts.{ap, sym, ◌∙◌, append_assoc, append-nil, arith, subst, length-append, take-append-le}
use Rattle.avc_console.proofs.Texts.{Appends, Appends-nil, Appends-trans, Text, StreamSoFar, OnlyGrows, after_piece, open_piece}
use Rattle.avc_console.proofs.Texts.{RunFault, Memory, Write, WritesFirst, StopsWriting, IsStopped}
use Rattle.avc_console.proofs.Texts.{no_memory_in, stopped_after, stopped_before, stops_later}

-- ---- bytes that wait

-- all were written
pub all_written : (waited added waits : List ℕ) (h0 h1 h2 : Option (List ℕ)) → Appends h0 h1 waited → Appends h1 h2 added → waits ≡ [] → AreWrittenBut (waited ++ added) waits h0 h2
all_written waited added waits h0 h1 h2 first second none = record {
  written = waited ++ added;
  whole = sym (append-nil (waited ++ added)) ∙ ap (λ l. (waited ++ added) ++ l) (sym none);
  appended = Appends-trans h0 h1 h2 waited added first second;
}

-- ---- faults

-- want of memory, before anything was written
pub no_room : (held : Option (List ℕ)) (bytes : List ℕ) → StopsWriting Memory held held bytes
no_room held bytes = record { count = 0; within = omega arith; written = Appends-nil held }

-- of what goes further
pub stops_before : (fault : RunFault) (held holds : Option (List ℕ)) (xs ys : List ℕ) → StopsWriting fault held holds xs → StopsWriting fault held holds (xs ++ ys)
stops_before Write held holds xs ys some = stopped_before held holds xs ys some
stops_before Memory held holds xs ys some = record {
  count = some.count;
  within = omega (arith, length-append xs ys, some.within);
  written = subst (Appends held holds) (sym (take-append-le some.count xs ys some.within)) some.written;
}
stops_before _ held holds xs ys some = absurd some

-- a write that failed, behind one that did not
pub failed_behind : (fault : RunFault) (h0 h1 h2 : Option (List ℕ)) (xs ys : List ℕ) → Appends h0 h1 xs → (fault ≡ Write) × WritesFirst h1 h2 ys → StopsWriting fault h0 h2 (xs ++ ys)
failed_behind fault h0 h1 h2 xs ys first is = subst (λ f. StopsWriting f h0 h2 (xs ++ ys)) (sym is.0) (stopped_after h0 h1 h2 xs ys first is.1)

-- ---- part by part

-- no memory for what comes to the text
pub no_memory_at_part : (text : Text) → OnlyGrows text → (s : StreamSoFar) (part waited : List ℕ) (held : Option (List ℕ)) → s.ended ≡ false → length (s.bytes ++ part) < 2 ^ 64
    → IsStoppedBehind Memory text s (after_piece s part) waited held held
no_memory_at_part text grows s part waited held open_end short =
    let later = no_memory_in text grows s part held open_end short in
    record { added = later.added; defined = later.defined; stopped = no_room held (waited ++ later.added) }

-- a part more
pub taken_on : (text : Text) (a b c : StreamSoFar) (x y z : List ℕ) (h0 h1 h2 : Option (List ℕ)) → IsTakenIn text a b x y h0 h1 → IsTakenIn text b c y z h1 h2 → IsTakenIn text a c x z h0 h2
taken_on text a b c x y z h0 h1 h2 first second =
    let f = first.rest in
    let s = second.rest in
    let p = first.added in
    let q = second.added in record {
      added = p ++ q;
      defined = second.defined ∙ ap (λ l. l ++ q) first.defined ∙ append_assoc (text a.bytes a.ended) p q;
      rest = record {
        written = f.written ++ s.written;
        whole = sym (append_assoc x p q) ∙ ap (λ l. l ++ q) f.whole ∙ append_assoc f.written y q ∙ ap (λ l. f.written ++ l) s.whole ∙ sym (append_assoc f.written s.written z);
        appended = Appends-trans h0 h1 h2 f.written s.written f.appended s.appended;
      };
    }

-- a part more, of which it is said where the texts are
pub taken_part : (text now_text : Text) (s now next : StreamSoFar) (part y z : List ℕ) (h0 h1 h2 : Option (List ℕ)) → IsTakenIn text s now [] y h0 h1 → now_text ≡ text → next ≡ after_piece now part
    → IsTakenIn now_text now (after_piece now part) y z h1 h2 → IsTakenIn text s next [] z h0 h2
taken_part text now_text s now next part y z h0 h1 h2 taken same is more =
    taken_on text s now next [] y z h0 h1 h2 taken
    (subst (λ x. IsTakenIn text now x y z h1 h2) (sym is) (subst (λ t. IsTakenIn t now (after_piece now part) y z h1 h2) same more))

-- a fault at a part, or behind it, and more of the stream
pub stopped_on : (fault : RunFault) (text : Text) (a b c d : StreamSoFar) (y others : List ℕ) (h0 h1 h2 : Option (List ℕ)) → IsTakenIn text a b [] y h0 h1 → IsStoppedBehind fault text b c y h1 h2
    → text d.bytes d.ended ≡ text c.bytes c.ended ++ others → IsStopped fault text a d h0 h2
stopped_on fault text a b c d y others h0 h1 h2 first second more =
    let f = first.rest in
    let p = first.added in
    let q = second.added in
    let all : f.written ++ (y ++ q) ≡ p ++ q = sym (append_assoc f.written y q) ∙ ap (λ l. l ++ q) (sym f.whole) in
    let before : text c.bytes c.ended ≡ text a.bytes a.ended ++ (p ++ q) = second.defined ∙ ap (λ l. l ++ q) first.defined ∙ append_assoc (text a.bytes a.ended) p q in
    record {
      added = (p ++ q) ++ others;
      defined = more ∙ ap (λ l. l ++ others) before ∙ append_assoc (text a.bytes a.ended) (p ++ q) others;
      stopped = stops_before fault h0 h2 (p ++ q) others (subst (StopsWriting fault h0 h2) all (stops_later fault h0 h1 h2 f.written (y ++ q) f.appended second.stopped));
    }

-- ---- the parts of what was read

split_at : (piece : List ℕ) (a b : ℕ) → a ≤ b → take a piece ++ slice_range piece a b ≡ take b piece
split_at piece a b within =
    let same : a + (b - a) ≡ b = omega arith in
    sym (take-add a (b - a) piece) ∙ ap (λ n. take n piece) same

pub after_part : (s now : StreamSoFar) (piece : List ℕ) (a b : ℕ) → s.ended ≡ false → a ≤ b → now ≡ after_piece s (take a piece) → after_piece now (slice_range piece a b) ≡ after_piece s (take b piece)
after_part s now piece a b open_end within is =
    let mid = record s { bytes = s.bytes ++ take a piece } in
    let part = slice_range piece a b in
    ap (λ (n : StreamSoFar). after_piece n part) (is ∙ open_piece s (take a piece) open_end) ∙ open_piece mid part open_end
    ∙ ap (λ bs. record s { bytes = bs }) (append_assoc s.bytes (take a piece) part ∙ ap (λ l. s.bytes ++ l) (split_at piece a b within)) ∙ sym (open_piece s (take b piece) open_end)

-- a fault at a part
pub stopped_in_part : (fault : RunFault) (text now_text : Text) → OnlyGrows text → (s now : StreamSoFar) (piece : List ℕ) (a b : ℕ) (y : List ℕ) (h0 h1 h2 : Option (List ℕ)) → s.ended ≡ false
    → length (s.bytes ++ piece) < 2 ^ 64 → a ≤ b → now ≡ after_piece s (take a piece) → now_text ≡ text → IsTakenIn text s now [] y h0 h1
    → IsStoppedBehind fault now_text now (after_piece now (slice_range piece a b)) y h1 h2 → IsStopped fault text s (after_piece s piece) h0 h2
stopped_in_part fault text now_text grows s now piece a b y h0 h1 h2 open_end short within is same taken stopped =
    let t : StreamSoFar → List ℕ = λ (x : StreamSoFar). text x.bytes x.ended in
    let c = after_piece now (slice_range piece a b) in
    let before : c ≡ record s { bytes = s.bytes ++ take b piece } = after_part s now piece a b open_end within is ∙ open_piece s (take b piece) open_end in
    let whole : (s.bytes ++ take b piece) ++ drop b piece ≡ s.bytes ++ piece = append_assoc s.bytes (take b piece) (drop b piece) ∙ ap (λ l. s.bytes ++ l) (take-append-drop b piece) in
    let later = grows (s.bytes ++ take b piece) (drop b piece) false (subst (λ bs. length bs < 2 ^ 64) (sym whole) short) in
    let at_c : t c ≡ text (s.bytes ++ take b piece) false = ap t before ∙ ap (λ e. text (s.bytes ++ take b piece) e) open_end in
    let at_d : t (after_piece s piece) ≡ text (s.bytes ++ piece) false = ap t (open_piece s piece open_end) ∙ ap (λ e. text (s.bytes ++ piece) e) open_end in
    stopped_on fault text s now c (after_piece s piece) y later.0 h0 h1 h2 taken (subst (λ x. IsStoppedBehind fault x now c y h1 h2) same stopped)
    (at_d ∙ ap (λ bs. text bs false) (sym whole) ∙ later.1 ∙ ap (λ l. l ++ later.0) (sym at_c))

-- a fault where all was taken in, and what waits is written
pub stopped_at_last : (fault : RunFault) (text : Text) (s now : StreamSoFar) (piece : List ℕ) (begin : ℕ) (y last : List ℕ) (h0 h1 h2 : Option (List ℕ)) → now ≡ after_piece s (take begin piece) → begin ≡ length piece
    → IsTakenIn text s now [] y h0 h1 → last ≡ y → (fault ≡ Write) × WritesFirst h1 h2 last → IsStopped fault text s (after_piece s piece) h0 h2
stopped_at_last fault text s now piece begin y last h0 h1 h2 is all taken same some =
    let whole : now ≡ after_piece s piece = is ∙ ap (λ n. after_piece s (take n piece)) all ∙ ap (after_piece s) (take-length piece) in
    subst (λ x. IsStopped fault text s x h0 h2) whole (record {
      added = taken.added;
      defined = taken.defined;
      stopped = subst (StopsWriting fault h0 h2) (sym taken.rest.whole)
          (failed_behind fault h0 h1 h2 taken.rest.written y taken.rest.appended (some.0, subst (WritesFirst h1 h2) same some.1));
    })
