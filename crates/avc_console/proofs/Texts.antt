-- Writing a text of a stream, piece after piece.
pub mod Telling
unfoldable pub use Telling.*

-- a text by the bytes that came, and whether they are all
abbrev pub Text : Type 0
Text = List ℕ → (ended : Bool) → List ℕ

-- ---- what comes to the text

pub open_piece : (s : StreamSoFar) (piece : List ℕ) → s.ended ≡ false → after_piece s piece ≡ record s { bytes = s.bytes ++ piece }
open_piece s piece open_end = ap (λ x. if x then s else record s { bytes = s.bytes ++ piece }) open_end

-- where no memory was found nothing was written
none_written : (text : Text) (before now : StreamSoFar) (held : Option (List ℕ)) (others : List ℕ) → text now.bytes now.ended ≡ text before.bytes before.ended ++ others
    → IsStopped Memory text before now held held
none_written text before now held others is = record {
  added = others;
  defined = is;
  stopped = record { count = 0; within = omega arith; written = Appends-nil held };
}

pub no_memory_in : (text : Text) → OnlyGrows text → (s : StreamSoFar) (piece : List ℕ) (held : Option (List ℕ)) → s.ended ≡ false → length (s.bytes ++ piece) < 2 ^ 64
    → IsStopped Memory text s (after_piece s piece) held held
no_memory_in text grows s piece held open_end short =
    let later = grows s.bytes piece false short in
    none_written text s (after_piece s piece) held later.0 (rw open_end later.1)

pub no_memory_at_end : (text : Text) → OnlyGrows text → (s : StreamSoFar) (held : Option (List ℕ)) → s.ended ≡ false → length s.bytes < 2 ^ 64
    → IsStopped Memory text s (after_end s) held held
no_memory_at_end text grows s held open_end short =
    let later = grows s.bytes [] true (rw append-nil short) in
    none_written text s (after_end s) held later.0 (rw open_end (ap (λ bs. text bs true) (sym (append-nil s.bytes)) ∙ later.1))

-- ---- faults

-- a read of none
pub nothing_more : (unread left left' : Option (List ℕ)) (bytes piece : List ℕ) (len : ℕ) → Consumes unread left bytes → len ≡ 0 → Consumes left left' (take len piece) → Consumes unread left' bytes
nothing_more unread left left' bytes piece len so_far none more =
    subst (Consumes unread left') (append-nil bytes) (Consumes-trans unread left left' bytes [] so_far (subst (λ n. Consumes left left' (take n piece)) none more))

-- no memory for the first piece
pub no_piece : (text : Text) (unread old : Option (List ℕ)) (f : RunFault) → f ≡ Memory → Lists text unread unread old old (Err f)
no_piece text unread old f is =
    rw is ([], false, record { consumed = Consumes-nil unread; whole = λ all. cc }, record { count = 0; within = omega arith; written = Appends-nil old })

writing_stopped : (text : Text) (fault : RunFault) (unread left w0 w' : Option (List ℕ)) (bytes : List ℕ) (all : Bool) → HasRead unread left bytes all
    → StopsWriting fault w0 w' (text bytes all) → Lists text unread left w0 w' (Err fault)
writing_stopped text Write unread left w0 w' bytes all read off = (bytes, all, read, off)
writing_stopped text Memory unread left w0 w' bytes all read off = (bytes, all, read, off)
writing_stopped text _ unread left w0 w' bytes all read off = absurd off

-- a fault in b, after all of a
pub stops_later : (fault : RunFault) (w0 w w' : Option (List ℕ)) (a b : List ℕ) → Appends w0 w a → StopsWriting fault w w' b → StopsWriting fault w0 w' (a ++ b)
stops_later Write w0 w w' a b all some = stopped_after w0 w w' a b all some
stops_later Memory w0 w w' a b all some = record {
  count = length a + some.count;
  within = omega (arith, length-append a b, some.within);
  written = subst (Appends w0 w') (sym (take-append-add a b some.count)) (Appends-trans w0 w w' a (take some.count b) all some.written);
}
stops_later _ w0 w w' a b all some = absurd some

-- behind what was written
stopped_behind : (text now_text : Text) (fault : RunFault) (n : ℕ) (s now : StreamSoFar) (unread left w0 w w' : Option (List ℕ)) → IsWriting text n s unread left w0 w → now_text ≡ text
    → IsStopped fault now_text s now w w' → StopsWriting fault w0 w' (text now.bytes now.ended)
stopped_behind text now_text fault n s now unread left w0 w w' i same off =
    let defined : text now.bytes now.ended ≡ text s.bytes false ++ off.added = rw (← same, ← i.open_end) off.defined in
    subst (StopsWriting fault w0 w') (sym defined) (stops_later fault w0 w w' (text s.bytes false) off.added i.written off.stopped)

-- a read that failed
left_still : (unread left left' : Option (List ℕ)) (bytes : List ℕ) → Consumes unread left bytes → Keeps left left' → Consumes unread left' bytes
left_still unread left left' bytes so_far kept = grind arith

pub stopped_at_read : (text : Text) (fault : RunFault) (n : ℕ) (s : StreamSoFar) (unread left left' w0 w : Option (List ℕ)) → IsWriting text n s unread left w0 w → fault ≡ Read → Keeps left left'
    → Lists text unread left' w0 w (Err fault)
stopped_at_read text fault n s unread left left' w0 w i is kept =
    rw is (s.bytes, record { consumed = left_still unread left left' s.bytes i.consumed kept; whole = λ all. cc }, i.written)

-- at a piece
pub writing_stopped_in : (text now_text : Text) (fault : RunFault) (n : ℕ) (s : StreamSoFar) (unread left left' w0 w w' : Option (List ℕ)) (piece : List ℕ) → IsWriting text n s unread left w0 w → now_text ≡ text
    → Consumes left left' piece → IsStopped fault now_text s (after_piece s piece) w w' → Lists text unread left' w0 w' (Err fault)
writing_stopped_in text now_text fault n s unread left left' w0 w w' piece i same more off =
    let next = open_piece s piece i.open_end in
    writing_stopped text fault unread left' w0 w' (s.bytes ++ piece) false
    (record { consumed = Consumes-trans unread left left' s.bytes piece i.consumed more; whole = λ all. cc })
    (subst (StopsWriting fault w0 w') (ap (λ (t : StreamSoFar). text t.bytes t.ended) next ∙ ap (λ x. text (s.bytes ++ piece) x) i.open_end)
    (stopped_behind text now_text fault n s (after_piece s piece) unread left w0 w w' i same off))

-- at the end
pub stopped_at_end : (text now_text : Text) (fault : RunFault) (n : ℕ) (s : StreamSoFar) (unread left left' w0 w w' : Option (List ℕ)) (len : ℕ) (piece : List ℕ) → IsWriting text n s unread left w0 w → now_text ≡ text
    → len ≡ 0 → Consumes left left' (take len piece) → IsAtEnd left' → IsStopped fault now_text s (after_end s) w w' → Lists text unread left' w0 w' (Err fault)
stopped_at_end text now_text fault n s unread left left' w0 w w' len piece i same none more at_end off =
    writing_stopped text fault unread left' w0 w' s.bytes true
    (record { consumed = nothing_more unread left left' s.bytes piece len i.consumed none more; whole = λ is. at_end })
    (stopped_behind text now_text fault n s (after_end s) unread left w0 w w' i same off)

-- what a read gave, of the buffer that it was put into
pub same_front : (len full : ℕ) (new rest now : List ℕ) → now ≡ take full (new ++ rest) → len ≤ length new → len ≤ full → take len now ≡ take len new
same_front len full new rest now is within room =
    ap (λ l. take len l) is ∙ take-take len full (new ++ rest) room ∙ take-append-le len new rest within

-- ---- where a run ends well

-- nothing more is written
pub whole_by_over : (text : Text) (over now_over : List ℕ → (ended : Bool) → Bool) (n : ℕ) (s : StreamSoFar) (unread left w0 w : Option (List ℕ)) (is_over : Bool) → IsWriting text n s unread left w0 w → n < 2 ^ 32
    → now_over ≡ over → (s.failed ≡ false → length s.bytes < 2 ^ 64 → is_over ≡ now_over s.bytes s.ended) → is_over ≡ true → IsWhole text over s unread left w0 w
whole_by_over text over now_over n s unread left w0 w is_over i low same tells it_is =
    let short : length s.bytes < 2 ^ 64 = omega (arith, i.short, low) in
    record {
      has_read = record { consumed = i.consumed; whole = λ all. cc (all, i.open_end) };
      is_over = λ open_end. ap (λ e. over s.bytes e) (sym open_end) ∙ ap (λ (f : List ℕ → Bool → Bool). f s.bytes s.ended) (sym same) ∙ sym (tells i.going short) ∙ it_is;
      going = i.going;
      short = short;
      written = subst (λ e. Appends w0 w (text s.bytes e)) (sym i.open_end) i.written;
    }

-- at the end
pub whole_at_end : (text now_text : Text) (over : List ℕ → (ended : Bool) → Bool) (n : ℕ) (s now : StreamSoFar) (unread left left' w0 w w' : Option (List ℕ)) (len : ℕ) (piece : List ℕ)
    → IsWriting text n s unread left w0 w → n < 2 ^ 32 → now_text ≡ text → len ≡ 0 → Consumes left left' (take len piece) → IsAtEnd left' → now ≡ after_end s
    → IsWrittenOn now_text s (after_end s) w w' → IsWhole text over now unread left' w0 w'
whole_at_end text now_text over n s now unread left left' w0 w w' len piece i low same none more at_end is on =
    let defined : text s.bytes true ≡ text s.bytes false ++ on.added = rw (← same, ← i.open_end) on.defined in
    subst (λ t. IsWhole text over t unread left' w0 w') (sym is) (record {
      has_read = record { consumed = nothing_more unread left left' s.bytes piece len i.consumed none more; whole = λ all. at_end };
      is_over = λ open_end. cc open_end;
      going = i.going;
      short = omega (arith, i.short, low);
      written = subst (Appends w0 w') (sym defined) (Appends-trans w0 w w' (text s.bytes false) on.added i.written on.written);
    })

-- all bytes were read
whole : (all : Bool) → (all ≡ false → false ≡ true) → all ≡ true
whole all other = grind arith

listed : (text : Text) (s : StreamSoFar) (unread left held holds : Option (List ℕ)) → IsWhole text (λ bytes ended. false) s unread left held holds → Lists text unread left held holds (Ok tt)
listed text s unread left held holds all =
    let ended = whole s.ended all.is_over in
    (s.bytes, subst (HasRead unread left s.bytes) ended all.has_read, subst (λ e. Appends held holds (text s.bytes e)) ended all.written)

-- and so of what the writing of a text answers that is over at the end alone
pub lists : (text : Text) (s : StreamSoFar) (unread left held holds : Option (List ℕ)) (r : Result (Unit {0}) RunFault) → OnOk r (IsWhole text (λ bytes ended. false) s unread left held holds)
    → IfErr r (λ fault. Lists text unread left held holds (Err fault)) → Lists text unread left held holds r
lists text s unread left held holds (Ok done) ok err = listed text s unread left held holds ok
lists text s unread left held holds (Err fault) ok err = err

-- ---- a piece of a stream that comes is the stream's piece

-- where there is a later one, there are those before
some_before : {A : Type 0} (xs : List A) (n : ℕ) → is_some (slice_get xs (n + 1)) ≡ true → is_some (slice_get xs n) ≡ true
some_before {A = A} xs n later = by (slice_get xs (n + 1)) refl later
  where
    by : (o : Option A) → slice_get xs (n + 1) ≡ o → is_some o ≡ true → is_some (slice_get xs n) ≡ true
    by None e some = cc some
    by (Some x) e some =
        let low = slice_get_within xs (n + 1) x e in
        ap (λ (o : Option A). is_some o) (slice_get-get_or xs n x (omega (arith, low)))

again : (piece : Option (List ℕ)) → is_some piece ≡ true → Some (bytes_of piece) ≡ piece
again piece e = grind arith

-- all bytes, or so many that the next piece has begun
is_piece : (number : ℕ) (bytes : List ℕ) (all : Bool) → PiecesAreWhole → PiecesStay → (all ≡ false → is_over number bytes false ≡ true)
    → IsPieceOf number bytes all (numbered_piece number bytes all)
is_piece number bytes true whole stay over = λ more none.
    ap (λ bs. slice_get (pieces (bytes ++ bs)) number) (none refl) ∙ ap (λ bs. slice_get (pieces bs) number) (append-nil bytes)
    ∙ ap (λ ps. slice_get ps number) (sym (whole bytes))
is_piece number bytes false whole stay over = λ more none.
    stay number bytes more (over refl) ∙ again (numbered_piece number bytes false) (some_before (pieces_so_far bytes false) number (over refl))

-- by a piece that was new, and what it is now
pub cuts : (number : ℕ) (new now : PieceSoFar) (unread left held holds : Option (List ℕ)) (found : Bool) → PiecesAreWhole → PiecesStay → new ≡ record { number = number; stream = new_stream } → now.number ≡ new.number
    → IsWhole (piece_text new.number) (is_over new.number) now.stream unread left held holds
    → (now.stream.failed ≡ false → length now.stream.bytes < 2 ^ 64 → found ≡ is_some (numbered_piece now.number now.stream.bytes now.stream.ended))
    → Cuts number unread left held holds (Ok found)
cuts number new now unread left held holds found whole stay is kept read tells =
    let s = now.stream in
    let first : new.number ≡ number = ap (λ (p : PieceSoFar). p.number) is in
    let i = subst (λ n. IsWhole (piece_text n) (is_over n) s unread left held holds) first read in (
      s.bytes,
      s.ended,
      numbered_piece number s.bytes s.ended,
      i.has_read,
      is_piece number s.bytes s.ended whole stay i.is_over,
      i.written,
      tells i.going i.short ∙ ap (λ n. is_some (numbered_piece n s.bytes s.ended)) (kept ∙ first),
    )

pub cuts_off : (number : ℕ) (new : PieceSoFar) (unread left held holds : Option (List ℕ)) (fault : RunFault) → new ≡ record { number = number; stream = new_stream }
    → Lists (piece_text new.number) unread left held holds (Err fault) → Cuts number unread left held holds (Err fault)
cuts_off number new unread left held holds fault is run =
    subst (λ n. Lists (piece_text n) unread left held holds (Err fault)) (ap (λ (p : PieceSoFar). p.number) is) run

-- no memory for the piece's start
pub no_piece_begun : (number : ℕ) (unread held : Option (List ℕ)) (r : Result Bool RunFault) → IsErrAnd r (λ fault. fault ≡ Memory) → Cuts number unread unread held held r
no_piece_begun number unread held (Ok found) is = absurd is
no_piece_begun number unread held (Err fault) is = no_piece (piece_text number) unread held fault is
