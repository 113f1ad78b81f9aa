-- What is given of a stream from a cut point on, read by read.
use Rattle.std.proofs.Common.{◌≡◌, ℕ, ◌+◌, ◌-◌, ◌≤◌, min, Bool, true, false, List, [], ◌++◌, length, take, drop, Option, refl, ap, sym, ◌∙◌, append_assoc, append-nil, arith, length-append, subst}
use Rattle.std.proofs.KnownBytes.{Consumes-nil, Consumes-trans}
use Rattle.std.proofs.lemmas.List.{take-append-drop, take-append-le, take-take, drop-drop, drop_all, length-take}
use Rattle.std.specs.Prelude.{if◌then◌else◌}
use Rattle.avc_tools.specs.PieceSoFar.{PieceSoFar}
use Rattle.avc_tools.specs.Streams.{Adds, StreamSoFar, after_piece}
use Rattle.avc_tools.specs.Tail.{tail_text}
use Rattle.avc_shell.specs.FromPieces.{GivesOn, ReadsOn}

-- nothing
pub gives_nothing : (p : PieceSoFar) (waited : List ℕ) → GivesOn p p waited waited []
gives_nothing p waited = record {
  number = refl;
  no_fewer = omega arith;
  on = λ front few is. is ∙ ap (λ l. l ++ waited) (sym (append-nil front));
}

-- one after another
pub gives_then : (a b c : PieceSoFar) (w x y g h : List ℕ) → GivesOn a b w x g → GivesOn b c x y h → GivesOn a c w y (g ++ h)
gives_then a b c w x y g h first second = record {
  number = second.number ∙ first.number;
  no_fewer = omega (arith, first.no_fewer, second.no_fewer);
  on = λ front few is. second.on (front ++ g) few (first.on front (omega (arith, second.no_fewer, few)) is) ∙ ap (λ l. l ++ y) (append_assoc front g h);
}

-- the first of what waits
pub gives_first : (p : PieceSoFar) (ready : List ℕ) (given len : ℕ) → GivesOn p p (drop given ready) (drop (given + len) ready) (take len (drop given ready))
gives_first p ready given len = record {
  number = refl;
  no_fewer = omega arith;
  on = λ front few is.
      is ∙ ap (λ l. front ++ l) (sym (take-append-drop len (drop given ready)))
      ∙ sym (append_assoc front (take len (drop given ready)) (drop len (drop given ready)))
      ∙ ap (λ l. (front ++ take len (drop given ready)) ++ l) (drop-drop len given ready);
}

-- nothing yet of what has come
pub gives_later : (old new : PieceSoFar) (added : List ℕ) → new.number ≡ old.number → length (old.stream).bytes ≤ length (new.stream).bytes →
    Adds (tail_text old.number) old.stream new.stream added → GivesOn old new [] (drop 0 added) []
gives_later old new added same no_fewer adds = record {
  number = same;
  no_fewer = no_fewer;
  on = λ front few is. ap (λ n. tail_text n (new.stream).bytes (new.stream).ended) same ∙ adds few ∙ ap (λ l. l ++ added) is;
}

-- no piece takes bytes away
pub no_fewer_after : (s t : StreamSoFar) (piece : List ℕ) → t ≡ after_piece s piece → length s.bytes ≤ length t.bytes
no_fewer_after s t piece is = subst (λ (x : StreamSoFar). length s.bytes ≤ length x.bytes) (sym is) (by s.ended)
  where
    by : (ended : Bool) → length s.bytes ≤ length (if ended then s else record s { bytes = s.bytes ++ piece }).bytes
    by true = omega arith
    by false = omega (arith, length-append s.bytes piece)

-- what is copied of bytes that wait is the first of them
copied_is : (ready bytes buf now : List ℕ) (given len : ℕ) → bytes ≡ ready → len ≡ min (length (take (length bytes - given) (drop given bytes))) (length buf)
    → now ≡ take len (take (length bytes - given) (drop given bytes)) ++ drop len buf → take len now ≡ take len (drop given ready)
copied_is ready bytes buf now given len same count is =
    let some = take (length bytes - given) (drop given bytes) in
    let few : len ≤ length some = omega (arith, count) in
    let short : len ≤ length bytes - given = omega (arith, few, length-take (length bytes - given) (drop given bytes)) in
    ap (take len) is
    ∙ take-append-le len (take len some) (drop len buf) (omega (arith, few, length-take len some))
    ∙ take-take len len some (omega arith)
    ∙ take-take len (length bytes - given) (drop given bytes) short
    ∙ ap (λ l. take len (drop given l)) same

pub gives_copied : (a b : PieceSoFar) (waited ready bytes buf now : List ℕ) (given len : ℕ) → GivesOn a b waited (drop given ready) [] → bytes ≡ ready
    → len ≡ min (length (take (length bytes - given) (drop given bytes))) (length buf) → now ≡ take len (take (length bytes - given) (drop given bytes)) ++ drop len buf
    → GivesOn a b waited (drop (given + len) ready) (take len now)
gives_copied a b waited ready bytes buf now given len so_far same count is =
    subst (λ (l : List ℕ). GivesOn a b waited (drop (given + len) ready) l) (sym (copied_is ready bytes buf now given len same count is))
    (gives_then a b b waited (drop given ready) (drop (given + len) ready) [] (take len (drop given ready)) so_far (gives_first b ready given len))

-- once all was given, what comes is read
pub gives_after : (a b c : PieceSoFar) (waited ready waits : List ℕ) (given : ℕ) → GivesOn a b waited (drop given ready) [] → length ready ≤ given → GivesOn b c [] waits [] → GivesOn a c waited waits []
gives_after a b c waited ready waits given so_far all next =
    gives_then a b c waited [] waits [] [] (subst (λ (l : List ℕ). GivesOn a b waited l []) (drop_all given ready all) so_far) next

-- ---- what is read

-- nothing
pub reads_nothing : (unread : Option (List ℕ)) (s : StreamSoFar) → ReadsOn unread unread s s
reads_nothing unread s = record {
  more = [];
  consumed = Consumes-nil unread;
  bytes = sym (append-nil s.bytes);
  ends = λ open_end ended. cc (open_end, ended);
}

-- one read after another, where the first was not the last
pub reads_then : (u v w : Option (List ℕ)) (a b c : StreamSoFar) → ReadsOn u v a b → b.ended ≡ false → ReadsOn v w b c → ReadsOn u w a c
reads_then u v w a b c first open_end second = record {
  more = first.more ++ second.more;
  consumed = Consumes-trans u v w first.more second.more first.consumed second.consumed;
  bytes = second.bytes ∙ ap (λ l. l ++ second.more) first.bytes ∙ append_assoc a.bytes first.more second.more;
  ends = λ was_open ended. second.ends open_end ended;
}
