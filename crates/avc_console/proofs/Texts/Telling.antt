-- Texts that are told, and faults that are passed on.
pub mod Common
unfoldable pub use Common.*

-- ---- texts that are told

-- one item more
pub told_more : {A : Type 0} (line : A → List ℕ) (items : List A) (x : A) → flat_map line (items ++ x ∷ []) ≡ flat_map line items ++ line x
told_more line items x = flat_map-append line items (x ∷ []) ∙ ap (λ l. flat_map line items ++ l) (append-nil (line x))

pub kept_front : (a b c : Option (List ℕ)) (bytes : List ℕ) → Keeps a b → Appends b c bytes → Appends a c bytes
kept_front a b c bytes kept more = grind arith

-- after nothing was told
pub told_after : (a b c : Option (List ℕ)) (text : List ℕ) (told : Bool) → Keeps a b → Tells b c text told → Tells a c text told
told_after a b c text true kept tells = kept_front a b c text kept tells
told_after a b c text false kept tells = record { count = tells.count; fewer = tells.fewer; written = kept_front a b c _ kept tells.written }

-- ---- a text that is written in parts

-- the first of the one
pub stopped_before : (a b : Option (List ℕ)) (xs ys : List ℕ) → WritesFirst a b xs → WritesFirst a b (xs ++ ys)
stopped_before a b xs ys some = record {
  count = some.count;
  fewer = omega (arith, length-append xs ys, some.fewer);
  written = subst (Appends a b) (sym (take-append-le some.count xs ys (omega (arith, some.fewer)))) some.written;
}

-- the one, and the first of the other
pub stopped_after : (a b c : Option (List ℕ)) (xs ys : List ℕ) → Appends a b xs → WritesFirst b c ys → WritesFirst a c (xs ++ ys)
stopped_after a b c xs ys all some = record {
  count = length xs + some.count;
  fewer = omega (arith, length-append xs ys, some.fewer);
  written = subst (Appends a c) (sym (take-append-add xs ys some.count)) (Appends-trans a b c xs (take some.count ys) all some.written);
}

-- ---- telling on

-- where all was taken so far
pub more_told : (was : Bool) (b c : Option (List ℕ)) (text : List ℕ) (told : Bool) → was ≡ true → Tells b c text told → TellsMore was b c text told
more_told was b c text told all more = subst (λ w. TellsMore w b c text told) (sym all) (by told more)
  where
    by : (told : Bool) → Tells b c text told → TellsMore true b c text told
    by true some = record { on = λ start so_far before. Appends-trans start b c so_far text before some }
    by false some = record { on = λ start so_far before. stopped_after start b c so_far text before some }

-- one text, and then another
pub told_both : (was mid is : Bool) (a b c : Option (List ℕ)) (xs ys : List ℕ) → TellsMore was a b xs mid → TellsMore mid b c ys is → TellsMore was a c (xs ++ ys) is
told_both was mid is a b c xs ys first second = record {
  on = λ start so_far before. subst (λ t. Tells start c t is) (append_assoc so_far xs ys) (second.on start (so_far ++ xs) (first.on start so_far before));
}

-- ---- telling refusals

-- its line, and what it means
pub explained_told : (explained was mid is : Bool) (r : ℕ × Fault) (a b c : Option (List ℕ)) (xs ys : List ℕ) → explained ≡ true → xs ≡ refusal_line r → ys ≡ explained_line r
    → TellsMore was a b xs mid → TellsMore mid b c ys is → TellsMore was a c (refusal_text explained r) is
unfolding refusal_text
explained_told explained was mid is r a b c xs ys wanted line meaning first second =
    subst (λ x. TellsMore was a c (refusal_text x r) is) (sym wanted)
    (subst (λ l. TellsMore was a c (l ++ explained_line r) is) line
    (subst (λ l. TellsMore was a c (xs ++ l) is) meaning (told_both was mid is a b c xs ys first second)))

-- its line alone
pub refusal_told : (explained was is : Bool) (r : ℕ × Fault) (a b : Option (List ℕ)) (xs : List ℕ) → explained ≡ false → xs ≡ refusal_line r
    → TellsMore was a b xs is → TellsMore was a b (refusal_text explained r) is
unfolding refusal_text
refusal_told explained was is r a b xs unwanted line tells =
    subst (λ x. TellsMore was a b (refusal_text x r) is) (sym unwanted) (subst (λ l. TellsMore was a b l is) (line ∙ sym (append-nil (refusal_line r))) tells)

-- a run that a fault ended
pub ended_by : (names : Names) (t : Tallied) (run : Result (Unit {0}) RunFault) (fault : RunFault) (told : Bool) (before now : Option (List ℕ)) (ending : Ending) → run ≡ Err fault → told ≡ t.told
    → ending.status ≡ fault_status fault → TellsMore told before now (fault_line names fault) ending.told
    → (start : Option (List ℕ)) → IsTold start before (reported_by t) → TellsRun names t.explained (report_in t) run start now ending
ended_by names t run fault told before now ending is same status tells start so_far =
    let refusals = refusal_texts t.explained t.refusals in
    let on = subst (λ w. TellsMore w before now (fault_line names fault) ending.told) same tells in
    record {
      status_is = status ∙ sym (ap (λ r. run_status (report_in t) r) is);
      told = subst (λ r. Tells start now (run_text names t.explained (report_in t) r) ending.told) (sym is) (on.on start refusals so_far);
    }

-- one refusal more of a tally
pub tally_told : (old new : Tallied) (r : ℕ × Fault) (before now : Option (List ℕ)) → new.explained ≡ old.explained → new.refusals ≡ old.refusals ++ r ∷ []
    → TellsMore old.told before now (refusal_text old.explained r) new.told → TellsOn (reported_by old) (reported_by new) before now
tally_told old new r before now same more tells =
    let line = refusal_text old.explained in
    let all : flat_map (refusal_text new.explained) new.refusals ≡ flat_map line old.refusals ++ line r =
    ap (λ x. flat_map (refusal_text x) new.refusals) same ∙ ap (λ rs. flat_map line rs) more ∙ told_more line old.refusals r in
    record {
      line_is = ap (λ x. refusal_text x) same;
      told = λ start so_far. subst (λ t. Tells start now t new.told) (sym all) (tells.on start (flat_map line old.refusals) so_far);
    }

-- ---- by results

-- where it holds at all
pub on_err : {A E : Type 0} (P : Type 0) (r : Result A E) → P → OnErr r P
on_err P r holds = grind arith

-- the one was written, and the other is the last part
pub stopped_last : {A : Type 0} (r : Result A RunFault) (a b c : Option (List ℕ)) (xs ys zs : List ℕ) → zs ≡ xs ++ ys → Appends a b xs → IfErr r (λ f. (f ≡ Write) × WritesFirst b c ys)
    → OnErr r (WritesFirst a c zs)
stopped_last (Ok done) a b c xs ys zs is all some = tt
stopped_last (Err f) a b c xs ys zs is all some = subst (WritesFirst a c) (sym is) (stopped_after a b c xs ys all some.1)

-- ---- where no piece has a number, and no memory is found to tell of it

-- of what is not there nothing is written, and so the first of anything
none_of_it : (piece : Option (List ℕ)) (held holds : Option (List ℕ)) (text : List ℕ) → is_some piece ≡ false → Appends held holds (bytes_of piece) → WritesSome held holds text
none_of_it None held holds text none written = record { count = 0; within = omega arith; written = written }
none_of_it (Some bytes) held holds text none written = absurd (cc)

pub untold_piece : (number : ℕ) (found : Bool) (unread left held holds : Option (List ℕ)) → Cuts number unread left held holds (Ok found) → found ≡ false
    → Cuts number unread left held holds (Err Memory)
untold_piece number found unread left held holds run none =
    (run.0, run.1, run.3, none_of_it run.2 held holds (piece_text number run.0 run.1) (sym run.6 ∙ none) run.5)

-- ---- faults that are passed on

-- an error that is this one
pub by_fault : {A : Type 0} (r : Result A RunFault) (f : RunFault) (Q : RunFault → Type 0) → IsErrAnd r (λ e. e ≡ f) → Q f → IfErr r Q
by_fault (Ok a) f Q is q = absurd is
by_fault (Err fault) f Q is q = subst Q (sym is) q

pub err_is : {A : Type 0} (r : Result A RunFault) (f : RunFault) → IsErrAnd r (λ e. e ≡ f) → r ≡ Err f
err_is r f is = grind arith
