-- What C is told by a list of calls is what the machine replies.
use Rattle.avc_c.proofs.Common.{◌≡◌, ℕ, sym, ◌∙◌, List, [], ◌∷◌, ◌++◌, Option, Some, refl, ap, subst, max_unit, OpenDecoder}
use Rattle.std.proofs.Common.{inl, inr}
use Rattle.std.specs.Prelude.{◌⊎◌, Bool, true, false, take, None, Result, Ok, Err}
use Rattle.avc_decoder.specs.Machine.{after_feed, after_flush, IsFeedAnswer, IsFeedUnitAnswer, IsTakeAnswer, Machine, Run}
use Rattle.avc_decoder.specs.declared.error.DecodeError.{DecodeError}
use Rattle.avc_decoder.specs.declared.error.DecodeError.TheVariants.{OutOfMemory, Ended}
use Rattle.avc_decoder.specs.declared.calls.Call.{Call}
use Rattle.avc_decoder.specs.declared.calls.Call.TheVariants.{Feed, Take, Flush, Reset}
use Rattle.avc_decoder.specs.declared.calls.Reply.{Reply}
use Rattle.avc_decoder.specs.declared.calls.Reply.TheVariants as replies
use Rattle.avc_decoder.specs.SeenEvents.{Event}
use Rattle.avc_c_picture.specs.Answers.{call_status, picture_of, unit_status, used_by}
use Rattle.avc_c.specs.Awaited.{awaited_behind}
use Rattle.avc_c.specs.Exports.{after_mark, mark_behind, marked, new_decoder}
use Rattle.avc_c_picture.specs.Statuses.{number_of}
use Rattle.avc_c.specs.CallsOfC.{CallOfC, feeds, feeds_unit, given_by, takes, takes_dropped, flushes, resets, makes_mark, opens, looks, Told, AreAnswered, Between, after_bytes, Tells}
use Rattle.avc_c_picture.specs.declared.status.Status.TheVariants as statuses

-- a feed of one unit is a feed of the bytes that it gave
unit_is_feed : (old : Machine) (piece : List ℕ) (answer : Result ℕ DecodeError) (m : Machine) (status used : ℕ)
    → IsFeedUnitAnswer max_unit old piece answer m → status ≡ number_of (unit_status answer) → used ≡ used_by answer
    → (fed : Result (Unit {0}) DecodeError) × IsFeedAnswer old (after_feed (given_by fed used piece) old) fed m × (status ≡ number_of (call_status fed))
unit_is_feed old piece (Ok n) m status used h s u = (Ok tt, subst (λ (k : ℕ). IsFeedAnswer old (after_feed (take k piece) old) (Ok tt) m) (sym u) h.1, s)
unit_is_feed old piece (Err OutOfMemory) m status used h s u = (Err OutOfMemory, h, s)
unit_is_feed old piece (Err Ended) m status used h s u = (Err Ended, h, s)

-- The bytes are the machine's, as long as memory was not refused.
abbrev AreItsBytes : List ℕ → Machine → Type 0
AreItsBytes bytes m = m.failed ≡ false → bytes ≡ m.bytes

abbrev between : OpenDecoder → List ℕ → Between
between d bytes = record { picture = d.picture; marks = d.marks; awaited = d.awaited; bytes = bytes }

after_refusal : (old after m : Machine) (failed : Bool) → old.failed ≡ failed → m ≡ elim failed [ true ↦ old | false ↦ record after { failed = true } ] → m.failed ≡ true
after_refusal old after m true is e = ap (λ (x : Machine). x.failed) e ∙ is
after_refusal old after m false is e = ap (λ (x : Machine). x.failed) e

refused_bytes : (bytes : List ℕ) (m : Machine) → m.failed ≡ true → AreItsBytes bytes m
refused_bytes bytes m failed going = (cc)

fed_bytes : (d : OpenDecoder) (bytes piece : List ℕ) (answer : Result (Unit {0}) DecodeError) (m : Machine) → AreItsBytes bytes d.decoder
    → IsFeedAnswer d.decoder (after_feed piece d.decoder) answer m → AreItsBytes (after_bytes answer piece (between d bytes)).bytes m
fed_bytes d bytes piece (Ok done) m its h going = ap (λ (t : List ℕ). t ++ piece) (its h.0) ∙ sym (ap (λ (x : Machine). x.bytes) h.2)
fed_bytes d bytes piece (Err OutOfMemory) m its h going =
    refused_bytes bytes m (after_refusal d.decoder (after_feed piece d.decoder) m (d.decoder).failed refl h.refused) going
fed_bytes d bytes piece (Err Ended) m its h going = its h.0 ∙ sym (ap (λ (x : Machine). x.bytes) h.2)

flushed_bytes : (old : Machine) (bytes : List ℕ) (answer : Result (Unit {0}) DecodeError) (m : Machine) → AreItsBytes bytes old
    → IsFeedAnswer old (after_flush old) answer m → AreItsBytes bytes m
flushed_bytes old bytes (Ok done) m its h going = its h.0 ∙ sym (ap (λ (x : Machine). x.bytes) h.2)
flushed_bytes old bytes (Err OutOfMemory) m its h going = refused_bytes bytes m (after_refusal old (after_flush old) m old.failed refl h.refused) going
flushed_bytes old bytes (Err Ended) m its h going = its h.0 ∙ sym (ap (λ (x : Machine). x.bytes) h.2)

taken_bytes : (old : Machine) (bytes : List ℕ) (answer : Result (Option Event) DecodeError) (m : Machine) → AreItsBytes bytes old
    → IsTakeAnswer max_unit old answer m → AreItsBytes bytes m
taken_bytes old bytes (Ok (Some event)) m its h going = its h.0 ∙ sym (ap (λ (x : Machine). x.bytes) h.2)
taken_bytes old bytes (Ok None) m its h going = its h.0 ∙ sym (ap (λ (x : Machine). x.bytes) h.2)
taken_bytes old bytes (Err OutOfMemory) m its h going = (cc)
taken_bytes old bytes (Err Ended) m its h going = absurd h

-- a mark is made, or memory was refused
abbrev Marks : (value : ℕ) → OpenDecoder → List ℕ → Told → OpenDecoder → Type 0
Marks value d bytes told next =
    ((told.status ≡ number_of statuses.Ok) × (next ≡ marked (mark_behind bytes value) d))
    ⊎ ((told.status ≡ number_of statuses.OutOfMemory) × (next ≡ d))

marks_by : (value : ℕ) (d : OpenDecoder) (bytes : List ℕ) (told : Told) (failed : Bool) → (d.decoder).failed ≡ failed → AreItsBytes bytes d.decoder
    → told.status ≡ number_of (elim failed [ true ↦ statuses.OutOfMemory | false ↦ statuses.Ok ])
    → Marks value d bytes told (elim failed [ true ↦ d | false ↦ marked (mark_behind (d.decoder).bytes value) d ])
marks_by value d bytes told true is its status = inr (status, refl)
marks_by value d bytes told false is its status =
    inl (status, ap (λ (b : List ℕ). marked (mark_behind b value) d) (sym (its is)))

-- the decoder stays
marked_bytes : (value : ℕ) (d : OpenDecoder) (bytes : List ℕ) (failed : Bool) → (d.decoder).failed ≡ failed → AreItsBytes bytes d.decoder
    → AreItsBytes bytes (elim failed as (λ _. OpenDecoder) [ true ↦ d | false ↦ marked (mark_behind (d.decoder).bytes value) d ]).decoder
marked_bytes value d bytes true is its = its
marked_bytes value d bytes false is its = its

-- what a feed leaves
fed_tells : (answer : Result (Unit {0}) DecodeError) (piece : List ℕ) (d : OpenDecoder) (bytes : List ℕ) (m : Machine) (calls : List CallOfC) (ts : List Told)
    (made : List Call) (answers : List Reply) (last : OpenDecoder)
    → Tells (between (record d { decoder = m }) (after_bytes answer piece (between d bytes)).bytes) calls ts made answers last
    → Tells (after_bytes answer piece (between d bytes)) calls ts made answers last
fed_tells (Ok done) piece d bytes m calls ts made answers last tells = tells
fed_tells (Err error) piece d bytes m calls ts made answers last tells = tells

-- a run of the machine from this decoder that tells C the same
abbrev pub IsARun : OpenDecoder → List ℕ → List CallOfC → List Told → OpenDecoder → Type 0
IsARun d bytes calls told last = (made : List Call) × (answers : List Reply) × Run max_unit d.decoder made answers last.decoder × Tells (between d bytes) calls told made answers last

same_decoder : (a b : OpenDecoder) → Some a ≡ Some b → a ≡ b
same_decoder a b e = cc

goes_on : (then : Option OpenDecoder) (d last : OpenDecoder) (calls : List CallOfC) (told : List Told) → then ≡ Some d → AreAnswered then calls told (Some last) → AreAnswered (Some d) calls told (Some last)
goes_on then d last calls told is rest = subst (λ b. AreAnswered b calls told (Some last)) is rest

marked_run : (value : ℕ) (d next : OpenDecoder) (bytes : List ℕ) (calls : List CallOfC) (t : Told) (ts : List Told) (last : OpenDecoder)
    → Marks value d bytes t next → IsARun next bytes calls ts last → IsARun d bytes (makes_mark value ∷ calls) (t ∷ ts) last
marked_run value d next bytes calls t ts last (inl m) r =
    let s : IsARun (marked (mark_behind bytes value) d) bytes calls ts last = subst (λ (n : OpenDecoder). IsARun n bytes calls ts last) m.1 r in
    (s.0, s.1, s.2, inl (m.0, s.3))
marked_run value d next bytes calls t ts last (inr m) r =
    let s : IsARun d bytes calls ts last = subst (λ (n : OpenDecoder). IsARun n bytes calls ts last) m.1 r in
    (s.0, s.1, s.2, inr (m.0, s.3))

pub run_of : (d : OpenDecoder) (bytes : List ℕ) (calls : List CallOfC) (told : List Told) (last : OpenDecoder) → AreItsBytes bytes d.decoder
    → AreAnswered (Some d) calls told (Some last) → IsARun d bytes calls told last
run_of d bytes [] [] last its h = let is = same_decoder last d h in ([], [], ap (λ x. x.decoder) is, (ap (λ x. x.picture) is, ap (λ x. x.marks) is, ap (λ x. x.awaited) is))
run_of d bytes [] (t ∷ ts) last its h = absurd h
run_of d bytes (call ∷ calls) [] last its h = absurd h
run_of d bytes (feeds piece ∷ calls) (t ∷ ts) last its h =
    let fed = h.2 in let next : OpenDecoder = record d { decoder = fed.1 } in
    let r = run_of next (after_bytes fed.0 piece (between d bytes)).bytes calls ts last (fed_bytes d bytes piece fed.0 fed.1 its fed.2) (goes_on h.1 next last calls ts fed.4 h.3) in
    (Feed piece ∷ r.0, replies.Fed fed.0 ∷ r.1, (fed.1, fed.2, r.2), (refl, fed.3, fed_tells fed.0 piece d bytes fed.1 calls ts r.0 r.1 last r.3))
run_of d bytes (feeds_unit piece ∷ calls) (t ∷ ts) last its h =
    let fed = h.2 in let next : OpenDecoder = record d { decoder = fed.1 } in
    let one = unit_is_feed d.decoder piece fed.0 fed.1 t.status t.used fed.2 fed.3 fed.4 in
    let given = given_by one.0 t.used piece in
    let r = run_of next (after_bytes one.0 given (between d bytes)).bytes calls ts last (fed_bytes d bytes given one.0 fed.1 its one.1) (goes_on h.1 next last calls ts fed.5 h.3) in
    (Feed given ∷ r.0, replies.Fed one.0 ∷ r.1, (fed.1, one.1, r.2), (refl, one.2, fed_tells one.0 given d bytes fed.1 calls ts r.0 r.1 last r.3))
run_of d bytes (takes ∷ calls) (t ∷ ts) last its h =
    let taken = h.2 in let next : OpenDecoder = record d { decoder = taken.1; picture = picture_of taken.0; awaited = awaited_behind d.marks taken.0 d.awaited } in
    let r = run_of next bytes calls ts last (taken_bytes d.decoder bytes taken.0 taken.1 its taken.2) (goes_on h.1 next last calls ts taken.5 h.3) in
    (Take ∷ r.0, replies.Taken taken.0 ∷ r.1, (taken.1, taken.2, r.2), (taken.3, taken.4, r.3))
run_of d bytes (takes_dropped ∷ calls) (t ∷ ts) last its h =
    let told = h.2 in let next : OpenDecoder = record d { awaited = told.0 } in
    let r = run_of next bytes calls ts last its (goes_on h.1 next last calls ts told.2 h.3) in
    (r.0, r.1, r.2, ((h.0).value, told.0, told.1, r.3))
run_of d bytes (flushes ∷ calls) (t ∷ ts) last its h =
    let fed = h.2 in let next : OpenDecoder = record d { decoder = fed.1 } in
    let r = run_of next bytes calls ts last (flushed_bytes d.decoder bytes fed.0 fed.1 its fed.2) (goes_on h.1 next last calls ts fed.4 h.3) in
    (Flush ∷ r.0, replies.Flushed fed.0 ∷ r.1, (fed.1, fed.2, r.2), (fed.3, r.3))
run_of d bytes (resets ∷ calls) (t ∷ ts) last its h =
    let next : OpenDecoder = new_decoder (d.decoder).output in
    let r = run_of next [] calls ts last (λ going. refl) (goes_on h.1 next last calls ts h.2.1 h.3) in
    (Reset ∷ r.0, replies.Reset ∷ r.1, (next.decoder, refl, r.2), (h.2.0, r.3))
run_of d bytes (makes_mark value ∷ calls) (t ∷ ts) last its h =
    let next = after_mark value d in
    let marks = marks_by value d bytes t (d.decoder).failed refl its h.2.0 in
    marked_run value d next bytes calls t ts last marks
    (run_of next bytes calls ts last (marked_bytes value d bytes (d.decoder).failed refl its) (goes_on h.1 next last calls ts h.2.1 h.3))
run_of d bytes (opens early ∷ calls) (t ∷ ts) last its h =
    let r = run_of d bytes calls ts last its (goes_on h.1 d last calls ts h.2.1 h.3) in
    (r.0, r.1, r.2, (h.2.0, r.3))
run_of d bytes (looks ∷ calls) (t ∷ ts) last its h =
    run_of d bytes calls ts last its (goes_on h.1 d last calls ts h.2 h.3)
