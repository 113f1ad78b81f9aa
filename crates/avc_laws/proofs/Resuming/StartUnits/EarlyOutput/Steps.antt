-- What is known of a slice that was read and of the step that it brings, and of a history as it grows: what goes out of it, and that each of
-- its pictures could come.
pub mod Common
unfoldable pub use Common.*
use Rattle.avc_bits.proofs.Reading.{Gives, bind-ok, gives-give, gives-then, value}
use Rattle.avc_decoder.specs.Events.{running}
use Rattle.avc_slice.proofs.ReadUnder.{header-read}
use Rattle.avc_slice.specs.Reading.{position_here}
use Rattle.avc_types.specs.Results.{◌>>=◌}
use Rattle.avc_types.specs.declared.fault.Fault.TheVariants as faults

-- ---- what is known of a slice header that can be read, and of the unit that it stands in

-- first_mb_in_slice stands first
first_read : (nal_ref_idc : ℕ) (idr : Bool) (b next : Bits) (g : Front) → front nal_ref_idc idr b ≡ Ok (g, next)
    → (rest : Bits) × (ue b ≡ Ok (g.first_mb_in_slice, rest))
first_read nal_ref_idc idr b next g e =
    let first = bind-ok ue _ b next g e in
    let number = bind-ok (ue_to 9) _ first.1 next g first.3 in
    let kind = bind-ok (found (slice_type_of number.0) faults.SliceType) _ number.1 next g number.3 in
    let checked = bind-ok (check (not (idr && (nal_ref_idc == 0 || is_p_type kind.0))) faults.BadIdr) _ kind.1 next g kind.3 in
    let id = bind-ok (ue_to 255) _ checked.1 next g checked.3 in
    (first.1, first.2 ∙ ap (λ r. Ok ((value g r).first_mb_in_slice, first.1)) id.3)

-- what stands behind the front keeps it
address_stays : (nal_ref_idc : ℕ) (idr : Bool) (g : Front) (pps : Pps) (sps : Sps)
    → Gives (λ h. h.first_mb_in_slice ≡ g.first_mb_in_slice) (back nal_ref_idc idr g pps sps)
address_stays nal_ref_idc idr g pps sps =
    let Q = λ (h : Header). h.first_mb_in_slice ≡ g.first_mb_in_slice in
    gives-then Q (check (nat_lt g.first_mb_in_slice (size_in_mbs sps)) _) _ (λ _.
    gives-then Q (numbers idr pps sps) _ (λ of_picture.
    gives-then Q (list_part (is_p_type g.slice_type) pps sps) _ (λ list.
    gives-then Q (where_set (not (nal_ref_idc == 0)) (marking idr)) _ (λ marked.
    gives-then Q (filtering pps) _ (λ filtered.
    gives-then Q position_here _ (λ position. gives-give Q _ refl))))))

-- What can be read has its parameter sets, and its first_mb_in_slice stands first.
pub record IsRead (header : ℕ) (sets : Sets) (rbsp : List ℕ) (h : Header) : Type 0 where
  pub named : is_some (sets_named sets h) ≡ true
  pub address : reads_zero (ue (start rbsp)) ≡ true → h.first_mb_in_slice ≡ 0
  pub of_idr : (header % 32 == 5) ≡ true → is_idr h ≡ true
  pub rules : KeepsIdrRules h

value_is : (x : Result (Header × Bits) Fault) (h : Header) → value_or_fault x ≡ Ok h → (next : Bits) × (x ≡ Ok (h, next))
value_is (Ok r) h e = (r.1, ap (λ g. Ok (g, r.1)) (ok_same r.0 h e))
value_is (Err f) h e = cc

pub is_read : (header : ℕ) (sets : Sets) (rbsp : List ℕ) (h : Header) → header_in_rbsp header sets rbsp ≡ Ok h
    → IsRead header sets rbsp h
is_read header sets rbsp h e =
    let nal_ref_idc = header / 32 % 4 in
    let idr = header % 32 == 5 in
    let all = value_is (header_of header sets (start rbsp)) h e in
    let g = bind-ok (front nal_ref_idc idr) _ (start rbsp) all.0 h all.1 in
    let pps = bind-ok (found (sets.pps g.0.pic_parameter_set_id) faults.NoParameterSet) _ g.1 all.0 h g.3 in
    let sps = bind-ok (found (sets.sps pps.0.seq_parameter_set_id) faults.NoParameterSet) _ pps.1 all.0 h pps.3 in
    let first = first_read nal_ref_idc idr (start rbsp) g.1 g.0 g.2 in
    let read = header-read header sets rbsp h e in
    let within = read.kept.within in
    record {
      named = ap is_some (named_is sets h read.kept.pps read.kept.sps read.kept.pps_is read.kept.sps_is);
      address = λ zero_read.
          address_stays nal_ref_idc idr g.0 pps.0 sps.0 sps.1 all.0 h sps.3
          ∙ eqb-true g.0.first_mb_in_slice 0 (sym (ap reads_zero first.1) ∙ zero_read);
      of_idr = λ of_idr. read.idr_is ∙ of_idr;
      rules = record { intra = within.intra; reference = within.reference; marking = within.marking };
    }

-- ---- the slice of a unit

some_read : {A B : Type 0} (o : Option A) (f : Fault) (read : A → Result B Fault) (s : B)
    → ◌≡◌ {A = Result B Fault} (elim o [ None ↦ Err f | Some a ↦ read a ]) (Ok s) → (a : A) × (o ≡ Some a) × (read a ≡ Ok s)
some_read None f read s e = cc
some_read (Some a) f read s e = (a, refl, e)

header_read : (u : Piece) (bytes : List ℕ) (h : Result Header Fault) (s : Slice) → with_header u bytes h ≡ Ok s → h ≡ Ok s.header
header_read u bytes (Ok h) s e = ap (λ (t : Slice). Ok t.header) (ok_same _ s e)
header_read u bytes (Err f) s e = cc

-- its header stands in the unit's RBSP
pub slice_of_unit : (sets : Sets) (u : Piece) (s : Slice) → slice_in sets u ≡ Ok s
    → (rbsp : List ℕ) × (rbsp_of u ≡ Some rbsp) × IsRead u.header sets rbsp s.header
slice_of_unit sets u s e =
    let some = some_read (rbsp_of u) faults.NalTooLong (λ bytes. with_header u bytes (header_in_rbsp u.header sets bytes)) s e in
    (some.0, some.1, is_read u.header sets some.0 s.header (header_read u some.0 (header_in_rbsp u.header sets some.0) s some.2))

-- ---- a unit to start with

pub record Starts (u : Piece) : Type 0 where
  pub allowed : forbidden_zero_bit u.header ≡ false
  pub of_idr : nal_unit_type u.header ≡ 5
  pub reads : (rbsp : List ℕ) → rbsp_of u ≡ Some rbsp → reads_zero (ue (start rbsp)) ≡ true

pub starts : (u : Piece) → is_start u ≡ true → Starts u
starts u e =
    let zero_in : Option (List ℕ) → Bool = λ o. elim o [ None ↦ false | Some bytes ↦ reads_zero (ue (start bytes)) ] in
    let allowed = not (forbidden_zero_bit u.header) in
    let both_so = first_so (allowed && nal_unit_type u.header == 5) (zero_in (rbsp_of u)) e in
    record {
      allowed = not-true (forbidden_zero_bit u.header) (first_so allowed (nal_unit_type u.header == 5) both_so);
      of_idr = eqb-true (nal_unit_type u.header) 5 (second_so allowed (nal_unit_type u.header == 5) both_so);
      reads = λ rbsp there. sym (ap zero_in there) ∙ second_so (allowed && nal_unit_type u.header == 5) (zero_in (rbsp_of u)) e;
    }

-- ---- slices of one picture

-- One whose first_mb_in_slice is 0 begins a picture.
pub begins_at_zero : (g h : Header) → h.first_mb_in_slice ≡ 0 → begins g h ≡ true
begins_at_zero g h e = ap (λ n. begins g (record h { first_mb_in_slice = n })) e

-- ---- by the address of its first macroblock, and by what opening gives

-- how many macroblocks have been read
abbrev pub count_by : ℕ → Result History Fault → (History → ℕ) → ℕ
count_by address opened counted = elim address [ suc _ ↦ 0 | zero ↦ elim opened [ Err f ↦ 0 | Ok history ↦ counted history ] ]

-- ---- at closing

abbrev marked : (unit : ℕ) → Result History Fault → Option (ℕ × Fault)
marked unit (Ok h) = None
marked unit (Err f) = Some (unit, f)

-- macroblocks are missing, or marking is refused
abbrev pub by_full : (full : Bool) → (unit : ℕ) → Result History Fault → Option (ℕ × Fault)
by_full full unit closed = elim full [ false ↦ Some (unit, faults.MissingMacroblocks) | true ↦ marked unit closed ]

-- the same of the picture on this history
abbrev pub found_at_closing : OpenPicture → History → Option (ℕ × Fault)
found_at_closing o h = by_full (is_full (start_on o h) (progress_on o h)) (o.last).unit (closed_history o h)

-- that of the slices comes first
abbrev pub then_closing : Option (ℕ × Fault) → (closing : Bool) → Option (ℕ × Fault) → Option (ℕ × Fault)
then_closing f closing closed = elim f [ Some found ↦ Some found | None ↦ elim closing [ true ↦ closed | false ↦ None ] ]

-- ---- what a unit does

-- the last header, and whether the picture is full
abbrev pub facts_by : Header → (full : Bool) → OpenPictureFacts
facts_by last full = record { last = last; full = full }

-- by these events, this phase and so many macroblocks read
abbrev pub outcome_of : List Event → Phase → (read : ℕ) → Outcome
outcome_of es p read = record { events = es; phase = p; read = read }

-- by whether the unit closes the picture
abbrev pub chosen : Bool → (closed other : Outcome) → Outcome
chosen closes closed other = elim closes [ true ↦ closed | false ↦ other ]

-- ---- what has gone out of a history as it grows, and that each of its pictures could come: what comes of a history

-- one history has come of another
pub record Follows (h full : History) : Type 0 where
  pub more : History
  pub is : full ≡ more ++ h

-- ---- what has gone out

-- the pictures that a history has handed out
abbrev pub gone : Output → History → List Decoded
gone output h = pictures_at h (buffer_of output h).out

-- all its pictures, in the order in which they go out in the end
abbrev pub all_of : Output → History → List Decoded
all_of output h = pictures_at h (output_order output h)

shown_in_turn : (h : History) (first others : List ℕ) → pictures_at h (first ++ others) ≡ pictures_at h first ++ pictures_at h others
shown_in_turn h first others = flat_map-append (λ index. entry_pictures (entry_at h index)) first others

pub gone_and_held : (output : Output) (h : History) → gone output h ++ held_pictures output h ≡ all_of output h
gone_and_held output h = sym (shown_in_turn h (buffer_of output h).out (all_held output h))

-- the decoding indices of what has gone out
gone_below : (output : Output) (h : History) → All (λ p. p < length h) (buffer_of output h).out
gone_below output h =
    let out = (buffer_of output h).out in
    subst (All (λ p. p < length h)) (take-append_seam out (all_held output h)) (All-take (λ p. p < length h) (length out) (out ++ all_held output h) (all_indices_below output h))

-- with one entry more
gone_more : (output : Output) (e : Entry) (h : History) → gone output h ++ output_pictures output h (e ∷ h) ≡ gone output (e ∷ h)
gone_more output e h =
    let out = (buffer_of output h).out in
    ap (λ l. l ++ output_pictures output h (e ∷ h)) (sym (pictures_stay e h out (gone_below output h)))
    ∙ sym (shown_in_turn (e ∷ h) out (new_output output h (e ∷ h)))
    ∙ ap (pictures_at (e ∷ h)) (sym (out_only_grows output (length (arrivals h)) (arrival e h) (buffer_of output h)))

-- The new history has put out what the old one has, and then more.
record Grown (output : Output) (old new : History) : Type 0 where
  extends : Extends output old new
  in_turn : gone output old ++ output_pictures output old new ≡ gone output new

grown : (output : Output) (h more : History) → Grown output h (more ++ h)
grown output h [] = record {
  extends = extends_itself output h;
  in_turn = ap (λ l. gone output h ++ l) (sym (nothing_goes_out output h)) ∙ append-nil (gone output h);
}
grown output h (e ∷ more) =
    let so_far = grown output h more in
    let mid = more ++ h in
    record {
      extends = extends_more output e h mid so_far.extends;
      in_turn =
          ap (λ l. gone output h ++ l) (output_more output e h mid so_far.extends)
          ∙ sym (append_assoc (gone output h) (output_pictures output h mid) (output_pictures output mid (e ∷ mid)))
          ∙ ap (λ l. l ++ output_pictures output mid (e ∷ mid)) so_far.in_turn
          ∙ gone_more output e mid;
    }

pub gone_later : (output : Output) (old new : History) → Follows old new
    → gone output old ++ output_pictures output old new ≡ gone output new
gone_later output old new f =
    subst (λ l. gone output old ++ output_pictures output old l ≡ gone output l) (sym f.is) (grown output old f.more).in_turn

-- ---- each picture could come

-- Each picture of the history could come, and each entry was marked.
pub record IsSound (h : History) : Type 0 where
  pub each : EachCanCome h
  pub marked : is_ok (marks_of h) ≡ true

pub none_sound : IsSound []
none_sound = record { each = tt; marked = refl }

-- a picture that is one of an IDR picture has the marking of one
abbrev pub HasItsMarking : Header → Type 0
HasItsMarking h = is_idr h ≡ true → has_idr_marking h ≡ true

-- The open picture stands on such a history.
pub record IsSoundOpen (o : OpenPicture) : Type 0 where
  pub before : IsSound o.before
  pub idr : HasItsMarking (first_header o)

-- It has come of such a history by missing numbers, or is that.
pub record Grows (h full : History) : Type 0 where
  pub follows : Follows h full
  pub sound : IsSound full

-- with missing numbers taken in
missing_grows : (sps : Sps) (numbers : List ℕ) (h mid full : History) → Grows h mid → with_missing sps numbers mid ≡ Ok full → Grows h full
missing_grows sps [] h mid full g e = subst (Grows h) (ok_same mid full e) g
missing_grows sps (n ∷ numbers) h mid full g e = by_marks (marks_of next) refl (missing_grows sps numbers h next full) e
  where
    next : History
    next = missing_frame sps n ∷ mid

    by_marks : (r : Result Marks Fault) → marks_of next ≡ r → (Grows h next → with_missing sps numbers next ≡ Ok full → Grows h full)
        → (r >>= λ m. with_missing sps numbers next) ≡ Ok full → Grows h full
    by_marks (Ok m) is others e' =
        others (record {
          follows = record { more = missing_frame sps n ∷ g.follows.more; is = ap (λ l. missing_frame sps n ∷ l) g.follows.is };
          sound = record { each = g.sound.each; marked = ap is_ok is };
        }) e'
    by_marks (Err f) is others e' = cc

-- the history on which the open picture stands
pub base_grows : (o : OpenPicture) → IsSound o.before → Grows o.before (history_of o)
base_grows o s = by_address (first_header o).first_mb_in_slice (history_at_opening_of o) opening_grows
  where
    here : Grows o.before o.before
    here = record { follows = record { more = []; is = refl }; sound = s }

    opening_grows : (h : History) → history_at_opening_of o ≡ Ok h → Grows o.before h
    opening_grows h e =
        let opened = opened_by o.sps (first_header o) o.before h e in
        missing_grows o.sps opened.numbers o.before o.before h here opened.missing

    by_address : (address : ℕ) (opened : Result History Fault) → ((h : History) → opened ≡ Ok h → Grows o.before h)
        → Grows o.before (history_by address opened o.before)
    by_address zero (Ok h) grows = grows h refl
    by_address _ opened grows = here

-- ---- a picture that is closed

-- What closing leaves: a history that has come of the one before, or of none with an IDR picture.
pub record IsSoundlyClosed (o : OpenPicture) (full : History) : Type 0 where
  pub sound : IsSound full
  pub follows : Follows (earlier_in_sequence (first_header o) (history_of o)) full

pub closed_sound : (o : OpenPicture) (full : History) → IsSoundOpen o → closing_result o ≡ Ok full → IsSoundlyClosed o full
closed_sound o full s e =
    let c = has_closed o full e in
    let closing = closing_is o.sps hd (first_slice o).unit (picture_planes o base) base full c.1 in
    let known = info_of o.sps hd (first_slice o).unit (earlier_in_sequence hd base) in
    record {
      sound = record {
        each = subst EachCanCome (sym closing.0) (can_come c.0 (is_idr hd) refl);
        marked = closing.1;
      };
      follows = record { more = decoded_picture o.sps hd known (picture_planes o base) ∷ []; is = closing.0 };
    }
  where
    hd : Header
    hd = first_header o

    base : History
    base = history_of o

    can_come : history_at_opening_of o ≡ Ok base → (b : Bool) → is_idr hd ≡ b
        → let earlier = elim b as (λ _. History) [ true ↦ [] | false ↦ base ] in CanCome o.sps hd earlier × EachCanCome earlier
    can_come opened true is = (record { idr = s.idr; first = λ _. refl; same = λ other. absurd (false≢true (sym other ∙ is)) }, tt)
    can_come opened false is =
        let set = ap (λ set. is_same_sps set o.sps) (set_at_opening o.sps hd o.before base opened) in (
          record {
            idr = s.idr;
            first = λ idr. absurd (false≢true (sym is ∙ idr));
            same = λ other. set ∙ (opened_by o.sps hd o.before base opened).same other;
          },
          ((base_grows o s.before).sound).each,
        )

-- ---- a picture that begins

-- A picture begins while none is open, and one that is an IDR picture has the marking of one.
abbrev pub Allows : Next → (is_open : Bool) → Type 0
Allows (Begins s) true = ⊥
Allows (Begins s) false = HasItsMarking s.header
Allows _ is_open = Prim.Unit {0}

-- The same, once the open picture is closed where the step says so.
abbrev pub Fits : Option OpenPictureFacts → (closes : Bool) → Next → Type 0
Fits None closes n = Allows n false
Fits (Some facts) closes n = Allows n (not closes)

pub rules_in : (sets : Sets) (u : Piece) (s : Slice) → slice_in sets u ≡ Ok s → KeepsIdrRules s.header
rules_in sets u s e = (slice_of_unit sets u s e).2.rules

pub fits : (sets : Sets) (u : Piece) (o : Option OpenPictureFacts) (closes : Bool) (n : Next) → BringsNext (slice_in sets u) o closes n → Fits o closes n
fits sets u (Some facts) false (Begins s) b = cc b.0
fits sets u None closes (Begins s) b = (rules_in sets u s b.1).marking
fits sets u (Some facts) true (Begins s) b = (rules_in sets u s b.1).marking
fits sets u None closes _ b = tt
fits sets u (Some facts) closes _ b = tt

-- ---- a further slice

-- One that continues an IDR picture is one of an IDR picture.
pub idr_continues : (g h : Header) → is_idr g ≡ true → begins g h ≡ false → is_idr h ≡ true
idr_continues g h i e = sym (same_kind g h e) ∙ i

-- ---- the events of a stream's units, one after another, and the state after them: the state

-- in this mode and phase, after these units with parameter sets
abbrev pub state_of : Output → List SetUnit → Phase → State
state_of output units p = record { output = output; sets = units; phase = p }

-- one unit's sets, and then the others'
pub sets-append : (a b c : List SetUnit) → (a ++ (b ++ [])) ++ c ≡ a ++ (b ++ c)
sets-append a b c = append_assoc a (b ++ []) c ∙ ap (λ m. a ++ m) (append_assoc b [] c)

-- those that came, and then what the units bring
pub sets_through : (s : State) (us : List Unit) → (state_through s us).sets ≡ s.sets ++ set_units us
sets_through s [] = sym (append-nil s.sets)
sets_through s (u ∷ us) = sets_through (state_after s u (after_unit s u)) us ∙ sets-append s.sets _ (set_units us)

-- the mode stays
pub output_through : (s : State) (us : List Unit) → (state_through s us).output ≡ s.output
output_through s [] = refl
output_through s (u ∷ us) = output_through (state_after s u (after_unit s u)) us
