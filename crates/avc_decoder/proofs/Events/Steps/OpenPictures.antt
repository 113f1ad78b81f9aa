-- An open picture: its first fault, one slice more, and what closing it comes to.
pub mod Common
unfoldable pub use Common.*
use Rattle.avc_decoder.specs.Events.{running}
use Rattle.avc_decoder.specs.PictureFrames.{IsRefused}
use Rattle.avc_types.specs.declared.fault.Fault.TheVariants as faults

-- ---- the sets that a header names

pub named_is : (sets : Sets) (h : Header) (pps : Pps) (sps : Sps) → sets.pps h.pic_parameter_set_id ≡ Some pps
    → sets.sps pps.seq_parameter_set_id ≡ Some sps → sets_named sets h ≡ Some (pps, sps)
named_is sets h pps sps e f = cc

-- ---- the cases of what an open picture gives: each a function of what it is by

-- what holds in each case of a test
pub either : {A : Type 0} (P : A → Type 0) (b : Bool) (x y : A) → (b ≡ true → P x) → (b ≡ false → P y)
    → P (elim b [ true ↦ x | false ↦ y ])
either P true x y p q = p refl
either P false x y p q = q refl

pub if_either : {A : Type 0} (P : A → Type 0) (b : Bool) (x y : A) → P x → P y → P (if b then x else y)
if_either P true x y p q = p
if_either P false x y p q = q

-- ---- by the address of its first macroblock, and by what opening gives

-- the history on which it stands
abbrev pub history_by : ℕ → Result History Fault → (before : History) → History
history_by address opened before = elim address [ suc _ ↦ before | zero ↦ elim opened [ Err f ↦ before | Ok history ↦ history ] ]

-- its first fault
abbrev pub fault_by : ℕ → (unit : ℕ) → Result History Fault → (History → Option (ℕ × Fault)) → Option (ℕ × Fault)
fault_by address unit opened later = elim address [
  | suc _ ↦ Some (unit, faults.MissingMacroblocks)
  | zero ↦ elim opened [ Err f ↦ Some (unit, f) | Ok history ↦ later history ]
]

-- ---- at closing

-- what closing gives, where no fault was found before
abbrev pub unless_found : Option (ℕ × Fault) → Result History (ℕ × Fault) → Result History (ℕ × Fault)
unless_found f closed = elim f [ Some found ↦ Err found | None ↦ closed ]

-- ---- what a unit does

-- by the first fault with the slice
abbrev pub slice_outcome : Output → Option (ℕ × Fault) → History → OpenPicture → (now : History) → (read : ℕ) → Outcome
slice_outcome output f before o now read = elim f [
  | Some found ↦ failed_at output before found.0 found.1 read
  | None ↦ record { events = pictures (output_pictures output before now); phase = running o.before (Some o); read = read }
]

-- by whether a fault at closing leaves the unit without effect
abbrev pub unless_silent : Bool → (closed next : Outcome) → Outcome
unless_silent silent closed next = elim silent [ true ↦ closed | false ↦ followed_by closed next ]

-- ---- when an open picture's first fault is which

-- The picture's macroblocks begin at 0, and it stands on this history.
pub record Stands (o : OpenPicture) (h : History) : Type 0 where
  pub first : (first_header o).first_mb_in_slice ≡ 0
  pub stands : history_at_opening_of o ≡ Ok h

pub history_is : (o : OpenPicture) (h : History) → Stands o h → history_of o ≡ h
history_is o h s = cc (s.first, s.stands)

pub read_is : (o : OpenPicture) (h : History) → Stands o h → read_of o ≡ (progress_on o h).read
read_is o h s = cc (s.first, s.stands)

pub slice_fault : (o : OpenPicture) (h : History) (closing : Bool) (found : ℕ × Fault) → Stands o h → (progress_on o h).fault ≡ Some found → first_fault o closing ≡ Some found
slice_fault o h closing found s e = cc (s.first, s.stands, e)

-- the missing numbers could not be taken in
pub unopened : (o : OpenPicture) (f : Fault) (closing : Bool) → (first_header o).first_mb_in_slice ≡ 0
    → history_at_opening_of o ≡ Err f → first_fault o closing ≡ Some ((first_slice o).unit, f)
unopened o f closing a e = cc (a, e)

pub unopened_read : (o : OpenPicture) (f : Fault) → (first_header o).first_mb_in_slice ≡ 0
    → history_at_opening_of o ≡ Err f → read_of o ≡ 0
unopened_read o f a e = cc (a, e)

pub no_fault : (o : OpenPicture) (h : History) → Stands o h → (progress_on o h).fault ≡ None → first_fault o false ≡ None
no_fault o h s e = cc (s.first, s.stands, e)

pub not_full : (o : OpenPicture) (h : History) → Stands o h → (progress_on o h).fault ≡ None → is_full (start_on o h) (progress_on o h) ≡ false
    → closing_result o ≡ Err ((o.last).unit, MissingMacroblocks)
not_full o h s e f = cc (s.first, s.stands, e, f)

-- a full picture is closed as the history after it says
pub closes_by : (o : OpenPicture) (h : History) (r : Result History Fault) → Stands o h → (progress_on o h).fault ≡ None → is_full (start_on o h) (progress_on o h) ≡ true → closed_history o h ≡ r
    → closing_result o ≡ at_last_slice o r
closes_by o h (Ok h') s e f c =
    let none : first_fault o true ≡ None = cc (s.first, s.stands, e, f, c) in
    let same : closed_history o (history_of o) ≡ Ok h' = ap (closed_history o) (history_is o h s) ∙ c in
    cc (none, same)
closes_by o h (Err g) s e f c = cc (s.first, s.stands, e, f, c)

-- ---- what a picture decoder says holds on the history of the sequence, and the frames have the picture's size: the history's frames

-- Places at which the frames can stand; the picture is decoded there as on the history.
pub record StandsOn (history : History) (d : Decoding 16) : Type 0 where
  pub indices : List ℕ
  pub stand : CanStandAt indices d
  pub same : progress_at indices d ≡ progress_on_history history d

pub none_rises : IsStrictlyIncreasing []
none_rises k below = search arith

stands_by : (idr : Bool) (s : SequenceState) (d : Decoding 16) → d.frames ≡ elim idr [ true ↦ [] | false ↦ s.frames ] → (idr ≡ true → All IsISlice d.slices) → (idr ≡ false → AreStoredIn (current_history s) s.frames)
    → StandsOn (current_history s) d
stands_by true s d e intra stored = record { indices = []; stand = rw e (record { each = refl; rising = none_rises }); same = progress-other (start_at [] d) (stored_frames (current_history s)) d.slices (intra refl) }
stands_by false s d e intra stored =
    let a = stored refl in
    record {
      indices = a.indices;
      stand = subst (λ (fs : List (Frame 16)). StandAt a.indices (map marked_frame fs)) (sym e) a.stand;
      same = ap (λ fs. progress (start_with fs d) d.slices) (ap (stored_at a.indices) e ∙ a.stored);
    }

-- ---- what the picture decoder says

-- wherever it can stand, holds on the history
pub on_history : (s : SequenceState) (h : Header) (d : Decoding 16) → HasItsFrames s h d → (Says : Progress → Type 0)
    → ((indices : List ℕ) → CanStandAt indices d → Says (progress_at indices d)) → Says (progress_on_history (current_history s) d)
on_history s h d f Says says = let k = stands_by (is_idr h) s d f.frames f.intra f.stored in subst Says k.same (says k.indices k.stand)

pub with_one_more : (s : SequenceState) (d : Decoding 16) (slice : Slice) → CanHave s d slice → HasItsFrames s slice.header (with_slice_more slice d)
with_one_more s d slice can = record {
  frames = can.frames.frames;
  intra = λ idr. All-cons IsISlice slice d.slices (can.within.intra idr) (can.frames.intra idr);
  stored = can.frames.stored;
}

pub refused : (s : SequenceState) (d : Decoding 16) (slice : Slice) (f : Fault) → CanHave s d slice → HasNoFault d → Refuses d slice f (with_slice_more slice d) → IsRefused (current_history s) (with_slice_more slice d) slice f
refused s d slice f can well r =
    on_history s slice.header (with_slice_more slice d) (with_one_more s d slice can) (λ g. g.fault ≡ Some (slice.unit, f)) (r.unit well)

pub slice_read : (s : SequenceState) (d d' : Decoding 16) (slice : Slice) (before after read : ℕ) → CanHave s d slice → d' ≡ with_slice_more slice d → HasRead before d → HasRead after d' → read ≡ after - before
    → read ≡ read_of_slice (current_history s) d slice
slice_read s d d' slice before after read can e so_far then' is =
    let b = on_history s slice.header d can.frames (λ g. g.read ≡ before) so_far in
    let a =
    on_history s slice.header (with_slice_more slice d) (with_one_more s d slice can) (λ g. g.read ≡ after) (subst (HasRead after) e then') in
    is ∙ ap₂ (λ m n. m - n) (sym a) (sym b)

-- a slice more of a picture of the same kind
pub same_frames : (s : SequenceState) (g h : Header) (d : Decoding 16) → is_idr g ≡ is_idr h → HasItsFrames s g d → HasItsFrames s h d
same_frames s g h d e f = record {
  frames = f.frames ∙ ap (λ (b : Bool). elim b as (λ _. List (Frame 16)) [ true ↦ [] | false ↦ s.frames ]) e;
  intra = λ idr. f.intra (e ∙ idr);
  stored = λ other. f.stored (e ∙ other);
}

-- ---- the frames' size

-- sets of the same contents give the same size
same_size : (a b : Sps) → same_sps a b ≡ true → (width_in_mbs a ≡ width_in_mbs b) × (height_in_mbs a ≡ height_in_mbs b)
same_size a b e = (
  ap (λ n. n + 1) (eqb-true a.pic_width_in_mbs_minus1 b.pic_width_in_mbs_minus1 (search (first_so, second_so) depth 16)),
  ap (λ n. n + 1) (eqb-true a.pic_height_in_map_units_minus1 b.pic_height_in_map_units_minus1 (search (first_so, second_so) depth 16)),
)

fit_set : (sps : Sps) (set : Option Sps) (frames : List (Frame 16)) → is_same_sps set sps ≡ true → IfSome set (λ before. AreFrames (width_in_mbs before) (height_in_mbs before) frames) → AreFramesOf sps frames
fit_set sps None frames same fit = cc
fit_set sps (Some before) frames same fit =
    let size = same_size before sps same in
    rw (← size.0, ← size.1) fit

-- the frames have the size of the picture that is opened
pub frames_fit : (s s1 : SequenceState) (sps : Sps) (first : Slice) (out : List Decoded) (frames : List (Frame 16))
    → IsOpened s (open_picture_start sps first) out s1 → frames ≡ frames_for first.header s1
    → (is_idr first.header ≡ false → s1.failed ≡ false → AreFramesIn (current_history s1) s1.frames) → AreFramesOf sps frames
frames_fit s s1 sps first out frames i is sized = by_idr (is_idr h) refl is
  where
    h : Header
    h = first.header

    by_idr : (idr : Bool) → is_idr h ≡ idr → frames ≡ elim idr [ true ↦ [] | false ↦ s1.frames ] → AreFramesOf sps frames
    by_idr true other e = rw e (record { few = omega arith; sized = All-nil _ })
    by_idr false other e =
        let stays = ap (λ set. is_same_sps set sps) (set_at_opening sps h s.history (current_history s1) i.stands) in
        let same = (opened_by sps h s.history (current_history s1) i.stands).same other in
        rw e (fit_set sps _ s1.frames (stays ∙ same) (sized other (ap (λ (x : SequenceState). x.failed) i.state ∙ i.going)))

-- ---- what closing the open picture comes to

pub some_is : {A : Type 0} (x y : A) → ◌≡◌ {A = Option A} (Some x) (Some y) → x ≡ y
some_is x y e = cc

-- ---- the open picture

-- of a sequence and a picture decoder with these slices
abbrev pub opened_as : SequenceState → Decoding 16 → Slice → List Slice → OpenPicture
opened_as s d last earlier = record { before = s.history; sps = d.sps; pps = d.pps; last = last; earlier = earlier }

pub stands_as : (s : SequenceState) (c : CurrentPicture) (w : IsOpenIn s c)
    → Stands (opened_as s c.decoder w.last w.earlier) (current_history s)
stands_as s c w = record { first = w.first; stands = w.stands }

pub opened_phase : (s : SequenceState) (c : CurrentPicture) (w : IsOpenIn s c)
    → phase_of s (Running (Some c)) ≡ running s.history (Some (opened_as s c.decoder w.last w.earlier))
opened_phase s c w = ap (λ ss. running s.history (open_picture_from s.history (c.decoder).sps (c.decoder).pps ss))
    w.slices

-- what the picture decoder says, wherever it can stand, holds of it
pub on_open : (s : SequenceState) (c : CurrentPicture) (w : IsOpenIn s c) (Says : Progress → Type 0)
    → ((indices : List ℕ) → CanStandAt indices c.decoder → Says (progress_at indices c.decoder))
    → Says (progress_on (opened_as s c.decoder w.last w.earlier) (current_history s))
on_open s c w Says says =
    subst (λ ss. Says (progress (start_with (stored_frames (current_history s)) c.decoder) ss)) w.slices
    (on_history s (w.last).header c.decoder w.frames Says says)

pub well_at : (s : SequenceState) (c : CurrentPicture) (w : IsOpenIn s c)
    → (progress_on (opened_as s c.decoder w.last w.earlier) (current_history s)).fault ≡ None
well_at s c w = on_open s c w (λ g. g.fault ≡ None) w.well

-- ---- decoding waits

-- so many macroblocks were read before
pub stops_at : {output : Output} {q q' : QueueState} {n n' : ℕ} {table table' : List SetUnit} {s' : SequenceState}
    {p' : PhaseHere} (x : Outcome) → x.phase ≡ waiting → Stops output q x.events s' p' q' → n' ≡ more_read n x.read
    → table' ≡ table → ComesTo output q n table x s' p' q' n' table'
stops_at x e w read same =
    rw (w.sequence, w.phase) (record {
      works = record { stands = (record { on = refl; none = refl }, refl); named = tt };
      phase = sym e;
      output_is = refl;
      queue = w.queue;
      count = read;
      sets = same;
    })

-- ---- what closing gives

-- it was a fault
fails : (t t' : Stream) (c : CurrentPicture) (f : Fault) (w : IsOpenIn t.sequence c)
    → closing_result (opened_as t.sequence c.decoder w.last w.earlier) ≡ Err (c.last_unit, f)
    → WaitsAfter t (failed_at t.sequence.output (current_history t.sequence) c.last_unit f 0).events t'
    → HasOutcome t (closed_in t.sequence.output (phase_of t.sequence (Running (Some c)))) t'
fails t t' c f w e stops =
    let s = t.sequence in
    let o = opened_as s c.decoder w.last w.earlier in
    rw (opened_phase s c w, e, history_is o (current_history s) (stands_as s c w)) (stops_at _ refl stops.0 stops.1 stops.2)

-- ---- without a fault in the slices a picture ends by its macroblocks alone

full_alone : (o : Option (ℕ × Fault)) (full : Bool) → o ≡ None → fault_at_end o full ≡ None → full ≡ true
full_alone None true none e = refl
full_alone None false none e = cc
full_alone (Some found) full none e = cc

short_alone : (o : Option (ℕ × Fault)) (full : Bool) (f : Fault) → o ≡ None → fault_at_end o full ≡ Some f → (full ≡ false) × (f ≡ MissingMacroblocks)
short_alone None true f none e = cc
short_alone None false f none e = (refl, cc)
short_alone (Some found) full f none e = cc

-- macroblocks are missing
pub closes_short : (t t' : Stream) (c : CurrentPicture) {f : Fault} → IsOpenIn t.sequence c → IsFinishAnswer c.decoder (Err f)
    → WaitsAfter t (failed_at t.sequence.output (current_history t.sequence) c.last_unit f 0).events t'
    → HasOutcome t (closed_in t.sequence.output (phase_of t.sequence (Running (Some c)))) t'
closes_short t t' c {f} w answer stops =
    let s = t.sequence in
    let o = opened_as s c.decoder w.last w.earlier in
    let h = current_history s in
    let start = start_on o h in
    let g = progress_on o h in
    let well = well_at s c w in
    let ends = on_open s c w (λ x. fault_at_end x.fault (is_full start x) ≡ Some f) answer in
    let short = short_alone g.fault (is_full start g) f well ends in
    fails t t' c f w (not_full o h (stands_as s c w) well short.0 ∙ rw (w.unit, short.1) refl) stops

-- it was finished, and the sequence says what comes of it
finished : (s : SequenceState) (c : CurrentPicture) (w : IsOpenIn s c) (planes : PaddedPlanes 16) (r : Result History Fault)
    → IsFinishAnswer c.decoder (Ok planes)
    → history_after_closing (c.decoder).sps (oldest w.last w.earlier).header (oldest w.last w.earlier).unit (padded_planes_of planes) (current_history s) ≡ r
    → let o = opened_as s c.decoder w.last w.earlier in closing_result o ≡ at_last_slice o r
finished s c w planes r answer closes =
    let o = opened_as s c.decoder w.last w.earlier in
    let h = current_history s in
    let start = start_on o h in
    let g = progress_on o h in
    let well = well_at s c w in
    let ends = on_open s c w (λ x. fault_at_end x.fault (is_full start x) ≡ None) answer.0 in
    let made = on_open s c w (λ x. padded_planes_of planes ≡ deblocked (coded_of start x)) answer.1 in
    closes_by o h r (stands_as s c w) well (full_alone g.fault (is_full start g) well ends)
    (ap (λ ps. history_after_closing o.sps (first_header o) (first_slice o).unit ps h) (sym made) ∙ closes)

pub closes_done : {s s' : SequenceState} {q q' : QueueState} {n : ℕ} {table : List SetUnit} (c : CurrentPicture)
    (planes : PaddedPlanes 16) (shared : Planes) (out : List Decoded) → IsOpenIn s c → IsFinishAnswer c.decoder (Ok planes)
    → shared ≡ padded_planes_of planes
    → ((p : OpenPictureStart) → s.open_picture ≡ Some p → IsClosed s p shared out s')
    → q' ≡ with_events (pictures out) q
    → ComesTo s.output q n table (closed_in s.output (phase_of s (Running (Some c)))) s' (Running None) q' n table
closes_done {s} {s'} {q} {q'} {n} {table} c planes shared out w answer same closed eq =
    let o = opened_as s c.decoder w.last w.earlier in
    let k = rw same at (closed _ w.open_picture) in
    let stands = sym (history_is o (current_history s) (stands_as s c w)) in
    rw (opened_phase s c w, finished s c w planes (Ok s'.history) answer k.closes) (record {
      works = record {
        stands = record {
          on = ap (λ (t : SequenceState). t.failed) k.state;
          none = ap (λ (t : SequenceState). t.open_picture) k.state;
        };
        named = tt;
      };
      phase = refl;
      output_is = ap (λ (t : SequenceState). t.output) k.state;
      queue = eq ∙ ap (λ ps. with_events (pictures ps) q)
          (k.pictures ∙ ap (λ h. output_at_closing s.output (first_header o) h s'.history) stands);
      count = refl;
      sets = refl;
    })

-- it could not be marked
pub closes_unmarked : (t t' : Stream) (between : SequenceState) (c : CurrentPicture) (planes : PaddedPlanes 16) (shared : Planes) {f : Fault}
    {e : PictureError} → IsOpenIn t.sequence c → IsFinishAnswer c.decoder (Ok planes)
    → shared ≡ padded_planes_of planes
    → ((p : OpenPictureStart) → t.sequence.open_picture ≡ Some p
    → Fails t.sequence (history_after_closing p.sps p.header p.unit shared (current_history t.sequence)) e between) → e ≡ Faulty f
    → WaitsAfter (record t { sequence = between }) (failed_at between.output (current_history between) c.last_unit f 0).events t'
    → HasOutcome t (closed_in t.sequence.output (phase_of t.sequence (Running (Some c)))) t'
closes_unmarked t t' between c planes shared {f} w answer same refuses is stops =
    let s = t.sequence in
    let k : (s.failed ≡ false) × (between ≡ s) × (history_after_closing (c.decoder).sps
    (oldest w.last w.earlier).header (oldest w.last w.earlier).unit (padded_planes_of planes) (current_history s) ≡ Err f) = rw (is, same) at (refuses _ w.open_picture) in
    fails t t' c f w (finished s c w planes (Err f) answer k.2 ∙ rw w.unit refl) (rw k.1 at stops)

-- the planes have the size of the picture that is open
pub sized_as : (s : SequenceState) (c : CurrentPicture) (planes : Planes) → IsOpenIn s c
    → AreSized (width_in_mbs (c.decoder).sps) (height_in_mbs (c.decoder).sps) planes
    → (o : OpenPictureStart) → s.open_picture ≡ Some o → AreSizedAs o planes
sized_as s c planes w sized o e = subst (λ p. AreSizedAs p planes) (some_is _ o (sym w.open_picture ∙ e)) sized

-- ---- what one slice more comes to: a slice of a picture that is open

-- what it gives, by the first fault, where the picture stands on this history
slice_is : (output : Output) (before after : History) (already : ℕ) (o : OpenPicture) (f : Option (ℕ × Fault)) → Stands o after
    → first_fault o false ≡ f
    → with_slice output before already o ≡ slice_outcome output f before o after (read_of o - already)
slice_is output before after already o f st e =
    ap (λ x. slice_outcome output x before o (history_of o) (read_of o - already)) e
    ∙ ap (λ h. slice_outcome output f before o h (read_of o - already)) (history_is o after st)

-- The picture with this slice and these before it is open in the sequence; the slice was not decoded.
record Awaits (s : SequenceState) (c : CurrentPicture) (slice : Slice) (earlier : List Slice) : Type 0 where
  on : s.failed ≡ false
  slices : (c.decoder).slices ≡ earlier
  open_picture : s.open_picture ≡ Some (open_picture_start (c.decoder).sps (oldest slice earlier))
  first : ((oldest slice earlier).header).first_mb_in_slice ≡ 0
  stands : history_at_opening (c.decoder).sps (oldest slice earlier).header s.history ≡ Ok (current_history s)

-- What goes out before it and at a fault is that of the history `before`.
slice_comes : (s : SequenceState) (before : History) (already : ℕ) (c : CurrentPicture) (slice : Slice) (earlier : List Slice)
    (q q1 : QueueState) {q' : QueueState} (n n' : ℕ) (table : List SetUnit) {s' : SequenceState} (p' : PhaseHere)
    → Awaits s c slice earlier → IsNamed (sets_after table) (with_last slice c) → Decodes c slice s q1 p' s' q'
    → n' ≡ more_read n (read_of_slice (current_history s) c.decoder slice)
    → read_of_slice (current_history s) c.decoder slice ≡ read_of (opened_as s c.decoder slice earlier) - already
    → q1 ≡ with_events (pictures (output_pictures s.output before (current_history s))) q
    → ((f : Fault) → with_events (failed_at s.output (current_history s) slice.unit f 0).events q1
    ≡ with_events (failed_at s.output before slice.unit f 0).events q)
    → ComesTo s.output q n table (with_slice s.output before already (opened_as s c.decoder slice earlier)) s' p' q' n' table
slice_comes s before already c slice earlier q q1 n n' table (Running (Some c')) a named k counts read released held =
    let o = opened_as s c.decoder slice earlier in
    let h = current_history s in
    let st : Stands o h = record { first = a.first; stands = a.stands } in
    let open' : IsOpenIn s (with_last slice c) = record {
      last = slice;
      earlier = earlier;
      on = a.on;
      slices = ap (λ ss. slice ∷ ss) a.slices;
      header = refl;
      unit = refl;
      frames = subst (λ (x : CurrentPicture). HasItsFrames s slice.header x.decoder) k.0 k.1;
      well = subst (λ (x : CurrentPicture). HasNoFault x.decoder) k.0 k.2;
      open_picture = a.open_picture;
      first = a.first;
      stands = a.stands;
    } in
    let none = no_fault o h st (well_at s (with_last slice c) open') in
    rw (k.0, k.3, k.4, slice_is s.output before h already o None st none) (record {
      works = record { stands = open'; named = named };
      phase = opened_phase s (with_last slice c) open';
      output_is = refl;
      queue = released;
      count = counts ∙ ap (more_read n) read;
      sets = refl;
    })
slice_comes s before already c slice earlier q q1 n n' table (Running None) a named k counts read released held = absurd k
slice_comes s before already c slice earlier q q1 n n' table Waiting a named k counts read released held =
    let o = opened_as s c.decoder slice earlier in
    let h = current_history s in
    let st : Stands o h = record { first = a.first; stands = a.stands } in
    let fault = ap (λ ss. (progress (start_with (stored_frames h) c.decoder) (slice ∷ ss)).fault) (sym a.slices) ∙ k.1 in
    let found = slice_fault o h false (slice.unit, k.0) st fault in
    rw (k.2, k.3, slice_is s.output before h already o (Some (slice.unit, k.0)) st found)
    (stops_at _ refl (record { sequence = refl; phase = refl; queue = held k.0 }) (counts ∙ ap (more_read n) read) refl)

-- ---- a further slice

-- nothing goes out where the history stays
no_more_output : (output : Output) (h : History) (q : QueueState) → q ≡ with_events (pictures (output_pictures output h h)) q
no_more_output output h q =
    sym (ap (λ out. with_events (pictures (pictures_at h out)) q) (drop-length (buffer_of output h).out)
    ∙ ap (λ es. record q { events = es }) (append-nil q.events))

-- what one slice more adds to what was read
read_further : (s : SequenceState) (c : CurrentPicture) (slice : Slice) (w : IsOpenIn s c)
    → read_of_slice (current_history s) c.decoder slice
    ≡ read_of (opened_as s c.decoder slice (w.last ∷ w.earlier)) - read_of (opened_as s c.decoder w.last w.earlier)
read_further s c slice w =
    let h = current_history s in
    let read_at : List Slice → ℕ = λ ss. (progress (start_with (stored_frames h) c.decoder) ss).read in
    ap (λ ss. read_at (slice ∷ ss) - read_at ss) w.slices
    ∙ ap₂ (λ m n. m - n)
    (sym (read_is (opened_as s c.decoder slice (w.last ∷ w.earlier)) h (record { first = w.first; stands = w.stands })))
    (sym (read_is (opened_as s c.decoder w.last w.earlier) h (stands_as s c w)))

-- nothing has come of it
pub nothing_comes : (s : SequenceState) (q : QueueState) (n : ℕ) (table : List SetUnit) (p : PhaseHere)
    → Works (sets_after table) s p → ComesTo s.output q n table (no_change (phase_of s p)) s p q n table
nothing_comes s q n table p w = record {
  works = w;
  phase = refl;
  output_is = refl;
  queue = sym (ap (λ es. record q { events = es }) (append-nil q.events));
  count = refl;
  sets = refl;
}

-- of the open picture, if there is one
pub next_slice_comes : (s s' : SequenceState) (q q' : QueueState) (n n' : ℕ) (table table' : List SetUnit)
    (slice : Slice) (p p' : PhaseHere) → Works (sets_after table) s p
    → IfSome (current_in p) (λ c. IsNamed (sets_after table) (with_last slice c)) → DecodesAs p slice s q n p' s' q' n'
    → table' ≡ table
    → ComesTo s.output q n table (after_next_slice s.output (phase_of s p) slice) s' p' q' n' table'
next_slice_comes s s' q q' n n' table table' slice (Running (Some c)) p' w named k same =
    let open' = w.stands in
    let h = current_history s in
    let o = opened_as s c.decoder open'.last open'.earlier in
    let awaits : Awaits s c slice (open'.last ∷ open'.earlier) = record {
      on = open'.on;
      slices = open'.slices;
      open_picture = open'.open_picture;
      first = open'.first;
      stands = open'.stands;
    } in
    rw (same, opened_phase s c open', history_is o h (stands_as s c open'))
    (slice_comes s h (read_of o) c slice (open'.last ∷ open'.earlier) q q n n' table p' awaits named k.0 k.1
    (read_further s c slice open') (no_more_output s.output h q) (λ f. refl))
next_slice_comes s s' q q' n n' table table' slice p p' w named k same = rw (same, k.0, k.1, k.2, k.3) (nothing_comes s q n table p w)

-- ---- the first slice

-- a picture with its first slice
abbrev pub begun_with_slice : Sps → Pps → List (Frame 16) → Slice → CurrentPicture
begun_with_slice sps pps frames slice = record {
  decoder = with_slice_more slice
      (no_slice_yet sps pps frames);
  last_header = slice.header;
  last_unit = slice.unit;
}

-- what the missing numbers let out, and what was held then
together : MissingNumbersKeepTheOrder → (output : Output) (sps : Sps) (slice : Slice) (h full : History) (unit : ℕ) (f : Fault) (q : QueueState) → history_at_opening sps slice.header h ≡ Ok full
    → with_events (failed_at output full unit f 0).events (with_events (pictures (output_pictures output h full)) q) ≡ with_events (failed_at output h unit f 0).events q
together law output sps slice h full unit f q e =
    let held = ap pictures (law output sps slice.header h full e) ∙ map-append (λ p. Picture p) (output_pictures output h full) (held_pictures output full) in
    let refusal = Refused unit f ∷ [] in
    ap (λ es. record q { events = es })
    (append_assoc q.events (pictures (output_pictures output h full)) (pictures (held_pictures output full) ++ refusal)
    ∙ ap (λ es. q.events ++ es) (sym (append_assoc (pictures (output_pictures output h full)) (pictures (held_pictures output full)) refusal))
    ∙ ap (λ es. q.events ++ (es ++ refusal)) (sym held))

-- it could not be opened
pub first_unopened : (t t' : Stream) (between : SequenceState) (sps : Sps) (pps : Pps) (slice : Slice) (h : History) {f : Fault}
    {e : PictureError} → h ≡ t.sequence.history → t.sequence.open_picture ≡ None → (slice.header).first_mb_in_slice ≡ 0
    → Fails t.sequence (history_at_opening sps slice.header t.sequence.history) e between → e ≡ Faulty f
    → WaitsAfter (record t { sequence = between }) (failed_at between.output (current_history between) slice.unit f 0).events t'
    → sets_named (sets_after t.table) slice.header ≡ Some (pps, sps)
    → HasOutcome t (after_first_slice t.sequence.output (sets_named (sets_after t.table) slice.header) h slice) t'
first_unopened t t' between sps pps slice h {f} base none first fails is stops names =
    let s = t.sequence in
    let o : OpenPicture = record { before = s.history; sps = sps; pps = pps; last = slice; earlier = [] } in
    let k : (s.failed ≡ false) × (between ≡ s) × (history_at_opening sps slice.header s.history ≡ Err f) = rw is
    at fails in
    let closed : current_history s ≡ s.history = rw none refl in
    let w : WaitsAfter t (failed_at s.output s.history slice.unit f 0).events t' = rw (k.1, closed) at stops in
    let faulty : with_slice s.output s.history 0 o ≡ failed_at s.output s.history slice.unit f 0 =
    ap₂ (λ x n. slice_outcome s.output x s.history o (history_of o) (n - 0)) (unopened o f false first k.2) (unopened_read o f first k.2) in
    rw (names, base, faulty) (stops_at _ refl w.0 w.1 w.2)

pub first_slice_more : MissingNumbersKeepTheOrder → (s s1 s' : SequenceState) (q q1 q' : QueueState) (n n' : ℕ)
    (table table' : List SetUnit) (sps : Sps) (pps : Pps) (frames : List (Frame 16)) (slice : Slice)
    (out : List Decoded) (h : History) (c : CurrentPicture) (p' : PhaseHere)
    → h ≡ s.history → (slice.header).first_mb_in_slice ≡ 0 → IsOpened s (open_picture_start sps slice) out s1
    → q1 ≡ with_events (pictures out) q → c.decoder ≡ no_slice_yet sps pps frames → Decodes c slice s1 q1 p' s' q'
    → n' ≡ more_read n (read_of_slice (current_history s1) c.decoder slice) → table' ≡ table
    → sets_named (sets_after table) slice.header ≡ Some (pps, sps)
    → IsNamed (sets_after table) (begun_with_slice sps pps frames slice)
    → ComesTo s.output q n table (after_first_slice s.output (sets_named (sets_after table) slice.header) h slice) s'
    p' q' n' table'
first_slice_more law s s1 s' q q1 q' n n' table table' sps pps frames slice out h c p' base first i eq ed k er same names
    named =
    let opened = with_open_picture (open_picture_start sps slice) s1.frames s in
    let begun : CurrentPicture = record c { decoder = no_slice_yet sps pps frames } in
    let o = opened_as opened begun.decoder slice [] in
    let full = current_history opened in
    let stands : history_at_opening sps slice.header s.history ≡ Ok full = rw i.state at i.stands in
    let awaits : Awaits opened begun slice [] =
    record { on = i.going; slices = refl; open_picture = refl; first = first; stands = stands } in
    rw (same, names, base)
    (slice_comes opened s.history 0 begun slice [] q (with_events (pictures (output_pictures s.output s.history full)) q) n n' table p'
    awaits named (rw (eq, i.pictures, i.state, ed) at k) (rw (i.state, ed) at er)
    (ap (λ m. m - 0) (sym (read_is o full (record { first = first; stands = stands })))) refl
    (λ f. together law s.output sps slice s.history full slice.unit f q stands))

-- ---- what one slice more is answered in the open picture

read_more : (s : SequenceState) (c c' : CurrentPicture) (slice : Slice) (a : SliceAnswer) (n n' : ℕ)
    → CanHave s c.decoder slice → HasAnswered c slice a c'
    → c'.decoder ≡ record c.decoder { slices = slice ∷ (c.decoder).slices }
    → n' ≡ more_read n a.read → n' ≡ more_read n (read_of_slice (current_history s) c.decoder slice)
read_more s c c' slice a n n' can is e counts =
    let r = is.read in
    counts ∙ ap (more_read n) (slice_read s c.decoder c'.decoder slice r.before r.after a.read can e r.has_before
    r.has_after r.more)

last_is : (c : CurrentPicture) (d : Decoding 16) (h : Header) (unit : ℕ) → c.decoder ≡ d → c.last_header ≡ h
    → c.last_unit ≡ unit → c ≡ record { decoder = d; last_header = h; last_unit = unit }
last_is c d h unit a b e = rw (← a, ← b, ← e) refl

pub answered_well : (s : SequenceState) (q : QueueState) (slice : Slice) (a : SliceAnswer) (p p' : PhaseHere)
    (n n' : ℕ) → IfSome (current_in p) (λ c. CanHave s c.decoder slice)
    → IsAnswerIn p slice a p' → a.answer ≡ Ok tt → n' ≡ more_read n a.read → DecodesAs p slice s q n p' s q n'
answered_well s q slice a (Running (Some c)) (Running (Some c')) n n' can is e counts =
    let answer = subst (λ x. IsSliceAnswer c.decoder slice x c'.decoder) e is.answer in
    let frames : HasItsFrames s slice.header c'.decoder = subst (HasItsFrames s slice.header) (sym answer.0)
    (with_one_more s c.decoder slice can) in
    let last = last_is c' _ slice.header slice.unit answer.0 is.header is.unit in
    ((last, frames, answer.1, refl, refl), read_more s c c' slice a n n' can is answer.0 counts)
answered_well s q slice a (Running (Some c)) _ n n' can is e counts = absurd is
answered_well s q slice a _ p' n n' can is e counts = (is.0, refl, refl, counts ∙ ap (more_read n) is.2)

pub answered_faulty : (s s' : SequenceState) (q q' : QueueState) (slice : Slice) (a : SliceAnswer)
    (p between p' : PhaseHere) (n n' : ℕ) (f : Fault) → IfSome (current_in p) (λ c. CanHave s c.decoder slice)
    → IfSome (current_in p) (λ c. HasNoFault c.decoder) → IsAnswerIn p slice a between → a.answer ≡ Err f
    → Stops s.output q (failed_at s.output (current_history s) slice.unit f 0).events s' p' q'
    → n' ≡ more_read n a.read → DecodesAs p slice s q n p' s' q' n'
answered_faulty s s' q q' slice a (Running (Some c)) (Running (Some c')) p' n n' f can well is e stops counts =
    let answer = subst (λ x. IsSliceAnswer c.decoder slice x c'.decoder) e is.answer in
    let refuses = subst (λ d. Refuses c.decoder slice f d) answer.0 answer.1 in
    rw stops.phase (
      (f, refused s c.decoder slice f can well refuses, stops.sequence, stops.queue),
      read_more s c c' slice a n n' can is answer.0 counts,
    )
answered_faulty s s' q q' slice a (Running (Some c)) _ p' n n' f can well is e stops counts = absurd is
answered_faulty s s' q q' slice a _ between p' n n' f can well is e stops counts =
    let wrong : ◌≡◌ {A = Result (Prim.Unit {0}) Fault} (Ok tt) (Err f) = sym is.1 ∙ e in
    cc
