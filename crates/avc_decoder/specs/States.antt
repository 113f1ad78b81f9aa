-- What the decoder's parts keep.
use Rattle.std.specs.Prelude.{◌≡◌, ℕ, zero, suc, ◌+◌, ◌-◌, ◌≤◌, Bool, true, false, not, List, []}
use Rattle.std.specs.Prelude.{◌∷◌, ◌++◌, length, take, drop, Option, Some, None, IfOk, IfSome}
use Rattle.std.specs.Prelude.{Result, Ok, Err, slice_get}
use Rattle.std.specs.Option.{option_map}
use Rattle.avc_types.specs.declared.fault.Fault.{Fault}
use Rattle.avc_types.specs.declared.memory.OutOfMemory.{OutOfMemory}
use Rattle.avc_annexb.specs.SplitterState.{SplitterState, new_splitter}
use Rattle.avc_annexb.specs.Units.{units, units_begun, saturated}
use Rattle.avc_annexb.specs.declared.unit.Unit.{Unit as Piece}
use Rattle.avc_params.specs.Tables.{Sets, sets_after}
use Rattle.avc_params.specs.declared.set_unit.SetUnit.{SetUnit}
use Rattle.avc_params.specs.declared.sps.Sps.{Sps}
use Rattle.avc_params.specs.declared.pps.Pps.{Pps}
use Rattle.avc_slice.specs.Begins.{begins}
use Rattle.avc_slice.specs.declared.header.Header.{Header}
use Rattle.avc_slice.specs.declared.slice.Slice.{Slice}
use Rattle.avc_plane.specs.Spare.{Spare, most_closed}
use Rattle.avc_picture.specs.Decoding.{Decoding, HasNoFault, HasRead, IsFull, IsSliceAnswer}
use Rattle.avc_picture.specs.Decoding.{with_slice_more}
use Rattle.avc_units.specs.GrouperState.{IfSlice, IsSliceUnder, open_picture_of}
use Rattle.avc_units.specs.Grouping.{set_units, step}
use Rattle.avc_units.specs.declared.step.Next.{Next}
use Rattle.avc_units.specs.declared.step.Next.TheVariants.{Begins, Continues}
use Rattle.avc_units.specs.declared.step.Step.{Step}
use Rattle.avc_dpb.specs.declared.output.Output.{Output}
use Rattle.avc_decoder_core.specs.History.{History, history_at_opening}
use Rattle.avc_decoder_core.specs.SequenceState.{OpenPictureStart, SequenceState, empty_sequence}
use Rattle.avc_decoder_core.specs.SequenceState.{current_history}
use Rattle.avc_decoder.specs.FirstFault.{OpenPicture, oldest}
use Rattle.avc_decoder.specs.QueueState.{QueueState, after_queue_take, with_events}
use Rattle.avc_decoder.specs.PictureFrames.{HasItsFrames, IsRefused, read_of_slice}
use Rattle.avc_decoder.specs.Events.{Phase, waiting, running, State, first_state, Outcome}
use Rattle.avc_decoder.specs.Events.{no_change, failed_at}
use Rattle.avc_decoder.specs.Events.{closed_picture, after_unit, state_after, state_through, events}
use Rattle.avc_decoder.specs.Events.{turns, at_end}
use Rattle.avc_decoder.specs.Machine.{Machine, IsCount, IsUpToUnit}
use Rattle.avc_decoder.specs.SeenEvents.{Event}
use Rattle.avc_decoder.specs.declared.parts.Fed.{Fed}
use Rattle.avc_decoder.specs.declared.parts.Parts.{Parts}
use Rattle.avc_decoder.specs.declared.phase.CurrentPicture.{CurrentPicture}
use Rattle.avc_decoder.specs.declared.phase.Phase.{Phase as PhaseHere}
use Rattle.avc_decoder.specs.declared.phase.Phase.TheVariants.{Waiting, Running}
use Rattle.avc_decoder.specs.declared.slices.SliceAnswer.{SliceAnswer}
use Rattle.avc_decoder.specs.declared.stream.Stream.{Stream}

-- ---- the phase

-- the open picture, if there is one
abbrev pub current_in : PhaseHere → Option CurrentPicture
current_in Waiting = None
current_in (Running current) = current

-- decoding waits
abbrev pub is_waiting_in : PhaseHere → Bool
is_waiting_in Waiting = true
is_waiting_in (Running current) = false

-- the header of the open picture's last slice
abbrev pub last_header_in : PhaseHere → Option Header
last_header_in phase = option_map (λ c. c.last_header) (current_in phase)

-- the same with no picture open
abbrev pub without_picture : PhaseHere → PhaseHere
without_picture Waiting = Waiting
without_picture (Running current) = Running None

-- the open picture of these slices, the newest first
abbrev pub open_picture_from : History → Sps → Pps → List Slice → Option OpenPicture
open_picture_from h sps pps [] = None
open_picture_from h sps pps (s ∷ earlier) = Some (record {
  before = h;
  sps = sps;
  pps = pps;
  last = s;
  earlier = earlier;
})

-- what decoding waits for, or goes on with, for which this phase stands beside this sequence
abbrev pub phase_of : SequenceState → PhaseHere → Phase
phase_of s Waiting = waiting
phase_of s (Running None) = running s.history None
phase_of s (Running (Some c)) =
    running s.history (open_picture_from s.history (c.decoder).sps (c.decoder).pps
    (c.decoder).slices)

-- the parameter set of the open picture, and its first slice's header and unit
abbrev pub open_picture_start : Sps → (first : Slice) → OpenPictureStart
open_picture_start sps first = record { sps = sps; header = first.header; unit = first.unit }

-- A picture is open in the sequence, and its slices so far have no fault; the last one has this
-- header and this unit.
pub record IsOpenIn (s : SequenceState) (c : CurrentPicture) : Type 0 where
  pub last : Slice
  pub earlier : List Slice
  pub on : s.failed ≡ false
  pub slices : (c.decoder).slices ≡ last ∷ earlier
  pub header : c.last_header ≡ last.header
  pub unit : c.last_unit ≡ last.unit
  pub frames : HasItsFrames s last.header c.decoder
  pub well : HasNoFault c.decoder
  pub open_picture : s.open_picture
      ≡ Some (open_picture_start (c.decoder).sps (oldest last earlier))
  pub first : ((oldest last earlier).header).first_mb_in_slice ≡ 0
  pub stands : history_at_opening (c.decoder).sps (oldest last earlier).header s.history
      ≡ Ok (current_history s)

-- No picture is open in the sequence.
pub record IsClosedIn (s : SequenceState) : Type 0 where
  pub on : s.failed ≡ false
  pub none : s.open_picture ≡ None

-- The sequence has the picture open that the phase has. Where decoding waits, there is no history.
abbrev pub IsPhase : SequenceState → PhaseHere → Type 0
IsPhase s Waiting = IsClosedIn s × (s.history ≡ [])
IsPhase s (Running None) = IsClosedIn s
IsPhase s (Running (Some c)) = IsOpenIn s c

-- The open picture's parameter sets are those that its last slice names.
pub record IsNamed (sets : Sets) (c : CurrentPicture) : Type 0 where
  pub pps : sets.pps (c.last_header).pic_parameter_set_id ≡ Some (c.decoder).pps
  pub sps : sets.sps ((c.decoder).pps).seq_parameter_set_id ≡ Some (c.decoder).sps

-- ---- what a unit does

-- Between two units: the sequence has the phase's picture open, which is named by its last slice
-- under the sets in force.
pub record Works (sets : Sets) (s : SequenceState) (phase : PhaseHere) : Type 0 where
  pub stands : IsPhase s phase
  pub named : IfSome (current_in phase) (IsNamed sets)

-- it stands between two units
abbrev pub IsStream : Stream → Type 0
IsStream s = Works (sets_after s.table) s.sequence s.phase

-- 1 where there is one
abbrev pub one_if_any : {A : Type 0} → Option A → ℕ
one_if_any None = 0
one_if_any (Some it) = 1

-- how many planes are left over, closed and open ones
abbrev pub planes_left_over : Spare → ℕ
planes_left_over s = length s.closed + one_if_any s.open_planes

-- how many frames there is memory of: the stored ones, the open picture, and what is left over
abbrev pub frames_in : Stream → ℕ
frames_in s =
    length (s.sequence).frames + one_if_any (current_in s.phase)
    + planes_left_over (s.memory).planes

-- There are never more: 16 that are stored (A.3.1), the open picture, and what is left over.
abbrev pub most_frames : ℕ
most_frames = 16 + 1 + (most_closed + 1)

-- so many macroblocks and more, as far as a u64 counts
abbrev pub more_read : (before more : ℕ) → ℕ
more_read before zero = before
more_read before (suc more) = saturated (before + suc more)

-- What these stood for has come to this outcome. When pictures go out is as it was, and so are the
-- parameter sets.
pub record ComesTo (output : Output) (q : QueueState) (read : ℕ) (table : List SetUnit)
    (o : Outcome)
    (s' : SequenceState) (phase' : PhaseHere) (q' : QueueState) (read' : ℕ) (table' : List SetUnit)
    : Type 0 where
  pub works : Works (sets_after table') s' phase'
  pub phase : phase_of s' phase' ≡ o.phase
  pub output_is : s'.output ≡ output
  pub queue : q' ≡ with_events o.events q
  pub count : read' ≡ more_read read o.read
  pub sets : table' ≡ table

-- the stream has
abbrev pub HasOutcome : Stream → Outcome → Stream → Type 0
HasOutcome old o new =
    ComesTo (old.sequence).output old.queue old.read old.table o new.sequence new.phase new.queue
    new.read new.table

-- The history is forgotten after these events, and decoding waits.
pub record Stops (output : Output) (q : QueueState) (more : List Event) (s' : SequenceState)
    (phase' : PhaseHere)
    (q' : QueueState) : Type 0 where
  pub sequence : s' ≡ empty_sequence output
  pub phase : phase' ≡ Waiting
  pub queue : q' ≡ with_events more q

-- the stream's is
abbrev pub WaitsAfter : Stream → List Event → Stream → Type 0
WaitsAfter old more new =
    Stops (old.sequence).output old.queue more new.sequence new.phase new.queue ×
    (new.read ≡ old.read) ×
    (new.table ≡ old.table)

-- what closing the open picture gives, if there is one
abbrev pub closed_in : Output → Phase → Outcome
closed_in output waiting = no_change waiting
closed_in output (running h None) = no_change (running h None)
closed_in output (running h (Some o)) = closed_picture output o

-- The unit does this in the phase, and the table has what the unit puts into it; a slice leaves it
-- as it is, and its header was read under these sets.
pub record HasStep (table : List SetUnit) (phase : PhaseHere) (u : Piece) (what : Step)
    (table' : List SetUnit) : Type 0 where
  pub full : Bool
  pub is_full : IfSome (current_in phase) (λ c. IsFull full c.decoder)
  pub is : what
      ≡ step (sets_after table) (not (is_waiting_in phase))
      (open_picture_of full (last_header_in phase)) u
  pub put : table' ≡ table ++ set_units (u ∷ [])
  pub under : IfSlice what.next (IsSliceUnder (sets_after table'))
  pub same : IfSlice what.next (λ _. table' ≡ table)

-- What comes next can be carried out: a picture begins where none is open, and a further slice is
-- one of the open picture (7.4.1.2.4).
abbrev pub FitsPhase : Sets → PhaseHere → Next → Type 0
FitsPhase sets phase (Begins s) = IsSliceUnder sets s × (current_in phase ≡ None)
FitsPhase sets phase (Continues s) = IsSliceUnder sets s × IfSome (current_in phase)
    (λ c. begins c.last_header s.header ≡ false)
FitsPhase sets phase _ = Unit {0}

-- ---- slices

-- The picture decoder has read so many macroblocks more.
pub record HasReadMore (d d' : Decoding 16) (read : ℕ) : Type 0 where
  pub before : ℕ
  pub after : ℕ
  pub has_before : HasRead before d
  pub has_after : HasRead after d'
  pub more : read ≡ after - before

-- This is answered to one slice more, which is then the last one.
pub record HasAnswered (c : CurrentPicture) (slice : Slice) (a : SliceAnswer)
    (c' : CurrentPicture) : Type 0 where
  pub answer : IsSliceAnswer c.decoder slice a.answer c'.decoder
  pub read : HasReadMore c.decoder c'.decoder a.read
  pub header : c'.last_header ≡ slice.header
  pub unit : c'.last_unit ≡ slice.unit

-- What a slice is answered in the open picture; where none is open, nothing comes of it.
abbrev pub IsAnswerIn : PhaseHere → Slice → SliceAnswer → PhaseHere → Type 0
IsAnswerIn (Running (Some c)) slice a (Running (Some c')) = HasAnswered c slice a c'
IsAnswerIn (Running (Some c)) slice a phase' = ⊥
IsAnswerIn phase slice a phase' = (phase' ≡ phase) × (a.answer ≡ Ok tt) × (a.read ≡ 0)

-- the open picture with one slice more
abbrev pub with_last : Slice → CurrentPicture → CurrentPicture
with_last slice c = record {
  decoder = with_slice_more slice c.decoder;
  last_header = slice.header;
  last_unit = slice.unit;
}

-- One slice more was decoded, or its fault went out.
abbrev pub Decodes : CurrentPicture → Slice → SequenceState → QueueState → PhaseHere →
    SequenceState → QueueState
    → Type 0
Decodes c slice s q (Running (Some c')) s' q' =
    (c' ≡ with_last slice c) × HasItsFrames s slice.header c'.decoder × HasNoFault c'.decoder ×
    (s' ≡ s) × (q' ≡ q)
Decodes c slice s q (Running None) s' q' = ⊥
Decodes c slice s q Waiting s' q' =
    (f : Fault)
    × IsRefused (current_history s) (with_slice_more slice c.decoder) slice f
    × (s' ≡ empty_sequence s.output)
    × (q' ≡ with_events (failed_at s.output (current_history s) slice.unit f 0).events q)

-- It was a slice of the open picture, if there is one; where none is open, nothing comes of it.
abbrev pub DecodesAs : PhaseHere → Slice → SequenceState → QueueState → (read : ℕ) → PhaseHere →
    SequenceState
    → QueueState → (read' : ℕ) → Type 0
DecodesAs (Running (Some c)) slice s q read phase' s' q' read' =
    Decodes c slice s q phase' s' q' ×
    (read' ≡ more_read read (read_of_slice (current_history s) c.decoder slice))
DecodesAs phase slice s q read phase' s' q' read' =
    (phase' ≡ phase) × (s' ≡ s) × (q' ≡ q) × (read' ≡ read)

-- the same of a stream
abbrev pub DecodesIn : Stream → Slice → Stream → Type 0
DecodesIn old slice new =
    DecodesAs old.phase slice old.sequence old.queue old.read new.phase new.sequence new.queue
    new.read ×
    (new.table ≡ old.table)

-- ---- units

-- The units' state, the events so far, how many of them were taken, and how many macroblocks were
-- read, as far as a u64 counts.
pub record StreamState : Type 0 where
  pub state : State
  pub events : List Event
  pub taken : ℕ
  pub read : ℕ

-- before the first unit
abbrev pub new_stream : Output → StreamState
new_stream output = record { state = first_state output; events = []; taken = 0; read = 0 }

-- for what a stream stands
abbrev pub stream_state : Stream → StreamState
stream_state s = record {
  state = record {
    output = (s.sequence).output;
    sets = s.table;
    phase = phase_of s.sequence s.phase;
  };
  events = (s.queue).events;
  taken = (s.queue).taken;
  read = s.read;
}

-- its events as those of a queue
abbrev pub queue_in : StreamState → QueueState
queue_in f = record { events = f.events; taken = f.taken }

-- one unit more
abbrev pub after_unit_in_stream : Piece → StreamState → StreamState
after_unit_in_stream u f =
    let o = after_unit f.state u in
    record {
      state = state_after f.state u o;
      events = f.events ++ o.events;
      taken = f.taken;
      read = more_read f.read o.read;
    }

-- after these units, one after another
abbrev pub after_units_in_stream : List Piece → StreamState → StreamState
after_units_in_stream [] f = f
after_units_in_stream (u ∷ us) f = after_units_in_stream us (after_unit_in_stream u f)

-- at the end
abbrev pub after_stream_end : StreamState → StreamState
after_stream_end f = record {
  state = record { output = (f.state).output; sets = (f.state).sets; phase = waiting };
  events = f.events ++ at_end (f.state).output (f.state).phase;
  taken = f.taken;
  read = f.read;
}

-- ---- bytes

-- The units of s that were not taken were handled.
pub record HandlesAll (max : ℕ) (s s' : SplitterState) (f f' : StreamState) : Type 0 where
  pub splitter : s'
      ≡ record s { taken = s.taken + length (drop s.taken (units max s.bytes s.ended)) }
  pub stream : f' ≡ after_units_in_stream (drop s.taken (units max s.bytes s.ended)) f

-- All events were passed on to those that go out.
pub record ArePassedOn (q out : QueueState) : Type 0 where
  pub events : out.events ≡ q.events
  pub taken : q.taken ≡ length q.events

-- No memory was refused so far, and the stream goes on.
pub record IsWorking (max : ℕ) {P : Type 0} (p : Parts max P) : Type 0 where
  pub going : (p.splitter).failed ≡ false
  pub unended : (p.splitter).ended ≡ false
  pub stream : IsStream p.stream
  pub few : frames_in p.stream ≤ most_frames
  pub passed : ArePassedOn (p.stream).queue p.outgoing

-- at the start of a stream
pub record IsNew (max : ℕ) (output : Output) {P : Type 0} (p : Parts max P) : Type 0 where
  pub splitter : p.splitter ≡ new_splitter
  pub works : IsStream p.stream
  pub few : frames_in p.stream ≤ most_frames
  pub stream : stream_state p.stream ≡ new_stream output
  pub outgoing : p.outgoing ≡ record { events = []; taken = 0 }

-- All units of the bytes were handled.
pub record IsDecoded (output : Output) (max : ℕ) (s : SplitterState) (ended : Bool)
    (f : StreamState) : Type 0 where
  pub going : s.failed ≡ false
  pub ends : s.ended ≡ ended
  pub counted : s.taken ≡ length (units max s.bytes ended)
  pub state : ended ≡ false → f.state ≡ state_through (first_state output) (units max s.bytes false)
  pub events : f.events ≡ events output max s.bytes ended
  pub read : f.read ≡ turns output max s.bytes ended

-- Whichever stream these parts had decoded, they have decoded it with these bytes; no event was
-- taken.
pub record HaveDecoded (max : ℕ) {P : Type 0} (old : Parts max P) (bytes : List ℕ) (ended : Bool)
    (new : Parts max P) : Type 0 where
  pub works : IsStream new.stream
  pub few : frames_in new.stream ≤ most_frames
  pub passed : ArePassedOn (new.stream).queue new.outgoing
  pub taken : (new.outgoing).taken ≡ (old.outgoing).taken
  pub going : (new.splitter).failed ≡ false
  pub ends : (new.splitter).ended ≡ ended
  pub bytes_are : (new.splitter).bytes ≡ bytes
  pub decoded : (output : Output) →
      IsDecoded output max old.splitter false (stream_state old.stream) →
      IsDecoded output max new.splitter ended (stream_state new.stream)

-- A piece more was taken, and so many macroblocks have been read.
pub record Feeds (max : ℕ) {P : Type 0} (old : Parts max P) (piece : List ℕ) (read : ℕ)
    (new : Parts max P) : Type 0 where
  pub now : HaveDecoded max old ((old.splitter).bytes ++ piece) false new
  pub count : read ≡ (new.stream).read

-- Of these bytes those up to where a unit has ended were taken.
pub record FeedsUnit (max : ℕ) {P : Type 0} (old : Parts max P) (bytes : List ℕ) (fed : Fed)
    (new : Parts max P) : Type 0 where
  pub used : IsUpToUnit max (old.splitter).bytes bytes fed.used
  pub feeds : Feeds max old (take fed.used bytes) fed.read new

-- The end was taken, and so many macroblocks have been read.
pub record Ends (max : ℕ) {P : Type 0} (old : Parts max P) (read : ℕ)
    (new : Parts max P) : Type 0 where
  pub now : HaveDecoded max old (old.splitter).bytes true new
  pub count : read ≡ (new.stream).read

-- what a decoder has: its parts, or what a call was refused
abbrev pub PartsOrRefusal : (max : ℕ) → Type 0 → Type 0
PartsOrRefusal max P = Result (Parts max P) OutOfMemory

-- the same where there is a decoder that goes on
abbrev pub FeedsIn : (max : ℕ) → {P : Type 0} → PartsOrRefusal max P → (piece : List ℕ) →
    (read : ℕ) → PartsOrRefusal max P → Type 0
FeedsIn max (Ok old) piece read (Ok new) = Feeds max old piece read new
FeedsIn max old piece read new = ⊥

-- the same where there is a decoder that goes on
abbrev pub FeedsUnitIn : (max : ℕ) → {P : Type 0} → PartsOrRefusal max P → (bytes : List ℕ) → Fed →
    PartsOrRefusal max P → Type 0
FeedsUnitIn max (Ok old) bytes fed (Ok new) = FeedsUnit max old bytes fed new
FeedsUnitIn max old bytes fed new = ⊥

-- the same where there is a decoder that goes on
abbrev pub EndsIn : (max : ℕ) → {P : Type 0} → PartsOrRefusal max P → (read : ℕ) →
    PartsOrRefusal max P → Type 0
EndsIn max (Ok old) read (Ok new) = Ends max old read new
EndsIn max old read new = ⊥

-- how many units have begun, where there is a decoder that goes on
abbrev pub IsUnitCountIn : (max : ℕ) → {P : Type 0} → PartsOrRefusal max P → Result ℕ OutOfMemory →
    Type 0
IsUnitCountIn max (Ok p) (Ok count) =
    (p.splitter).failed ≡ false → count ≡ units_begun max (p.splitter).bytes
IsUnitCountIn max (Err refusal) (Err again) = Unit {0}
IsUnitCountIn max parts answer = ⊥

-- the event that comes next
abbrev pub next_event_in : (max : ℕ) → {P : Type 0} → PartsOrRefusal max P → Option Event
next_event_in max (Err refusal) = None
next_event_in max (Ok p) = slice_get (p.outgoing).events (p.outgoing).taken

-- after it was taken, if there was one
abbrev pub after_take_in : (max : ℕ) → {P : Type 0} → Option Event → PartsOrRefusal max P →
    PartsOrRefusal max P
after_take_in max event (Err refusal) = Err refusal
after_take_in max event (Ok p) = Ok (record p { outgoing = after_queue_take event p.outgoing })

-- Memory was not refused, and the parts have all of the machine. They have memory of few frames.
pub record AreParts (max : ℕ) (m : Machine) {P : Type 0} (p : Parts max P) : Type 0 where
  pub works : IsStream p.stream
  pub few : frames_in p.stream ≤ most_frames
  pub passed : ArePassedOn (p.stream).queue p.outgoing
  pub decoded : IsDecoded m.output max p.splitter m.ended (stream_state p.stream)
  pub bytes : (p.splitter).bytes ≡ m.bytes
  pub taken : (p.outgoing).taken ≡ m.taken

-- What a decoder keeps of the machine: the macroblocks that are counted, and as long as memory was
-- not refused, all of it.
pub record IsDecoderState (max : ℕ) (m : Machine) {P : Type 0} (running : PartsOrRefusal max P)
    (count : ℕ) : Type 0 where
  pub count_is : IsCount max m count
  pub parts : IfOk running (AreParts max m)
