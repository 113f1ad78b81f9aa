-- The names that the proofs cite of std, of the crates below and of the definitions here, passed on from one place. Declares nothing.
pub use Rattle.std.proofs.Common.{ap, sym, subst, ◌∙◌, ap₂, arith, append-nil, append_assoc, add_assoc, drop, add-one, add-zero, le_of_eq, le_trans}
pub use Rattle.std.proofs.Common.{length-append, rules}
pub use Rattle.std.proofs.Math.Bool.{and-true}
pub use Rattle.std.proofs.Math.Seq.{drop-length, drop-append_seam, take-add}
pub use Rattle.std.proofs.lemmas.Bool.{eqb-true, false≢true}
pub use Rattle.std.proofs.lemmas.Bool.Decides.{nat_tests}
pub use Rattle.std.proofs.lemmas.List.{map-append, take_more, length_push, length-drop, take_rest}
pub use Rattle.std.proofs.lemmas.List.Elements.{All-cons, All-nil}
pub use Rattle.std.specs.Cmp.{first_so, second_so}
pub use Rattle.std.specs.List.Sorted.{IsStrictlyIncreasing}
pub use Rattle.std.specs.Prelude.{◌≡◌, ℕ, ◌+◌, Bool, true, false, not, ◌==◌, ◌&&◌, List, Option, Some, None, Result, Ok, Err, is_some}
pub use Rattle.std.specs.Prelude.{refl, if◌then◌else◌, zero, suc, [], map, All, ◌-◌, IfSome, ◌∷◌, ◌++◌, ◌<◌, length, ◌≤◌, IfOk, is_err, slice_get}
pub use Rattle.std.specs.Prelude.{take, ◌*◌}
pub use Rattle.std.specs.Result.{is_ok}
pub use Rattle.avc_annexb.proofs.Written.{units_stay_first}
pub use Rattle.avc_annexb.specs.Laws.{UnitsStay}
pub use Rattle.avc_annexb.specs.SplitterState.{SplitterState, after_finish, next_unit_of, after_next_unit, units_waiting}
pub use Rattle.avc_annexb.specs.Units.{forbidden_zero_bit, units, saturated}
pub use Rattle.avc_annexb.specs.declared.unit.Unit.{Unit as Piece, Unit}
pub use Rattle.avc_decoder_core.proofs.Sequences.MissingNumbers.{ok_same, opened_by, set_at_opening}
pub use Rattle.avc_decoder_core.specs.History.{History, history_at_opening, is_same_sps, stored_frames, history_after_closing, buffer_of}
pub use Rattle.avc_decoder_core.specs.History.{marks_of, with_picture}
pub use Rattle.avc_decoder_core.specs.Laws.{MissingNumbersKeepTheOrder}
pub use Rattle.avc_decoder_core.specs.Pictures.{output_pictures, output_at_closing, held_pictures, pictures_at}
pub use Rattle.avc_decoder_core.specs.SequenceState.{AreFramesIn, AreStoredIn, IsOpened, SequenceState, current_history, AreSizedAs, Fails, IsClosed}
pub use Rattle.avc_decoder_core.specs.SequenceState.{OpenPictureStart, with_open_picture}
pub use Rattle.avc_dpb.specs.declared.output.Output.{Output}
pub use Rattle.avc_marking.specs.Marks.{Marks}
pub use Rattle.avc_params.specs.Limits.{height_in_mbs, width_in_mbs}
pub use Rattle.avc_params.specs.Same.{same_sps}
pub use Rattle.avc_params.specs.Tables.{Sets, sets_after, sps_in_force}
pub use Rattle.avc_params.specs.declared.pps.Pps.{Pps}
pub use Rattle.avc_params.specs.declared.set_unit.SetUnit.{SetUnit}
pub use Rattle.avc_params.specs.declared.sps.Sps.{Sps}
pub use Rattle.avc_picture.proofs.Slices.Contexts.{progress-other}
pub use Rattle.avc_picture.specs.Decoded.{deblocked}
pub use Rattle.avc_picture.specs.Decoding.{AreFramesOf, CanStandAt, Decoding, HasNoFault, HasRead, Refuses, progress_at, start_at, with_slice_more}
pub use Rattle.avc_picture.specs.Decoding.{IsFinishAnswer, fault_at_end, no_slice_yet, IsSliceAnswer, IsFull}
pub use Rattle.avc_picture.specs.Slices.{is_full, Progress, progress, coded_of}
pub use Rattle.avc_plane.specs.Frames.{AreFrames, marked_frame, stored_at, AreSized, padded_planes_of, subsampled_of_size}
pub use Rattle.avc_plane.specs.Planes.{Planes}
pub use Rattle.avc_plane.specs.Spare.{most_closed}
pub use Rattle.avc_plane.specs.declared.frame.Frame.{Frame}
pub use Rattle.avc_plane.specs.declared.frame.PaddedPlanes.{PaddedPlanes}
pub use Rattle.avc_slice.specs.Begins.{begins}
pub use Rattle.avc_slice.specs.Header.{is_idr}
pub use Rattle.avc_slice.specs.Within.{IsHeader}
pub use Rattle.avc_slice.specs.declared.header.Header.{Header}
pub use Rattle.avc_slice.specs.declared.slice.Slice.{Slice}
pub use Rattle.avc_types.specs.References.{StandAt}
pub use Rattle.avc_types.specs.declared.fault.Fault.{Fault}
pub use Rattle.avc_types.specs.declared.fault.Fault.TheVariants.{MissingMacroblocks, DataPartition, ForbiddenBit}
pub use Rattle.avc_types.specs.declared.memory.OutOfMemory.{OutOfMemory}
pub use Rattle.avc_types.specs.declared.picture.Picture.{Picture as Decoded}
pub use Rattle.avc_types.specs.declared.picture_error.PictureError.{PictureError}
pub use Rattle.avc_types.specs.declared.picture_error.PictureError.TheVariants.{Fault as Faulty}
pub use Rattle.avc_units.specs.GrouperState.{IsSliceUnder, open_picture_of, IfSlice}
pub use Rattle.avc_units.specs.Grouping.{is_start, rbsp_of, slice_in, OpenPictureFacts, Kind, kind, partition, running_step, set_fault}
pub use Rattle.avc_units.specs.Grouping.{set_units, refusal_of, ends_picture, slice_step, step, unreadable, waiting_step, set_of}
pub use Rattle.avc_units.specs.declared.step.Next.{Next}
pub use Rattle.avc_units.specs.declared.step.Next.TheVariants.{Begins, Continues, Refusal}
pub use Rattle.avc_units.specs.declared.step.Step.{Step}
pub use Rattle.avc_decoder.specs.Events.{sets_named, Outcome, Phase, failed_at, followed_by, pictures, closing_result, at_last_slice, closed_outcome}
pub use Rattle.avc_decoder.specs.Events.{waiting, after_first_slice, after_next_slice, no_change, with_slice, base_in, is_running, open_facts_in, State}
pub use Rattle.avc_decoder.specs.Events.{after_closing, after_next, after_unit, at_end, held_after, in_phase, is_waiting, state_after, events_from, first_state}
pub use Rattle.avc_decoder.specs.Events.{read_from, state_through, turns, events}
pub use Rattle.avc_decoder.specs.FirstFault.{OpenPicture, closed_history, progress_on, start_on, first_header, first_slice, history_at_opening_of, first_fault}
pub use Rattle.avc_decoder.specs.FirstFault.{history_of, read_of, oldest}
pub use Rattle.avc_decoder.specs.Laws.{EventsOnlyGrow, FramesAreBounded}
pub use Rattle.avc_decoder.specs.Machine.{Machine, IsFeedAnswer, IsUpToUnit, new_machine, Run, IsCallAnswer}
pub use Rattle.avc_decoder.specs.OpenPictures.{IsOpenPictureAnswer}
pub use Rattle.avc_decoder.specs.PictureFrames.{CanHave, HasItsFrames, IsISlice, frames_for, progress_on_history, read_of_slice, start_with}
pub use Rattle.avc_decoder.specs.QueueState.{QueueState, IsBehind, after_queue_take, passed_on, with_events}
pub use Rattle.avc_decoder.specs.States.{ComesTo, HasOutcome, IsOpenIn, Stops, WaitsAfter, closed_in, more_read, open_picture_from, phase_of, Decodes}
pub use Rattle.avc_decoder.specs.States.{DecodesAs, IsNamed, Works, current_in, HasAnswered, IsAnswerIn, with_last, IsPhase, is_waiting_in}
pub use Rattle.avc_decoder.specs.States.{last_header_in, FitsPhase, HasStep, StreamState, after_stream_end, after_unit_in_stream, stream_state, EndsIn, FeedsIn}
pub use Rattle.avc_decoder.specs.States.{HandlesAll, IsDecoded, IsDecoderState, after_units_in_stream, IsStream, queue_in, ArePassedOn, AreParts, IsWorking, HaveDecoded}
pub use Rattle.avc_decoder.specs.States.{Feeds, FeedsUnit, FeedsUnitIn, Ends, IsNew, PartsOrRefusal, open_picture_start, frames_in, most_frames, one_if_any}
pub use Rattle.avc_decoder.specs.declared.parts.Fed.{Fed}
pub use Rattle.avc_decoder.specs.declared.calls.Call.{Call}
pub use Rattle.avc_decoder.specs.declared.calls.Reply.{Reply}
pub use Rattle.avc_decoder.specs.declared.error.DecodeError.{DecodeError}
pub use Rattle.avc_decoder.specs.declared.error.DecodeError.TheVariants.{OutOfMemory as NoMemory}
pub use Rattle.avc_decoder.specs.SeenEvents.{Event, seen_event}
pub use Rattle.avc_decoder.specs.declared.event.Event.TheVariants.{Picture, Refused}
pub use Rattle.avc_decoder.specs.declared.parts.Parts.{Parts}
pub use Rattle.avc_decoder.specs.declared.phase.CurrentPicture.{CurrentPicture}
pub use Rattle.avc_decoder.specs.declared.phase.Phase.{Phase as PhaseHere}
pub use Rattle.avc_decoder.specs.declared.phase.Phase.TheVariants.{Running, Waiting}
pub use Rattle.avc_decoder.specs.declared.slices.SliceAnswer.{SliceAnswer}
pub use Rattle.avc_decoder.specs.declared.stream.Stream.{Stream}
