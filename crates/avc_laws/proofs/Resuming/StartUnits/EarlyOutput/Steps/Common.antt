-- The names that the proofs cite of std, of the crates below and of the definitions here, passed on from one place. Declares nothing.
pub use Rattle.std.proofs.Common.{ap, sym, subst, ◌∙◌, ap₂, arith, append-nil, append_assoc, drop}
pub use Rattle.std.proofs.Common.{length-append, get_or, rules}
pub use Rattle.std.proofs.Math.Seq.{drop-append_seam, take-append_seam}
pub use Rattle.std.proofs.lemmas.Bool.{eqb-true, not-true, false≢true}
pub use Rattle.std.proofs.lemmas.Grind.{flat_map-append}
pub use Rattle.std.proofs.lemmas.List.{map-append, drop-map, length-map, take-append-drop, take-map, take-append-le}
pub use Rattle.std.proofs.lemmas.List.Elements.{All-cons, All-take, All-nil, All-head, All-tail, All-append, All-weaker}
pub use Rattle.std.proofs.lemmas.List.Folds.{list_all-append}
pub use Rattle.std.proofs.lemmas.Option.{slice_get-get_or, slice_get_within}
pub use Rattle.std.specs.Cmp.{first_so, second_so}
pub use Rattle.std.specs.List.{list_all}
pub use Rattle.std.specs.Option.{option_map}
pub use Rattle.std.specs.Prelude.{◌≡◌, ℕ, ◌+◌, ◌/◌, ◌%◌, Bool, true, false, not, ◌==◌, ◌&&◌, ◌||◌, nat_lt, List, Option, Some, None, Result, Ok, Err, is_some}
pub use Rattle.std.specs.Prelude.{refl, if◌then◌else◌, zero, suc, [], map, All, ◌-◌, ◌∷◌, ◌++◌, ◌<◌, length, ◌≤◌, slice_get}
pub use Rattle.std.specs.Prelude.{take, flat_map, ◌*◌, IsTrue}
pub use Rattle.std.specs.Result.{is_ok}
pub use Rattle.avc_annexb.specs.Laws.{UnitsStay, IsUnitOf, UnitsAreNumbered, WrittenUnitsStand, contents}
pub use Rattle.avc_annexb.specs.Units.{forbidden_zero_bit, nal_unit_type, units}
pub use Rattle.avc_annexb.specs.Written.{start_code, written}
pub use Rattle.avc_annexb.specs.declared.unit.Unit.{Unit as Piece, Unit}
pub use Rattle.avc_bits.specs.Bits.{Bits, check, start, where_set}
pub use Rattle.avc_bits.specs.Codes.{ue, ue_to}
pub use Rattle.avc_decoder_core.proofs.Sequences.MissingNumbers.{ok_same, opened_by, set_at_opening, opened_idr}
pub use Rattle.avc_decoder_core.proofs.Sequences.MissingNumbers.Entries.{Extends, extends_itself, extends_more, nothing_goes_out, output_more, pictures_stay}
pub use Rattle.avc_decoder_core.proofs.Sequences.MissingNumbers.Entries.{all_indices_below}
pub use Rattle.avc_decoder_core.specs.History.{History, history_at_opening, is_same_sps, stored_frames, history_after_closing, buffer_of, Entry, all_held}
pub use Rattle.avc_decoder_core.specs.History.{arrival, arrivals, decoded_picture, earlier_in_sequence, entry_at, marks_of, missing_frame, new_output}
pub use Rattle.avc_decoder_core.specs.History.{with_missing, info_of, pasts}
pub use Rattle.avc_decoder_core.specs.Pictures.{output_pictures, output_at_closing, held_pictures, pictures_at, entry_pictures, no_output_of_prior_pics}
pub use Rattle.avc_decoder_core.specs.SequenceOrder.{CanCome, EachCanCome, output_order, EarlyOutputKeepsHistories}
pub use Rattle.avc_dpb.proofs.EarlyOrder.Standing.BumpingTimes.{out_only_grows}
pub use Rattle.avc_dpb.specs.declared.output.Output.{Output}
pub use Rattle.avc_dpb.specs.declared.output.Output.TheVariants.{Full, Early}
pub use Rattle.avc_marking.specs.Marks.{Marks}
pub use Rattle.avc_mbsyntax.specs.SliceData.{SliceMbs}
pub use Rattle.avc_params.specs.Limits.{size_in_mbs}
pub use Rattle.avc_params.specs.Tables.{Sets, sets_after}
pub use Rattle.avc_params.specs.declared.pps.Pps.{Pps}
pub use Rattle.avc_params.specs.declared.set_unit.SetUnit.{SetUnit}
pub use Rattle.avc_params.specs.declared.sps.Sps.{Sps}
pub use Rattle.avc_picture.proofs.Slices.Contexts.{progress-other, planes-other}
pub use Rattle.avc_picture.specs.Decoded.{deblocked}
pub use Rattle.avc_picture.specs.Slices.{is_full, Progress, progress, coded_of, PictureStart, read_whole, with_first_fault, with_reference_list}
pub use Rattle.avc_picture.specs.Slices.{with_slice as with_slice_read, with_unit}
pub use Rattle.avc_plane.specs.Planes.{Planes}
pub use Rattle.avc_poc.specs.OrderCounts.{Counts, order_counts}
pub use Rattle.avc_slice.specs.Begins.{begins}
pub use Rattle.avc_slice.specs.Header.{is_idr, is_p_type, has_idr_marking, is_p}
pub use Rattle.avc_slice.specs.Laws.{KeepsIdrRules}
pub use Rattle.avc_slice.specs.Reading.{back, filtering, found, front, header_in_rbsp, header_of, list_part, marking, numbers, slice_type_of}
pub use Rattle.avc_slice.specs.Reading.{value_or_fault}
pub use Rattle.avc_slice.specs.declared.header.Header.{Header}
pub use Rattle.avc_slice.specs.declared.parts.Front.{Front}
pub use Rattle.avc_slice.specs.declared.slice.Slice.{Slice}
pub use Rattle.avc_types.specs.Pictures.{SliceInfo}
pub use Rattle.avc_types.specs.References.{Reference}
pub use Rattle.avc_types.specs.declared.fault.Fault.{Fault}
pub use Rattle.avc_types.specs.declared.fault.Fault.TheVariants.{MissingMacroblocks, DataPartition}
pub use Rattle.avc_types.specs.declared.picture.Picture.{Picture as Decoded}
pub use Rattle.avc_types.specs.declared.references.Marking.{Marking}
pub use Rattle.avc_types.specs.declared.references.Marking.TheVariants.{Adaptive, Idr, SlidingWindow}
pub use Rattle.avc_units.specs.Grouping.{is_start, reads_zero, rbsp_of, slice_in, with_header, OpenPictureFacts, Kind, kind, partition, running_step, set_fault}
pub use Rattle.avc_units.specs.Grouping.{set_units, refusal_of, ends_picture, slice_step, step, unreadable, waiting_step, kind_of, readable, set_unit}
pub use Rattle.avc_units.specs.Laws.{IsSetOf, SetsAreInForceAgain, SetsComeAlike, SetsInForceAreFew, SetsInForceAreUnits}
pub use Rattle.avc_units.specs.Resuming.{resumed, sets_in_force}
pub use Rattle.avc_units.specs.declared.step.Next.{Next}
pub use Rattle.avc_units.specs.declared.step.Next.TheVariants.{Begins, Continues, Refusal, Nothing, FaultOfOpen, FaultOfOwn}
pub use Rattle.avc_units.specs.declared.step.Step.{Step}
pub use Rattle.avc_decoder.proofs.Events.Steps.OpenPictures.{named_is, either, if_either, history_by, fault_by, unless_found, slice_outcome, unless_silent}
pub use Rattle.avc_decoder.proofs.Events.Steps.{has_closed, closing_is, BringsNext, brings_step, same_kind}
pub use Rattle.avc_decoder.proofs.Events.{drop_some, events-append}
pub use Rattle.avc_decoder.specs.Events.{sets_named, Outcome, Phase, failed_at, followed_by, pictures, closing_result, at_last_slice, closed_outcome}
pub use Rattle.avc_decoder.specs.Events.{waiting, after_first_slice, after_next_slice, no_change, with_slice, base_in, is_running, open_facts_in, State}
pub use Rattle.avc_decoder.specs.Events.{after_closing, after_next, after_unit, at_end, held_after, in_phase, is_waiting, state_after, events_from, first_state}
pub use Rattle.avc_decoder.specs.Events.{events, state_through, history_in, pictures_in, refusals_in, closed_picture, events_and_held, open_picture_facts}
pub use Rattle.avc_decoder.specs.FirstFault.{OpenPicture, closed_history, progress_on, start_on, first_header, first_slice, history_at_opening_of, first_fault}
pub use Rattle.avc_decoder.specs.FirstFault.{history_of, read_of, oldest, picture_planes, slices_of}
pub use Rattle.avc_decoder.specs.PictureFrames.{IsISlice}
pub use Rattle.avc_decoder.specs.SeenEvents.{Event}
pub use Rattle.avc_decoder.specs.declared.event.Event.TheVariants.{Picture, Refused}
pub use Rattle.avc_laws.specs.EarlyOutput.{EndedSequence, IsNotDropped, IsReorderedWithin, sequences, ended_by_closing, ended_sequence, stopped}
pub use Rattle.avc_laws.specs.EarlyOutput.{EarlyOutputKeepsPictures, ended_at_closing, ended_by_unit, phase_after_closing, sequences_from}
pub use Rattle.avc_laws.specs.Laws.{renumbered, is_picture, StartUnitsBeginAnew, CanStart, HaveOwnNumbers}
pub use Rattle.avc_laws.specs.Laws.{StartsAnew, closing_events, EventsKeepButNumbers, renumbered_event}
