-- The names that the proofs cite of std, of the crates below and of the definitions here, passed on from one place. Declares nothing.
pub use Rattle.std.proofs.Common.{ℕ, zero, suc, ◌+◌, ◌<◌, Bool, List, [], ◌∷◌, ◌++◌, length, map, arith, ◌≡◌, false, ◌||◌, None, is_some, refl, ap₂, ◌∙◌, ◌==◌}
pub use Rattle.std.proofs.Common.{Option, Some, ap, sym, true, Result, Ok, subst, length-append, if◌then◌else◌, ◌≤◌, take, slice_get, ◌%◌, append-nil}
pub use Rattle.std.proofs.Common.{append_assoc, ◌&&◌, Err, not, cond, ◌≢◌, IfErr, ℤ, pos, drop, length-drop, ◌-◌, ◌⊎◌, inl, inr, nat_le, nat_lt, to_z, of_z}
pub use Rattle.std.proofs.Common.{w32, rules, OnOk}
pub use Rattle.std.proofs.Math.Nat.{add-mod_right}
pub use Rattle.std.proofs.Math.Seq.{drop-append_seam, drop-length, drop-append-add}
pub use Rattle.std.proofs.lemmas.Bool.{and_parts, eqb-true, false≢true}
pub use Rattle.std.proofs.lemmas.Bool.Decides.{nat_tests}
pub use Rattle.std.proofs.lemmas.Grind.{flat_map-append}
pub use Rattle.std.proofs.lemmas.List.{length-map, map-append, append_cancel_right}
pub use Rattle.std.proofs.lemmas.List.Elements.{All-nil, All-cons, All-head, All-tail, filter-append, filter_map-append}
pub use Rattle.std.proofs.lemmas.List.Sums.{length-filter, sum_by-cons}
pub use Rattle.std.proofs.lemmas.Option.{slice_get-map, none-some, same_Some}
pub use Rattle.std.proofs.lemmas.Simd.{map-map}
pub use Rattle.std.specs.Int.{int_min}
pub use Rattle.std.specs.List.{filter, list_any, cons_option, filter_map}
pub use Rattle.std.specs.List.Sorted.{IsStrictlyIncreasing}
pub use Rattle.std.specs.Option.{option_map, option_eq}
pub use Rattle.std.specs.Prelude.{slice_index, All, slice_index_or, IfSome, count_by, max}
pub use Rattle.std.specs.Result.{is_ok}
pub use Rattle.avc_dpb.proofs.EarlyOrder.Standing.BumpingTimes.{out_only_grows, goes_out_in_turn, all_held_go_out, holds_at_most, stands_in_decoding_order}
pub use Rattle.avc_dpb.proofs.EarlyOrder.Standing.BumpingTimes.{missing_frames_find_room, missing_frames_keep_the_order, goes_out_once, references_stay}
pub use Rattle.avc_dpb.proofs.EarlyOrder.Standing.BumpingTimes.NextOutput.{on_err}
pub use Rattle.avc_dpb.specs.Bumping.{Stored, is_reference_in, Buffer, Arrival, PriorPictures, remain, are_output, needed_frames, no_longer_needed}
pub use Rattle.avc_dpb.specs.Bumping.{after_bumping, after_bumping_while, after_making_room, must_bump, with_frame, with_direct_output, is_full, after_placing}
pub use Rattle.avc_dpb.specs.Bumping.{holds_too_many, after_frame, after_prior_pictures, new_output as bumped_output, empty_buffer, after_entry}
pub use Rattle.avc_dpb.specs.Contents.{IsRising, Contents, IsBuffer, changed_at, with_mark, slot_of, HasBuffer, arrival_of, OutputsAll, OutputsSome}
pub use Rattle.avc_dpb.specs.Laws.{occurrences, pictures, HasRoom, indices_of_references, missing_arrival, missing_stored, IsWithin}
pub use Rattle.avc_dpb.specs.Reordering.{references_after, last_emptying, limit_after, indices_after, reordered, AllCanGoOutEarly, CanGoOutEarly}
pub use Rattle.avc_dpb.specs.Reordering.{EarlyOutputKeepsTheOrder}
pub use Rattle.avc_dpb.specs.StoredFrame.{shown_frame}
pub use Rattle.avc_dpb.specs.declared.arriving_frame.ArrivingFrame.{ArrivingFrame}
pub use Rattle.avc_dpb.specs.declared.output.Output.{Output}
pub use Rattle.avc_marking.proofs.KeptFrames.References.{window_takes_the_first, numbers-mod}
pub use Rattle.avc_marking.proofs.KeptFrames.{adds_own_frame_alone, leaves_own_frame_alone, slides_again, stays-with_max_long_term_frame_idx}
pub use Rattle.avc_marking.specs.Frames.{MarksFrame, StandBefore, marks_at, or_fault, CountsReferences}
pub use Rattle.avc_marking.specs.Laws.{IsSameFrame, IsPartUpToMarks, unmarks_all, CountFrom, StandBelow, StandFrom, AddsOwnFrameAlone}
pub use Rattle.avc_marking.specs.Marks.{Marks, current_frame, marks_after, frame_nums_from, MarkingEntry, is_unmark_all, limit_of, no_marks, prev_ref_frame_num}
pub use Rattle.avc_marking.specs.Marks.{frame_num_after_marking, after_sliding_window}
pub use Rattle.avc_params.specs.Limits.{dpb_size, max_frame_num, reference_limit, width_in_mbs, height_in_mbs}
pub use Rattle.avc_params.specs.Same.{same_sps, same_restriction, same_vui}
pub use Rattle.avc_params.specs.Within.{IsSps}
pub use Rattle.avc_params.specs.declared.sps.Sps.{Sps}
pub use Rattle.avc_params.specs.declared.vui.Restriction.{Restriction}
pub use Rattle.avc_params.specs.declared.vui.Vui.{Vui}
pub use Rattle.avc_plane.specs.Frames.{marked_frame, stored_at, stored_frame, AreSized, AreFrames}
pub use Rattle.avc_plane.specs.Planes.{Planes}
pub use Rattle.avc_plane.specs.declared.frame.Frame.{Frame}
pub use Rattle.avc_poc.specs.OrderCountState.{OrderCountState, order_count_state, count_pair, pair, with_missing_from}
pub use Rattle.avc_poc.specs.OrderCounts.{order_counts, Counts, picture}
pub use Rattle.avc_slice.specs.Header.{has_idr_marking, is_unmark_all as is_operation_5, is_idr, is_reference, has_operation_5}
pub use Rattle.avc_slice.specs.declared.header.Header.{Header}
pub use Rattle.avc_types.specs.References.{Reference, reference_of, references_at, is_short, result_map}
pub use Rattle.avc_types.specs.Results.{◌>>=◌}
pub use Rattle.avc_types.specs.declared.fault.Fault.{Fault}
pub use Rattle.avc_types.specs.declared.marked_frame.MarkedFrame.{MarkedFrame}
pub use Rattle.avc_types.specs.declared.picture.Picture.{Picture}
pub use Rattle.avc_types.specs.declared.picture_error.PictureError.{PictureError}
pub use Rattle.avc_types.specs.PictureInfos.{no_picture_info}
pub use Rattle.avc_types.specs.declared.picture_info.PictureInfo.{PictureInfo}
pub use Rattle.avc_types.specs.declared.picture_error.PictureError.TheVariants.{Fault as Faulty, OutOfMemory as NoMemory}
pub use Rattle.avc_types.specs.declared.references.Mark.{Mark}
pub use Rattle.avc_types.specs.declared.references.Mark.TheVariants.{Short}
pub use Rattle.avc_types.specs.declared.references.Marking.{Marking}
pub use Rattle.avc_types.specs.declared.references.Marking.TheVariants.{SlidingWindow}
pub use Rattle.avc_types.specs.declared.references.Operation.{Operation}
pub use Rattle.avc_decoder_core.specs.FrameBufferFields.{Each, with_marks, IsStateAfter, indices_in, with_all_marks, IsSizedAt, history_of, OutputsPrior}
pub use Rattle.avc_decoder_core.specs.FrameBufferFields.{IsFrameBufferState}
pub use Rattle.avc_decoder_core.specs.FrameBufferState.{CanFollow, FrameBufferState, Refuses, BeginsSequence, at_sequence_of, empty_frame_buffer}
pub use Rattle.avc_decoder_core.specs.Frames.{mark_in, frame_of, frame_at, coded_frame}
pub use Rattle.avc_decoder_core.specs.Gaps.{AreBefore, AreNotNeeded, IsLongGap, has_its_place, is_staying, settles_at, IsSettled, Staying, missing_reference}
pub use Rattle.avc_decoder_core.specs.Gaps.{missing_references, stored_missing, LongGapsLeaveTheirEnd, KeepsTheSame}
pub use Rattle.avc_decoder_core.specs.History.{Entry, History, entry_at, planes_in, stored, buffer_of, marks_of, arrival, arrivals, new_output, all_held}
pub use Rattle.avc_decoder_core.specs.History.{is_same_sps, prior_pictures_of, decoded_picture, missing_frame, sequence_sps, marking_entries, or_no_references}
pub use Rattle.avc_decoder_core.specs.History.{order_or_0, pasts, picture_entry, reorder_limit, earlier_in_sequence, history_at_opening, with_missing}
pub use Rattle.avc_decoder_core.specs.History.{with_order_counts, references_of, history_after_closing, info_of, info_with, with_picture}
pub use Rattle.avc_decoder_core.specs.Laws.{MissingNumbersKeepTheOrder}
pub use Rattle.avc_decoder_core.specs.Opening.{counts_over, missing_before, opening_on, with_all_missing, Finds, StoresAll, set_with, IsOpening}
pub use Rattle.avc_decoder_core.specs.Pictures.{entry_pictures, pictures_at, output_pictures, held_pictures, output_at_closing}
pub use Rattle.avc_decoder_core.specs.SequenceFields.{IsStateOf, StandsOn, StandsOnIf, counted, open_picture_of, IsSequenceState, sequence_state}
pub use Rattle.avc_decoder_core.specs.SequenceOrder.{CanCome, EachCanCome, EachIsWithin, NewestIsWithin, EarlyOutputKeepsHistories}
pub use Rattle.avc_decoder_core.specs.SequenceState.{AreFramesIn, AreStoredIn, OpenPictureStart, SequenceState, current_history, IsClosed}
pub use Rattle.avc_decoder_core.specs.declared.frame_buffer.FrameBuffer.TheInside.{Inside as FrameBuffer}
pub use Rattle.avc_decoder_core.specs.declared.history_entry.HistoryEntry.{HistoryEntry}
pub use Rattle.avc_decoder_core.specs.declared.opening.OpenPicture.{OpenPicture}
pub use Rattle.avc_decoder_core.specs.declared.opening.Opening.{Opening}
pub use Rattle.avc_decoder_core.specs.declared.sequence.Sequence.TheInside.{Inside}
