-- The names that the proofs cite of std, of the crates below and of the definitions here, passed on from one place. Declares nothing.
pub use Rattle.std.proofs.Common.{◌≡◌, ℕ, zero, suc, ◌+◌, ◌<◌, ◌&&◌, ◌||◌, if◌then◌else◌, ℤ, int_lt, Bool, true, false, cond, List, [], ◌∷◌, map, slice_get}
pub use Rattle.std.proofs.Common.{slice_set, Option, Some, None, refl, sym, ap, ap₂, ◌∙◌, subst, arith, eq-eqb, length, ◌++◌, drop, ◌-◌, ◌≤◌, get_or, IfSome}
pub use Rattle.std.proofs.Common.{Result, OnErr, take, slice_set as set, append-nil, append_assoc, ◌==◌, ◌≤ℤ◌, ◌<ℤ◌, not, nat_le, ◌≢◌, pos, negsuc, ◌⊎◌, inl}
pub use Rattle.std.proofs.Common.{inr, get_or as slice_index_or, length-set, rules}
pub use Rattle.std.proofs.lemmas.Bool.{le-ltb, ne_eqb, or_left, leb-false, or_parts, or_from, leb-true, or_right, false_from_ne_true, or_cases, and_parts}
pub use Rattle.std.proofs.lemmas.Bool.{and_from, le-leb, lt-ltb, and_right}
pub use Rattle.std.proofs.lemmas.Bool.Decides.{nat_tests}
pub use Rattle.std.proofs.lemmas.Int.{ints}
pub use Rattle.std.proofs.lemmas.List.{at_drop_more, take-append-le, take-take, take_at, drop_at, take_all, drop_all, length-take-le, get_or_append_left}
pub use Rattle.std.proofs.lemmas.List.{get_or-take, length-map, length_push, map-append, nil_from_length, map-set, length-append, get_or_default}
pub use Rattle.std.proofs.lemmas.List.Elements.{filter-append, filter_map-append}
pub use Rattle.std.proofs.lemmas.List.Sums.{length-filter, count_by-le-length}
pub use Rattle.std.proofs.lemmas.Option.{none-some, same_Some, slice_get-map}
pub use Rattle.std.specs.Int.Signed.{lt_z_yes, lt_z_no, ≤ℤ_refl}
pub use Rattle.std.specs.List.{filter, remove, refill, list_any, filter_map, fold, list_all}
pub use Rattle.std.specs.Option.{option_map}
pub use Rattle.std.specs.Prelude.{count_by, nat_lt}
pub use Rattle.avc_plane.specs.declared.frame.Frame.{Frame}
pub use Rattle.avc_types.specs.Arithmetic.{◌==ℤ◌ as same_number}
pub use Rattle.avc_types.specs.References.{sorted_by, placed_by}
pub use Rattle.avc_types.specs.declared.picture.Picture.{Picture}
pub use Rattle.avc_dpb.specs.Bumping.{Stored, precedes_in_output, needed_in_output_order, Buffer, is_reference_in, needed_frames, after_bumping, Arrival}
pub use Rattle.avc_dpb.specs.Bumping.{after_bumping_while, with_direct_output, with_frame, with_frame_placed, is_full, PriorPictures, remain, are_output}
pub use Rattle.avc_dpb.specs.Bumping.{after_making_room, after_prior_pictures, must_bump, after_placing, holds_too_many, after_reordering, after_frame}
pub use Rattle.avc_dpb.specs.Bumping.{after_entry, new_output, buffer_after, is_first, are_too_many, with_all_output}
pub use Rattle.avc_dpb.specs.Contents.{IsRising, slot_of, changed_at, Contents, IsBuffer, IsReferenceAmong, Stores, OutputsAll, OutputsSome, arrival_of}
pub use Rattle.avc_dpb.specs.Contents.{changed_at as slot_changed_at, with_mark}
pub use Rattle.avc_dpb.specs.Laws.{StandsInDecodingOrder, AllHeldGoOut, OutOnlyGrows, GoesOutInTurn, HoldsAtMost, needed_in_order, MissingFramesKeepTheOrder}
pub use Rattle.avc_dpb.specs.Laws.{occurrences, pictures, GoesOutOnce, IsNextOutput, LeastGoesOut, AllGoOutByBumping, indices_of_references, HasRoom}
pub use Rattle.avc_dpb.specs.Laws.{ReferencesStay, MissingFramesFindRoom}
pub use Rattle.avc_dpb.specs.Places.{first_of_two, first_output_from, are_needed, chosen, goes_on, no_longer_needed as slot_let_go}
pub use Rattle.avc_dpb.specs.Reordering.{indices_after, reordered, whole_output, last_emptying, limit_after, references_after, CanGoOutEarly, AllCanGoOutEarly}
pub use Rattle.avc_dpb.specs.Reordering.{EarlyOutputKeepsTheOrder}
pub use Rattle.avc_dpb.specs.Steps.{StandFor, Become, ShowsFirst, goes_on_in, BumpsWhile, ShowsWhile, PlacesFrame}
pub use Rattle.avc_dpb.specs.StoredFrame.{is_used_for_reference, shown_frame}
pub use Rattle.avc_dpb.specs.declared.arriving_frame.ArrivingFrame.{ArrivingFrame}
pub use Rattle.avc_dpb.specs.declared.output.Output.{Output}
pub use Rattle.avc_dpb.specs.declared.output.Output.TheVariants.{Full, Early}
pub use Rattle.avc_dpb.specs.declared.waiting.Slot.{Slot}
pub use Rattle.avc_dpb.specs.declared.waiting.Bumping.{Bumping}
pub use Rattle.avc_dpb.specs.declared.waiting.Bumping.TheVariants.{ForRoom, ForFew, ForNone}
