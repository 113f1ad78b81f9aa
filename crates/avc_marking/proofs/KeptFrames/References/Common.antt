-- The names that the proofs cite of std, of the crates below and of the definitions here, passed on from one place. Declares nothing.
pub use Rattle.std.proofs.Common.{◌≡◌, ℕ, zero, suc, ◌<◌, Bool, not, List, [], ◌∷◌, ◌++◌, length, map, refl, ap, arith, append-nil, ◌+◌, true, false, Option}
pub use Rattle.std.proofs.Common.{Some, Ok, ◌&&◌, length-append, None, ◌-◌, ◌≤◌, ◌%◌, drop, slice_get, sym, ◌∙◌, nat_lt, inl, inr, ◌||◌, All, Result, Err, take, rules}
pub use Rattle.std.proofs.Math.Nat.{mod-mod, mod-add-mod, mod-eq_of_lt, mod-lt, div-add-mod, add-mod_right}
pub use Rattle.std.proofs.lemmas.Bool.{and_parts, cases_lt, eq-eqb, ne_eqb, or_left, or_right}
pub use Rattle.std.proofs.lemmas.Bool.Decides.{nat_tests}
pub use Rattle.std.proofs.lemmas.Int.{ints}
pub use Rattle.std.proofs.lemmas.List.{drop_all, take_all, get_or_append_left, length-set, get_or_at}
pub use Rattle.std.proofs.lemmas.List.Elements.{filter-append, All-head, All-tail, All-nil, filter_agree}
pub use Rattle.std.proofs.lemmas.List.Folds.{list_any-append}
pub use Rattle.std.proofs.lemmas.List.Kept.{AllPairs-from_increasing}
pub use Rattle.std.proofs.lemmas.List.Sums.{length-filter, count_by-le-length}
pub use Rattle.std.proofs.lemmas.Nat.{mod-mul-add, mod_below}
pub use Rattle.std.proofs.lemmas.Result.{err_from_is_err_and}
pub use Rattle.std.specs.List.{filter, refill, list_any}
pub use Rattle.std.specs.List.Sorted.{IsStrictlyIncreasing}
pub use Rattle.std.specs.Option.{option_map}
pub use Rattle.std.specs.Prelude.{slice_index, slice_index_or, slice_set, is_some, ◌==◌, if◌then◌else◌, int_lt, pos, ℤ, ◌+ℤ◌, ◌≤ℤ◌, IfSome, ◌⊎◌, ◌*◌, ◌/◌}
pub use Rattle.std.specs.Result.{is_ok}
pub use Rattle.avc_types.proofs.Frames.{rising_rest, below_rest, placed_behind, placed_here, references_with, references_without}
pub use Rattle.avc_types.specs.References.{Reference, StandAt, reference_of, references_at, reference_at, no_frame, is_marked, is_short, placed_by, pic_num_of}
pub use Rattle.avc_types.specs.References.{sorted_by, has_long_term_frame_idx}
pub use Rattle.avc_types.specs.Results.{◌>>=◌}
pub use Rattle.avc_types.specs.declared.current_frame_num.CurrentFrameNum.{CurrentFrameNum}
pub use Rattle.avc_types.specs.declared.fault.Fault.{Fault}
pub use Rattle.avc_types.specs.declared.marked_frame.MarkedFrame.{MarkedFrame}
pub use Rattle.avc_types.specs.declared.references.Mark.{Mark}
pub use Rattle.avc_types.specs.declared.references.Mark.TheVariants.{Short, Long}
pub use Rattle.avc_types.specs.declared.references.Marking.{Marking}
pub use Rattle.avc_types.specs.declared.references.Marking.TheVariants.{Idr, SlidingWindow, Adaptive}
pub use Rattle.avc_types.specs.declared.references.Operation.{Operation}
pub use Rattle.avc_types.specs.declared.references.Operation.TheVariants.{UnmarkShortTerm, UnmarkLongTerm, UnmarkAll, AssignLongTerm, MaxLongTermFrameIdx}
pub use Rattle.avc_types.specs.declared.references.Operation.TheVariants.{CurrentToLongTerm}
pub use Rattle.avc_marking.specs.Frames.{unmarked, unmarked_if, indices_with, StandWith, StandBefore, is_to_unmark, marking_entry, marks_at, operation_state}
pub use Rattle.avc_marking.specs.Frames.{first_in_window_of}
pub use Rattle.avc_marking.specs.Laws.{StandBelow, StandFrom, CountFrom, WindowTakesTheFirst, IsSameFrame, IsPartUpToMarks, AddsOwnFrameAlone, unmarks_all}
pub use Rattle.avc_marking.specs.Laws.{LeavesOwnFrameAlone, SlidesAgain, StaysLimited, IsLimited}
pub use Rattle.avc_marking.specs.Marks.{without_frame, OperationState, is_index_allowed, without_long_term_frame_idx, MarkingEntry, with_other_mark}
pub use Rattle.avc_marking.specs.Marks.{with_long_term, frame_with_pic_num_x, after_operation, after_operations, current_frame, with_current_frame}
pub use Rattle.avc_marking.specs.Marks.{frame_num_after_marking, marks_after, frame_nums_from, first_in_window, precedes_in_window, Marks, refuse_unless}
pub use Rattle.avc_marking.specs.Marks.{with_mark, after_sliding_window, with_references, long_term_current, with_long_term_current, is_unmark_all}
pub use Rattle.avc_marking.specs.Marks.{within_limit, before_operations, limit_of, marks, missing_frame_nums, prev_ref_frame_num, missing_frame_entry}
pub use Rattle.avc_marking.specs.declared.frame.FramesToUnmark.{FramesToUnmark}
pub use Rattle.avc_marking.specs.declared.frame.FramesToUnmark.TheVariants.{Index, From, Every}
pub use Rattle.avc_marking.specs.declared.frame.NewFrame.{NewFrame}
