-- The names that the proofs cite of std, of the crates below and of the definitions here, passed on from one place. Declares nothing.
pub use Rattle.std.proofs.Common.{◌≡◌, ℕ, zero, suc, ◌<◌, ◌≤◌, nat_lt, Bool, true, false, not, cond, List, [], ◌∷◌, ◌++◌, length, get_or, take, drop}
pub use Rattle.std.proofs.Common.{map, refl, sym, ap, ◌∙◌, arith, get_or as slice_index_or, ◌+◌, ◌-◌, ◌⊎◌, inl, inr, replicate, Some, None, Result}
pub use Rattle.std.proofs.Common.{Ok, Err, append_assoc, below_more, rules}
pub use Rattle.std.proofs.lemmas.Bool.{cases_Bool, cases_lt, cases_order}
pub use Rattle.std.proofs.lemmas.Bool.Decides.{nat_tests}
pub use Rattle.std.proofs.lemmas.Grind.{common_steps}
pub use Rattle.std.proofs.lemmas.List.{map-append, take-map, drop-map, get_or-map, length-map, drop_more, length-take, take_all, take-take}
pub use Rattle.std.proofs.lemmas.List.{take-append-le, length-take-le}
pub use Rattle.std.proofs.lemmas.List.Elements.{All-append, All-take, All-drop, All-cons, All-head, All-tail, All-map, All-replicate, All-filter}
pub use Rattle.std.proofs.lemmas.List.Elements.{All-push, All-weaker, filter_passes}
pub use Rattle.std.proofs.lemmas.List.Kept.{AllPairs-from_increasing}
pub use Rattle.std.specs.List.{filter, insert, list_any}
pub use Rattle.std.specs.Option.{option_map}
pub use Rattle.std.specs.Prelude.{slice_index, All, IfSome, ◌==◌, ◌||◌, Option, is_some}
pub use Rattle.avc_types.proofs.Frames.{placed_behind, placed_here, references_without}
pub use Rattle.avc_types.specs.References.{Reference, StandAt, placed_by, sorted_by, is_short, is_long, long_term_frame_idx, has_greater_pic_num}
pub use Rattle.avc_types.specs.References.{result_map, reference_at, references_at, no_frame}
pub use Rattle.avc_types.specs.declared.current_frame_num.CurrentFrameNum.{CurrentFrameNum}
pub use Rattle.avc_types.specs.declared.fault.Fault.{Fault}
pub use Rattle.avc_types.specs.declared.marked_frame.MarkedFrame.{MarkedFrame}
pub use Rattle.avc_types.specs.declared.references.Mark.{Mark}
pub use Rattle.avc_types.specs.declared.references.Mark.TheVariants.{Short, Long}
pub use Rattle.avc_types.specs.declared.references.Modification.{Modification}
pub use Rattle.avc_types.specs.declared.references.Modification.TheVariants.{Subtract, LongTerm}
pub use Rattle.avc_reflist.specs.Lists.{initial_list, pic_num_no_wrap, existing_modification_frame, modification_frames, cons_result, is_in_list}
pub use Rattle.avc_reflist.specs.Lists.{entries, list_from, reference_list}
pub use Rattle.avc_reflist.specs.Order.{precedes_by_mark, precedes, is_not_in_list, PlacePrecedes}
