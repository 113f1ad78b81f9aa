-- The names that the proofs cite of std, of the crates below and of the definitions here, passed on from one place. Declares nothing.
pub use Rattle.std.proofs.Common.{◌≡◌, ℤ, pos, ◌+ℤ◌, ◌-ℤ◌, ◌*ℤ◌, ◌<ℤ◌, ◌≤ℤ◌, int_lt, int_le, true, false, ap, ap₂, ◌∙◌, arith, to_z, of_z, w64, ℕ, zero, inl, inr}
pub use Rattle.std.proofs.Common.{suc, ◌+◌, ◌<◌, negsuc, List, [], ◌∷◌, ◌++◌, length, length-drop, get_or, drop, take, refl, sym, ◌≤◌, ◌-◌, ◌*◌, ◌/◌, ◌%◌, ◌^◌}
pub use Rattle.std.proofs.Common.{◌==◌, neg_ℤ, Bool, ◌&&◌, if◌then◌else◌, Result, Ok, Err, subst, nat_lt, rules, w32, SFits}
pub use Rattle.std.proofs.Math.Nat.{add-mul, zero-mul, div-eq_of_lt, mod-eq_of_lt, mod-lt}
pub use Rattle.std.proofs.lemmas.Bool.{and_parts, cases_lt}
pub use Rattle.std.proofs.lemmas.Bool.Decides.{nat_tests}
pub use Rattle.std.proofs.lemmas.Int.{ints, unsigned_abs-mul, to_z-of_z, clamps}
pub use Rattle.std.proofs.lemmas.List.{drop_more, take-append-drop, take_rest}
pub use Rattle.std.proofs.lemmas.Nat.{mul-le, div-add-mod', div-mul-add, mod-mul-add, pow-add, pow_pos}
pub use Rattle.std.specs.Int.{int_min}
pub use Rattle.std.specs.Int.RustNames.{unsigned_abs}
pub use Rattle.std.specs.Prelude.{Some, None}
pub use Rattle.std.specs.Result.{IsErrAnd, is_ok}
pub use Rattle.avc_params.specs.Limits.{max_frame_num}
pub use Rattle.avc_params.specs.declared.sps.OrderCount.{OrderCount}
pub use Rattle.avc_params.specs.declared.sps.Sps.{Sps}
pub use Rattle.avc_slice.specs.Header.{has_operation_5, is_idr, is_reference}
pub use Rattle.avc_slice.specs.declared.header.CodedOrder.TheVariants.{Type0, Type1}
pub use Rattle.avc_slice.specs.declared.header.Header.{Header}
pub use Rattle.avc_slice.specs.declared.header.SliceType.TheVariants.{AllP, AllI}
pub use Rattle.avc_types.specs.declared.fault.Fault.{Fault}
pub use Rattle.avc_types.specs.declared.fault.Fault.TheVariants.{PocRange}
pub use Rattle.avc_types.specs.declared.references.Marking.TheVariants.{Idr, SlidingWindow, Adaptive}
pub use Rattle.avc_types.specs.declared.references.Operation.TheVariants.{UnmarkAll}
pub use mir.Syntax.{w128}
pub use Rattle.avc_poc.specs.Laws.{GapsCountAtOnce}
pub use Rattle.avc_poc.specs.OrderCountState.{IsNear, IsPrevious, count_pair, pair, OrderCountState, order_count_state, saturated, next_offset, picture_offset}
pub use Rattle.avc_poc.specs.OrderCountState.{after_picture, previous_after, counts_after, with_missing_from, after_missing_from, counts_of, raw_counts}
pub use Rattle.avc_poc.specs.OrderCounts.{msb_of, sum_ℤ, expected_order_count, Counts, both_in_32_bits, in_32_bits, final_counts, lowered_by_operation_5}
pub use Rattle.avc_poc.specs.OrderCounts.{in_range, number_in_range, counts_by, counts_0, counts_1, counts_2, counts_from, max_lsb, lsb_of, Past, missing, picture}
pub use Rattle.avc_poc.specs.OrderCounts.{frame_num_offset, previous_for, previous_of, order_counts, resets_order_counts, past_number, previous_from}
pub use Rattle.avc_poc.specs.OrderCounts.{no_previous, delta_bottom}
pub use Rattle.avc_poc.specs.declared.most_significant.Previous.{Previous}
