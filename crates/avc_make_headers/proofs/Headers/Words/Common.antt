-- The names that the proofs cite of std, of the crates below and of the definitions here, passed on from one place. Declares nothing.
pub use Rattle.std.proofs.Common.{◌≡◌, ℕ, zero, suc, ◌+◌, ◌-◌, ◌<◌, ◌≤◌, ℤ, pos, negsuc, neg_ℤ, List, [], ◌∷◌, ◌++◌, length, take, drop}
pub use Rattle.std.proofs.Common.{Bool, true, false, refl, ap, subst, ◌∙◌, sym, arith, append_assoc, append-nil, length-append, Option, Some}
pub use Rattle.std.proofs.Common.{None, ◌||◌, nat_lt, ◌^◌, Result, Ok, Err, get_or, ◌*◌, ◌%◌, not, IfSome, to_z, of_z, w32}
pub use Rattle.std.proofs.Common.{is_some, nat_le, ◌/◌, ◌&&◌, ◌≤ℤ◌}
pub use Rattle.std.proofs.Math.ListN.{drop_of_length-le}
pub use Rattle.std.proofs.Math.Nat.{pow-le-pow_right}
pub use Rattle.std.proofs.lemmas.Bool.{le-leb, lt-ltb, ltb-true}
pub use Rattle.std.proofs.lemmas.Bool.Decides.{nat_tests}
pub use Rattle.std.proofs.lemmas.Int.{ints}
pub use Rattle.std.proofs.lemmas.List.{drop_more}
pub use Rattle.std.proofs.lemmas.List.Elements.{All-head, All-tail}
unfoldable pub use Rattle.std.specs.Int.Count.{count_leading_zeros}
pub use Rattle.std.specs.List.{flat_map, All}
pub use Rattle.std.specs.Prelude.{◌==◌, if◌then◌else◌, int_lt, int_le}
pub use Rattle.avc_annexb.specs.Escapes.{rbsp}
pub use Rattle.avc_bits.specs.Bits.{Read, ◌>>=◌, bits_of, give, times, Bits, ◌>>◌, check, byte_bits, refuse, start, more}
pub use Rattle.avc_bits.specs.Bits.{where_set}
pub use Rattle.avc_bits.specs.Codes.{flag, se_within, ue_to, se}
pub use Rattle.avc_bits.specs.Codes.{u_to}
pub use Rattle.avc_params.proofs.ParameterSets.{plain, small}
pub use Rattle.avc_params.specs.Limits.{max_frame_num, size_in_mbs, max_macroblocks, max_side}
pub use Rattle.avc_params.specs.Parsing.{optional}
pub use Rattle.avc_params.specs.PpsReading.{pps, pps_after}
pub use Rattle.avc_params.specs.Reading.{pps_id, pps_of, whole, sps_id, sps_of}
pub use Rattle.avc_params.specs.SpsReading.{constraint_flags, cropping, order_count, order_count_of, size, sps}
pub use Rattle.avc_params.specs.Tables.{Sets}
pub use Rattle.avc_params.specs.VuiReading.{chroma_location, colour, hrd, hrd_entry, restriction, sample_aspect, sample_size, timing, video_signal, vui}
pub use Rattle.avc_params.specs.Within.{IsPps, IsSps, IsCropping, IsOrderCount}
pub use Rattle.avc_params.specs.declared.pps.Pps.{Pps}
pub use Rattle.avc_params.specs.declared.sps.ConstraintFlags.{ConstraintFlags}
pub use Rattle.avc_params.specs.declared.sps.OrderCount.{OrderCount}
pub use Rattle.avc_params.specs.declared.sps.Sps.{Sps}
pub use Rattle.avc_rbsp.proofs.Reading.{ReadsAt, GivesBack, with_word, with_value, at-give, at-bind, at-then, back-give, back-bind, back-then, back-last}
pub use Rattle.avc_rbsp.proofs.Reading.{back-u, back-flag, back-ue, back-se}
pub use Rattle.avc_rbsp.proofs.Reading.Written.{rbsp_is_read, removed}
unfoldable pub use Rattle.avc_rbsp.specs.Escaping.{escaped_after}
pub use Rattle.avc_rbsp.specs.Made.{Made, with_bits}
pub use Rattle.avc_rbsp.specs.Rbsps.{IsUnit}
unfoldable pub use Rattle.avc_rbsp.specs.Words.{ue_word, se_word}
pub use Rattle.avc_slice.specs.Header.{is_idr, is_p, is_p_type, is_reference, slice_qp}
pub use Rattle.avc_slice.specs.Reading.{num_ref_idx_active, active_override, coded_order, deblocking, header_in_rbsp, header_of, is_qp, list_part}
pub use Rattle.avc_slice.specs.Reading.{marking, modification, modifications, most_operations, operation, optional_se, position_here}
pub use Rattle.avc_slice.specs.Reading.{redundant_pic_cnt, slice_header, slice_type_of, up_to}
pub use Rattle.avc_slice.specs.WeightsReading.{chroma_weights, coded_weight, entry_weights, pred_weight_table}
pub use Rattle.avc_slice.specs.Within.{IsPredWeightTable, IsChromaWeights, IsCodedWeight, IsEntryWeights}
pub use Rattle.avc_slice.specs.declared.header.CodedOrder.{CodedOrder}
pub use Rattle.avc_slice.specs.declared.header.CodedOrder.TheVariants.{Type0, Type1, Type2}
pub use Rattle.avc_slice.specs.declared.header.Deblocking.{Deblocking}
pub use Rattle.avc_slice.specs.declared.header.Header.{Header}
pub use Rattle.avc_slice.specs.declared.header.SliceType.{SliceType}
pub use Rattle.avc_slice.specs.declared.parts.ListPart.{ListPart}
pub use Rattle.avc_slice.specs.declared.weights.PredWeightTable.{PredWeightTable}
pub use Rattle.avc_types.specs.declared.edges.FilteredEdges.{FilteredEdges}
pub use Rattle.avc_types.specs.declared.fault.Fault.{Fault}
pub use Rattle.avc_types.specs.declared.references.Marking.{Marking}
pub use Rattle.avc_types.specs.declared.references.Marking.TheVariants.{Idr, SlidingWindow, Adaptive}
pub use Rattle.avc_types.specs.declared.references.Modification.{Modification}
pub use Rattle.avc_types.specs.declared.references.Modification.TheVariants.{Subtract, Add, LongTerm}
pub use Rattle.avc_types.specs.declared.references.Operation.{Operation}
pub use Rattle.avc_types.specs.declared.references.Operation.TheVariants.{UnmarkShortTerm, UnmarkLongTerm, AssignLongTerm, MaxLongTermFrameIdx, UnmarkAll}
pub use Rattle.avc_types.specs.declared.references.Operation.TheVariants.{CurrentToLongTerm}
pub use Rattle.avc_make_headers.specs.HeaderWriting.{header_bits, slice_unit_header, IsDeblocking, IsDeblockingOf, IsHeader, IsIdr, IsListWhere, IsMarkingOf}
pub use Rattle.avc_make_headers.specs.HeaderWriting.{IsModification, IsModificationList, IsOffset, IsOperation, IsOrderOf, IsOverride, IsQp, IsSeWhere}
pub use Rattle.avc_make_headers.specs.HeaderWriting.{coded_order_bits, deblocking_bits, deblocking_bits_of, filtering_bits, front_bits, list_bits_where, marking_bits}
pub use Rattle.avc_make_headers.specs.HeaderWriting.{modification_bits, modifications_bits, numbers_bits, operation_bits, se_where, slice_type_number}
pub use Rattle.avc_make_headers.specs.PpsWriting.{pps_bits}
pub use Rattle.avc_make_headers.specs.SliceUnits.{AreInForce, placed_header}
pub use Rattle.avc_make_headers.specs.SpsWriting.{IsSeValue, size_bits, HasSeValues, constraint_bits, cropping_bits, order_bits, sps_bits}
pub use Rattle.avc_make_headers.specs.Units.{pps_header, sps_header}
pub use Rattle.avc_make_headers.specs.VuiWriting.{Each, optional_bits, where_bits, IsAspect, IsChromaLocation, IsColour, IsHrd, IsHrdEntry, IsRestriction, IsSampleSize}
pub use Rattle.avc_make_headers.specs.VuiWriting.{IsTiming, IsVideoSignal, IsVui, aspect_bits, chroma_location_bits, colour_bits, flag_bits, hrd_bits, hrd_entry_bits}
pub use Rattle.avc_make_headers.specs.VuiWriting.{restriction_bits, sample_size_bits, timing_bits, video_signal_bits, vui_bits}
pub use Rattle.avc_make_headers.specs.WeightsWriting.{chroma_weights_bits, coded_weight_bits, entry_weights_bits, pred_weight_table_bits}
pub use Rattle.avc_types.specs.declared.fault.Fault.TheVariants as faults
pub use Rattle.avc_types.specs.declared.edges.FilteredEdges.TheVariants as edges
pub use Rattle.avc_params.specs.declared.sps.OrderCount.TheVariants as orders
