-- The names that the proofs cite of std, of the crates below and of the definitions here, passed on from one place. Declares nothing.
pub use Rattle.std.proofs.Common.{◌≡◌, ◌+◌, ℕ, ℤ, zero, suc, Bool, true, false, nat_lt, [], ◌∷◌, List, length, Option, Some, None, Result, Ok, Err}
pub use Rattle.std.proofs.Common.{IsErrAnd, to_z, of_z, w32, refl, ap, sym, ◌∙◌, arith, ◌==◌, ◌++◌, append_assoc, append-nil, ◌≤◌, pos, negsuc, IfSome, ◌<◌, ◌/◌, ◌%◌, ◌&&◌}
pub use Rattle.std.proofs.Common.{◌||◌, not, int_le, is_some, IfOk, if◌then◌else◌, drop, ◌-◌, rules}
pub use Rattle.std.proofs.lemmas.Bool.{le-leb, ne_eqb, eq-eqb, ltb-true, and_parts, false≢true}
pub use Rattle.std.proofs.lemmas.Grind.{common_steps}
pub use Rattle.std.proofs.lemmas.Int.{ints}
pub use Rattle.std.specs.List.{All, list_any}
pub use Rattle.std.specs.Option.{option_map}
pub use Rattle.avc_bits.proofs.Reading.{bind-ok, left, Gives, IsFrom, gives-bind, gives-each, gives-give, gives-se_within, gives-times, gives-ue_to}
pub use Rattle.avc_bits.proofs.Reading.{gives-check, gives-then, gives-where_set, value}
pub use Rattle.avc_bits.specs.Bits.{Bits, Read, ◌>>=◌, ◌>>◌, give, refuse, check, where_set, number_of, times, start, bits_before_stop}
pub use Rattle.avc_bits.specs.Codes.{split, bits, zeros, zeros_before_one, signed_value, flag, ue, ue_to, se_within, se, u}
pub use Rattle.avc_bits.specs.Reader.{reader_bits, reader_bytes}
pub use Rattle.avc_params.proofs.ParameterSets.{answers_fault, gives-optional, parts_give}
pub use Rattle.avc_params.specs.Limits.{max_frame_num, size_in_mbs}
pub use Rattle.avc_params.specs.Parsing.{optional}
pub use Rattle.avc_params.specs.Tables.{Sets, sets_after}
pub use Rattle.avc_params.specs.declared.pps.Pps.{Pps}
pub use Rattle.avc_params.specs.declared.set_unit.SetUnit.TheVariants.{OfSps, OfPps}
pub use Rattle.avc_params.specs.declared.sps.OrderCount.{OrderCount}
pub use Rattle.avc_params.specs.declared.sps.Sps.{Sps}
pub use Rattle.avc_types.specs.declared.edges.FilteredEdges.{FilteredEdges}
pub use Rattle.avc_types.specs.declared.edges.FilteredEdges.TheVariants.{All as AllEdges, NoEdges, WithinSlice}
pub use Rattle.avc_types.specs.declared.fault.Fault.{Fault}
pub use Rattle.avc_types.specs.declared.fault.Fault.TheVariants.{CodeTooLong, BadMarking, NoParameterSet}
pub use Rattle.avc_types.specs.declared.references.Marking.{Marking}
pub use Rattle.avc_types.specs.declared.references.Marking.TheVariants.{Adaptive, Idr, SlidingWindow}
pub use Rattle.avc_types.specs.declared.weight.Weight.{Weight}
pub use Rattle.avc_slice.specs.Begins.{begins}
pub use Rattle.avc_slice.specs.Filling.{Fills, filled, empty_header}
pub use Rattle.avc_bits.specs.declared.reader.BitReader.{BitReader}
pub use Rattle.avc_slice.specs.Header.{is_idr, is_idr_marking, is_reference, has_idr_marking, is_p_type, slice_qp, is_unmark_all}
pub use Rattle.avc_slice.specs.Reading.{up_to, num_ref_idx_active, active_override, back, coded_order, deblocking, filtering, found, front}
pub use Rattle.avc_slice.specs.Reading.{header_in_rbsp, header_of, idr_pic_id, is_qp, list_part, marking, modification, modification_list}
pub use Rattle.avc_slice.specs.Reading.{most_operations, no_edges, numbers, offset_pair, operation, operations, optional_se, overridden_count, p_list}
pub use Rattle.avc_slice.specs.Reading.{position_here, redundant_pic_cnt, slice_type_of, unless_ended, value_or_fault}
pub use Rattle.avc_slice.specs.Weights.{weights}
pub use Rattle.avc_slice.specs.WeightsReading.{chroma_weights, coded_weight, entry_weights, pred_weight_table}
pub use Rattle.avc_slice.specs.Within.{IsChromaWeights, IsCodedWeight, IsEntryWeights, IsPredWeightTable, IsDeblocking, IsReadUnder}
pub use Rattle.avc_slice.specs.declared.header.Header.{Header}
pub use Rattle.avc_slice.specs.declared.header.SliceType.TheVariants.{AllP, AllI}
pub use Rattle.avc_slice.specs.declared.parts.Filtering.{Filtering}
pub use Rattle.avc_slice.specs.declared.parts.Front.{Front}
pub use Rattle.avc_slice.specs.declared.parts.ListPart.{ListPart}
pub use Rattle.avc_slice.specs.declared.parts.Numbers.{Numbers}
pub use Rattle.avc_slice.specs.declared.weights.CodedWeight.{CodedWeight}
pub use Rattle.avc_slice.specs.declared.weights.EntryWeights.{EntryWeights}
pub use Rattle.avc_slice.specs.declared.weights.PredWeightTable.{PredWeightTable}
