-- The names that the proofs cite of std, of the crates below and of the definitions here, passed on from one place. Declares nothing.
pub use Rattle.std.proofs.Common.{◌≡◌, ◌∙◌, ℕ, List, [], ◌∷◌, ◌++◌, length, map, take, drop, refl, sym, ap, ap₂, Some, slice_get, slice_index_or, ◌<◌}
pub use Rattle.std.proofs.Common.{nat_lt, Bool, true, false, not, ℤ, pos, ◌+ℤ◌, Option, None, subst, arith, zero, suc, ◌+◌, ◌-◌, ◌≤◌, inl, inr}
pub use Rattle.std.proofs.Common.{add-one, ◌/◌, ◌%◌, ◌==◌, nat_abs, cond, ◌*◌, ◌^◌, Ok, Err, ◌≤ℤ◌, Result, append_assoc, length-set, mul_comm, ⊎_elim}
pub use Rattle.std.proofs.Common.{Bor, replicate, unwrap_or, lit≤, ◌⊎◌, rules, w8, to_z, of_z, w32, below_more, slice_set, get_or-set_other, get_or-set_same}
pub use Rattle.std.proofs.Math.Nat.{div-le_self, add-mul, mul-le-mul_right, div-lt_iff_lt-mul, div-mul-le_self}
pub use Rattle.std.proofs.Math.Seq.{get_or-append_seam, take-append-add, take-append_seam, take-suc, take-length}
pub use Rattle.std.proofs.lemmas.Bool.{cases_lt, ne_eqb}
pub use Rattle.std.proofs.lemmas.Bool.Decides.{nat_tests}
pub use Rattle.std.proofs.lemmas.Int.{ints}
pub use Rattle.std.proofs.lemmas.List.{append-nil, length-map, map-append, take-map, length-append, get_or_append_left, get_or-append_right}
pub use Rattle.std.proofs.lemmas.List.{length-take-le, get_or-replicate, ext_get_or, get_or_past, get_or-take, get_or-drop, length-drop, length-take}
pub use Rattle.std.proofs.lemmas.List.{length-replicate, get_or_default, take_at}
pub use Rattle.std.proofs.lemmas.List.Elements.{All-get_or, All-append, All-cons, All-filter, All-head, All-map, All-nil, All-replicate, All-tail}
pub use Rattle.std.proofs.lemmas.List.Elements.{All-take, All-weaker}
pub use Rattle.std.proofs.lemmas.List.Folds.{sum_by-zero}
pub use Rattle.std.proofs.lemmas.List.FromFn.{get_or-range_with_len, length-range_with_len}
pub use Rattle.std.proofs.lemmas.List.Kept.{AllPairs-from_increasing}
pub use Rattle.std.proofs.lemmas.List.Sums.{AllPass-from_list_all}
pub use Rattle.std.proofs.lemmas.Nat.{div-add-mod', mod_below, div-mul-add}
pub use Rattle.std.proofs.lemmas.Option.{same_Some, get_or_from_slice_get, slice_get_within, slice_get_cases, slice_get-map, unwrap_or-slice_get}
pub use Rattle.std.proofs.lemmas.Option.{slice_get-get_or, slice_get_past, slice_get_read}
pub use Rattle.std.specs.List.{list_all, range_with_len, list_any, flat_map, filter, find}
pub use Rattle.std.specs.List.Sorted.{IsStrictlyIncreasing}
pub use Rattle.std.specs.Option.{option_copied, option_map}
pub use Rattle.std.specs.Prelude.{nat_le, ◌&&◌, ◌||◌, negsuc, ◌-ℤ◌, if◌then◌else◌, slice_index, IfOk, IfSome, is_some}
pub use Rattle.avc_bits.specs.Bits.{at}
pub use Rattle.avc_deblock.proofs.FilteredPictures.{row_acts, row_lines_filtered, row_changes, row_commutes, row_reads}
pub use Rattle.avc_deblock.proofs.FilteredPictures.Edges.{row_more, rows_are_all, all_filtered-append}
pub use Rattle.avc_deblock.specs.ByInfo.{row_by_info, AreOfRow}
pub use Rattle.avc_deblock.specs.Edges.{filter_qp, has_coefficients, mb_at, picture_named, LineFilter, setting_at}
pub use Rattle.avc_deblock.specs.Edges.{step_filtered, all_filtered, line_filters, in_component, luma_per_sample, deblocked_planes}
unfoldable pub use Rattle.avc_deblock.specs.Edges.{row_lines}
pub use Rattle.avc_deblock.specs.FilterInfo.{Names, HasInfo, HaveInfo, HasMotion, has_bit}
pub use Rattle.avc_deblock.specs.Locality.{ChangesWithin, ChangesInRow, HasRow, AgreesAbove}
pub use Rattle.avc_deblock.specs.OneEdge.{HasRoom}
pub use Rattle.avc_deblock.specs.declared.mb_info.MbInfo.{MbInfo}
pub use Rattle.avc_edges.proofs.EdgesOnPlane.{some_column, row_of}
pub use Rattle.avc_edges.proofs.EdgesOnPlane.EdgeLines.{each_of_eight}
pub use Rattle.avc_edges.specs.Line.{Line, Setting, filtered}
pub use Rattle.avc_edges.specs.PlaneLine.{line_at, with_line, line_filtered}
pub use Rattle.avc_mbsyntax.specs.Ranges.{IsSyntax}
unfoldable pub use Rattle.avc_mbsyntax.specs.Reading.{blocks}
pub use Rattle.avc_mbsyntax.specs.Rest.{IsHandedOut, rest_of, Follows, handed_out}
pub use Rattle.avc_mbsyntax.specs.SliceData.{SliceStart, left_total_coeffs, up_total_coeffs, SliceMbs, after, placed, slice_data}
pub use Rattle.avc_mbsyntax.specs.declared.slice_data.SliceData.{SliceData}
pub use Rattle.avc_motion.proofs.MacroblockMotion.Partitions.{at-with_part}
pub use Rattle.avc_motion.specs.Motion.{is_intra, motion_before, motion_of, Near, is_in_part, motion_by, motion_of_part, motion_of_parts, no_motion}
pub use Rattle.avc_motion.specs.Motion.{frame_named, slice_info, vector_of, zero_vector, is_in_range, motion_or_fault}
unfoldable pub use Rattle.avc_motion.specs.Motion.{with_part}
pub use Rattle.avc_neigh.proofs.Found.{availability_found, blocks_found, total_coeffs_found}
pub use Rattle.avc_neigh.specs.Around.{Around, PictureInfo, around, is_intra_info, next_address, mb_a, mb_b, back, of_slice, no_info, with_info}
pub use Rattle.avc_neigh.specs.BlockNear.{AreAround, IsAsked, MotionIsAround, ModesAreAround, HasModes}
pub use Rattle.avc_neigh.specs.Blocks.{Location, block_at, block_x, block_y, location_at, above, left_of}
pub use Rattle.avc_neigh.specs.Laws.{InfoTell, IsNext, is_there_by, is_there_near, TellSlices, TellTotalCoeffs}
pub use Rattle.avc_neigh.specs.Modes.{modes_before, modes_of, IsMode}
pub use Rattle.avc_neigh.specs.TotalCoeffs.{total_coeffs_of}
pub use Rattle.avc_neigh.specs.declared.neighbour_info.Motion.{Motion}
pub use Rattle.avc_neigh.specs.declared.neighbour_info.NearMode.{NearMode}
pub use Rattle.avc_neigh.specs.declared.neighbour_info.NeighbourInfo.{NeighbourInfo}
pub use Rattle.avc_params.specs.Limits.{max_macroblocks, width_in_mbs, height_in_mbs, max_frame_num, size_in_mbs}
pub use Rattle.avc_params.specs.Tables.{Sets, sets_after}
pub use Rattle.avc_params.specs.Within.{IsPps, IsSps}
pub use Rattle.avc_params.specs.declared.pps.Pps.{Pps}
pub use Rattle.avc_params.specs.declared.set_unit.SetUnit.TheVariants.{OfSps, OfPps}
pub use Rattle.avc_params.specs.declared.sps.Sps.{Sps}
pub use Rattle.avc_picture_core.proofs.InterTiles.IntraSides.BuiltBlocks.{each_sixteen, with_block_same}
pub use Rattle.avc_picture_core.proofs.InterTiles.IntraSides.{Agree, AgreeBefore, address_at, planes_agree}
pub use Rattle.avc_picture_core.proofs.InterTiles.IntraSides.{AgreeFrom, block_from, chroma_from, luma_from, block_same, luma_same, chroma_same}
pub use Rattle.avc_picture_core.proofs.InterTiles.{bounds, planes_same, some_at}
pub use Rattle.avc_picture_core.specs.Built.{is_intra_place, is_there, sides_of, Place, place_of, with_blocks4x4, luma_after, chroma_after}
pub use Rattle.avc_picture_core.specs.Built.{planes_after, built_on, built, inter_at, left_of_mb, top_of_mb, with_block4x4, with_macroblock, size_of}
pub use Rattle.avc_picture_core.specs.Canvas.{sides_near, IsInRange, CanvasState, IsBuilt, IsPlaceOn}
pub use Rattle.avc_picture_core.specs.CanvasFields.{with_planes}
pub use Rattle.avc_picture_core.specs.Faults.{is_picture, fault_at, fault_of, has_references, macroblock_fault, refusal}
pub use Rattle.avc_picture_core.specs.References.{AreUsable, AreWeights, IsUsable, IsWeight, ShowsReference, AreReferences}
pub use Rattle.avc_picture_core.specs.declared.inter.ReferencePicture.{ReferencePicture}
pub use Rattle.avc_plane.proofs.PlaneMaps.{length-plane_of}
pub use Rattle.avc_plane.specs.Frames.{AreSized, marked_frame, padded_planes_of, stored_at, stored_frame, AreFrames, planes_of}
pub use Rattle.avc_plane.specs.Plane.{Plane, sample, is_inside, plane_of, with_sample, with_block}
pub use Rattle.avc_plane.specs.Planes.{Planes, empty_planes, component, samples_of, StoredFrame}
pub use Rattle.avc_plane.specs.declared.frame.PaddedPlanes.{PaddedPlanes}
pub use Rattle.avc_reflist.specs.Lists.{cons_result, entries, existing_frame, existing_modification_frame, initial_list, is_in_list, list_from}
pub use Rattle.avc_reflist.specs.Lists.{modification_frame, modification_frames, pic_num_no_wrap, reference_list, AreEntriesIn, each_entry}
pub use Rattle.avc_slice.specs.Header.{is_p, slice_qp}
pub use Rattle.avc_slice.specs.Reading.{header_in_rbsp}
pub use Rattle.avc_slice.specs.Weights.{weight_of, weights, weights_of}
pub use Rattle.avc_slice.specs.Within.{IsChromaWeights, IsCodedWeight, IsEntryWeights, IsPredWeightTable, IsHeader}
pub use Rattle.avc_slice.specs.declared.header.Header.{Header}
pub use Rattle.avc_slice.specs.declared.slice.Slice.{Slice}
pub use Rattle.avc_slice.specs.declared.weights.ChromaWeights.{ChromaWeights}
pub use Rattle.avc_slice.specs.declared.weights.CodedWeight.{CodedWeight}
pub use Rattle.avc_slice.specs.declared.weights.EntryWeights.{EntryWeights}
pub use Rattle.avc_slice.specs.declared.weights.PredWeightTable.{PredWeightTable}
pub use Rattle.avc_types.proofs.Frames.{find-filter, below_rest, seen-at, stand_rest}
pub use Rattle.avc_types.specs.Arithmetic.{◌==ℤ◌}
pub use Rattle.avc_types.specs.Macroblock.{Mb, MbSyntax, p_skip, i_pcm, i_nxn, i_16x16, p_inter, parts_of, parts_of_quarter, parts_of_quarters}
pub use Rattle.avc_types.specs.Macroblock.{quarter_x, quarter_y, total_coeff, Residual}
pub use Rattle.avc_types.specs.MacroblockFields.{syntax_of}
pub use Rattle.avc_types.specs.Pictures.{PicMb, Coded, Frame as Shown, SliceInfo, Samples, Frame as WorkedFrame}
pub use Rattle.avc_types.specs.References.{Reference, has_greater_pic_num, has_long_term_frame_idx, has_pic_num, is_long, is_short}
pub use Rattle.avc_types.specs.References.{long_term_frame_idx, pic_num_of, placed_by, sorted_by, no_frame, reference_at, references_at, NamesFrames}
pub use Rattle.avc_types.specs.declared.current_frame_num.CurrentFrameNum.{CurrentFrameNum}
pub use Rattle.avc_types.specs.declared.edges.FilteredEdges.{FilteredEdges}
pub use Rattle.avc_types.specs.declared.edges.FilteredEdges.TheVariants.{NoEdges}
pub use Rattle.avc_types.specs.declared.fault.Fault.{Fault}
pub use Rattle.avc_types.specs.declared.fault.Fault.TheVariants.{VectorRange, RefMissing, BadRefList, ArbitrarySliceOrder, MissingMacroblocks}
pub use Rattle.avc_types.specs.declared.macroblock.Mvd.{Mvd}
pub use Rattle.avc_types.specs.declared.macroblock.PMbType.{PMbType}
pub use Rattle.avc_types.specs.declared.macroblock.PMbType.TheVariants.{P16x16, P16x8, P8x16, P8x8, P8x8Ref0}
pub use Rattle.avc_types.specs.declared.macroblock.Part.{Part}
pub use Rattle.avc_types.specs.declared.macroblock.SubMbType.{SubMbType}
pub use Rattle.avc_types.specs.declared.macroblock.SubMbType.TheVariants.{Sub8x8, Sub8x4, Sub4x8, Sub4x4}
pub use Rattle.avc_types.specs.declared.references.Modification.{Modification}
pub use Rattle.avc_types.specs.declared.references.Modification.TheVariants.{Subtract, Add, LongTerm}
pub use Rattle.avc_types.specs.declared.weight.Weights.{Weights}
pub use Rattle.avc_picture.specs.Context.{FramesStandAt, picture_start, AreNames, ArePicturesAt, ArePlacesIn, HasPlaces, IsContextAt, IsContextOf}
pub use Rattle.avc_picture.specs.Context.{IsPictureAt, planes_at, IsListAt, HasList}
pub use Rattle.avc_picture.specs.Decoded.{deblocked}
pub use Rattle.avc_picture.specs.DecoderState.{CanGoOn, GoesOn, GoesOnFrom, IsDataAnswer, outcome_from, first_of, outcome, CanHaveFirst, HasFirst, IsDataOf}
pub use Rattle.avc_picture.specs.DecoderState.{IsDecodedSlice, IsStateOrFault, IsWellSoFar, address_fault, number_after, IsDecoderState, IsWellSomewhere}
pub use Rattle.avc_picture.specs.Decoding.{AreFramesOf, Decoding, HasNoFault, Refuses, end_fault, fault_at_end, CanStandAt, start_at, with_slice_more}
pub use Rattle.avc_picture.specs.FilterRows.{AreFrom, AreLastRows, is_in_last_rows, kept_info}
pub use Rattle.avc_picture.specs.FirstMbs.{HasNeighbourInfo, HoldsFirst, MbsState, IsSlice, HasSameSize, IsDecoded, HasNumber, BeginsWith, HasSets}
pub use Rattle.avc_picture.specs.MacroblockInfo.{IsFilterInfo, number_of, IsRead, IsNeighbourInfo}
pub use Rattle.avc_picture.specs.MacroblocksState.{PartsAgree, HaveModes, state_of}
pub use Rattle.avc_picture.specs.OpenPicture.{planes_so_far, IsCovered, IsKept, HasFilterInfo, NamesPlaces}
pub use Rattle.avc_picture.specs.RowLate.{filtered_rows, first_built, rows_filtered, AreInfoOf, FilterInfo, FiltersUpTo, row_late, covering_address}
pub use Rattle.avc_picture.specs.Sizes.{HasSize, IsSized, PicturesAreSized}
pub use Rattle.avc_picture.specs.Slices.{first_mb_fault, coded_of, progress, PictureStart, current_of, list_of, or_empty, references_in, Progress}
pub use Rattle.avc_picture.specs.Slices.{refused, with_reference_list, with_slice, planes_after_slices, data_of, read_whole, start_of}
pub use Rattle.avc_picture.specs.Slices.{with_first_fault, with_unit, with_info as slice_with_info}
pub use Rattle.avc_picture.specs.declared.slice_context.SliceContext.{SliceContext}
