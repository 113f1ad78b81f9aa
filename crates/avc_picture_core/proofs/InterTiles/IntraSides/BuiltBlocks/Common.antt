-- The names that the proofs cite of std, of the crates below and of the definitions here, passed on from one place. Declares nothing.
pub use Rattle.std.proofs.Common.{◌≡◌, ℕ, ◌+◌, ◌-◌, ◌*◌, ◌<◌, ◌≤◌, Bool, true, false, slice_index, if◌then◌else◌, arith, refl, ap, ◌∙◌, None, ℤ, pos, ◌/◌, ◌%◌}
pub use Rattle.std.proofs.Common.{◌≢◌, nat_lt, length, sym, inl, inr, List, [], slice_index_or, zero, suc, ◌^◌, negsuc, ◌+ℤ◌, ◌*ℤ◌, not, cond, ◌∷◌, nat_abs}
pub use Rattle.std.proofs.Common.{subst, zero-add, map, mul_comm, Option, ◌&&◌, ◌||◌, Result, Ok, Err, ◌-ℤ◌, ⊎_elim, to_z, of_z, w32, rules, w8, below_more}
pub use Rattle.std.proofs.Common.{take}
pub use Rattle.std.proofs.Math.IntN.{*ℤ-zero, zero-*ℤ}
pub use Rattle.std.proofs.Math.Nat.{add-zero, add-mul, mul-add, mul-le-mul_right, div-lt_iff_lt-mul}
pub use Rattle.std.proofs.Math.Path.{fun_ext}
pub use Rattle.std.proofs.lemmas.Bool.{cases_lt, cases_Bool, and_parts, ltb-true, le-ltb, true≢false, or_cases, false≢true}
pub use Rattle.std.proofs.lemmas.Bool.Decides.{nat_tests}
pub use Rattle.std.proofs.lemmas.Int.{ints, to_z-of_z}
pub use Rattle.std.proofs.lemmas.List.{get_or-map, get_or-replicate, get_or_past, get_or_default}
pub use Rattle.std.proofs.lemmas.List.Elements.{All-get_or, All-from_get_or}
pub use Rattle.std.proofs.lemmas.List.Folds.{list_all_at}
pub use Rattle.std.proofs.lemmas.List.FromFn.{get_or-range_with_len, get_or-map-range_with_len, length-map-range_with_len}
pub use Rattle.std.proofs.lemmas.List.Sums.{sum_by-append, AllPass-from_list_all, list_all-from_AllPass}
pub use Rattle.std.proofs.lemmas.Nat.{mul-add-lt, div-mul-add, mod-mul-add, div-add-mod', mod_below}
pub use Rattle.std.specs.List.{sum_by, list_all, range_with_len}
pub use Rattle.std.specs.Option.{unwrap_or, option_map, option_copied}
pub use Rattle.std.specs.Prelude.{Some, ◌==◌, ◌⊎◌, slice_get, IfSome, is_some, All}
pub use Rattle.avc_inter.specs.Chroma.{inter_chroma}
pub use Rattle.avc_inter.specs.Luma.{inter_luma}
pub use Rattle.avc_intra.specs.Chroma.{intra_chroma, can_predict_chroma, predict_chroma, predict_dc_chroma, mode_chroma_of}
pub use Rattle.avc_intra.specs.InRows.{IsSeen, IsSeen4x4}
pub use Rattle.avc_intra.specs.Lines.{block4x4}
pub use Rattle.avc_intra.specs.Luma16x16.{intra16x16, can_predict16x16, predict16x16, mode16x16_of}
pub use Rattle.avc_intra.specs.Luma4x4.{intra4x4, can_predict4x4, predict4x4, extended, mode4x4_of}
pub use Rattle.avc_intra.specs.Neighbourhood.{Around, has_corner_sides}
pub use Rattle.avc_intra.specs.declared.chroma.ModeChroma.{ModeChroma}
pub use Rattle.avc_intra.specs.declared.luma16x16.Mode16x16.{Mode16x16}
pub use Rattle.avc_intra.specs.declared.luma4x4.Mode4x4.{Mode4x4}
pub use Rattle.avc_intra.specs.declared.luma4x4.Mode4x4.TheVariants.{Vertical, Horizontal, Dc, DiagonalDownLeft, DiagonalDownRight, VerticalRight}
pub use Rattle.avc_intra.specs.declared.luma4x4.Mode4x4.TheVariants.{HorizontalDown, VerticalLeft, HorizontalUp}
pub use Rattle.avc_intra.specs.declared.sides.Sides.{Sides}
pub use Rattle.avc_motion.specs.Motion.{is_intra, AreOfOneMotion, frame_named, vector_of}
pub use Rattle.avc_neigh.specs.Around.{is_intra_info, Around as MacroblocksAround, info_of}
pub use Rattle.avc_neigh.specs.Blocks.{block_at, block_x, block_y, Location, location_in, same_slice}
pub use Rattle.avc_neigh.specs.Laws.{is_there_near}
pub use Rattle.avc_neigh.specs.declared.neighbour_info.Motion.{Motion}
pub use Rattle.avc_neigh.specs.declared.neighbour_info.Motion.TheVariants.{Inter as inter}
pub use Rattle.avc_neigh.specs.declared.neighbour_info.NearMode.{NearMode}
pub use Rattle.avc_neigh.specs.declared.neighbour_info.NearMode.TheVariants.{Absent as absent}
pub use Rattle.avc_neigh.specs.declared.neighbour_info.NeighbourInfo.{NeighbourInfo}
pub use Rattle.avc_plane.proofs.PlaneMaps.{plane_of_same, inside, no_line, block_lent, room_lent, sample-plane_of, sample-with_block, by_place, stride_wide}
pub use Rattle.avc_plane.specs.Frames.{padded_planes_of, planes_of}
pub use Rattle.avc_plane.specs.Lending.{with_rows}
pub use Rattle.avc_plane.specs.Padded.{HaveSamples, stored_place, stride_of}
pub use Rattle.avc_plane.specs.Plane.{Plane, sample, with_block, is_inside}
pub use Rattle.avc_plane.specs.Planes.{Planes}
pub use Rattle.avc_plane.specs.Strided.{IsStridedSet}
pub use Rattle.avc_transform.proofs.Residuals.{below_two, residual_of_dc, no_residual}
pub use Rattle.avc_transform.specs.Bounds.{matrix}
pub use Rattle.avc_transform.specs.MacroblockResidual.{chroma_residual, luma_residual, luma_residual_16x16}
pub use Rattle.avc_transform.specs.Residual.{residual4x4, residual4x4_with_dc, level, even_scale, hadamard2, chroma_dc, chroma_dc_product, chroma_dc_scaled}
pub use Rattle.avc_transform.specs.Residual.{chroma_qp, luma_dc}
pub use Rattle.avc_types.specs.Arithmetic.{◌>>ℤ◌}
pub use Rattle.avc_types.specs.Blocks.{block_of}
pub use Rattle.avc_types.specs.Macroblock.{total_coeff, Mb, MbSyntax, p_skip, i_pcm, i_nxn, i_16x16, p_inter, Residual, parts_of, partitions}
pub use Rattle.avc_types.specs.MacroblockFields.{syntax_of}
pub use Rattle.avc_types.specs.Pictures.{Coded, Frame, SliceInfo}
pub use Rattle.avc_types.specs.declared.edges.FilteredEdges.TheVariants.{NoEdges}
pub use Rattle.avc_types.specs.declared.fault.Fault.{Fault}
pub use Rattle.avc_types.specs.declared.fault.Fault.TheVariants.{RefMissing, IntraUnavailable}
pub use Rattle.avc_types.specs.declared.macroblock.Mvd.{Mvd}
pub use Rattle.avc_types.specs.declared.macroblock.PMbType.{PMbType}
pub use Rattle.avc_types.specs.declared.vector.Mv.{Mv}
pub use Rattle.avc_types.specs.declared.weight.Weight.{Weight}
pub use Rattle.avc_types.specs.declared.weight.Weights.{Weights}
pub use Rattle.avc_picture_core.specs.Built.{sum_of, weighted_by, seen_from, Place, left_of_mb, mode_number, residual_at, sides_of, top_of_mb, is_there}
pub use Rattle.avc_picture_core.specs.Built.{chroma_after, inter_at, is_intra_place, luma_after, planes_after, with_blocks4x4, with_block4x4, size_of}
pub use Rattle.avc_picture_core.specs.Built.{with_macroblock, luma_place, component_weight, reference_of, fetched, inter_predicted}
pub use Rattle.avc_picture_core.specs.Canvas.{CanvasState, IsBuilt, IsPlaceOn, sides_near}
pub use Rattle.avc_picture_core.specs.CanvasFields.{with_planes}
pub use Rattle.avc_picture_core.specs.Faults.{has_references, has_sides, refusal, is_picture}
pub use Rattle.avc_picture_core.specs.Inter.{with_part, CoverMacroblock, predicted_at, HasWholeQuarters, HaveOneMotion, IsMacroblockShape, IsQuarterShape}
pub use Rattle.avc_picture_core.specs.Inter.{block_motion, AreUsableAt, IsUsableAt, fetched_from, have_pictures, motion_at, picture_in, predicted_in, wanted}
unfoldable pub use Rattle.avc_picture_core.specs.Inter.{predicted_from}
pub use Rattle.avc_picture_core.specs.Nxn.{IsNxnAt}
pub use Rattle.avc_picture_core.specs.Places.{ArePlanesBuilt, IsPlaceIn, MayRead, IsAt}
pub use Rattle.avc_picture_core.specs.References.{AreReferences, AreUsable, IsReference, IsUsable, ShowsReference}
pub use Rattle.avc_picture_core.specs.Residuals.{with_residual}
pub use Rattle.avc_picture_core.specs.Sides.{AreInside, is_readable, readable_near, readable_sides}
pub use Rattle.avc_picture_core.specs.declared.inter.ReferencePicture.{ReferencePicture}
pub use Rattle.avc_picture_core.specs.declared.shape.Shape.TheVariants.{Whole, WideHalves, TallHalves}
pub use Rattle.avc_picture_core.specs.declared.sides.ReadableNeighbours.{ReadableNeighbours}
