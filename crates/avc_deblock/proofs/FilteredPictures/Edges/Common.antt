-- The names that the proofs cite of std, of the crates below and of the definitions here, passed on from one place. Declares nothing.
pub use Rattle.std.proofs.Common.{ℕ, ◌<◌, zero, suc, arith, [], ◌≡◌, ◌+◌, ◌-◌, ◌≤◌, ◌∷◌, Bool, true, false, slice_index, refl, sym, ap, ◌∙◌, if◌then◌else◌}
pub use Rattle.std.proofs.Common.{◌==◌, ◌&&◌, ◌*◌, List, ℤ, pos, ◌-ℤ◌, nat_abs, nat_lt, ◌/◌, ◌%◌, below_more, length}
pub use Rattle.std.proofs.Common.{mul_comm, ◌++◌, map, subst, append-nil}
pub use Rattle.std.proofs.Common.{◌≢◌, slice_set, get_or-set_other, get_or-set_same}
pub use Rattle.std.proofs.Common.{get_or as slice_index_or, ◌^◌, rules, w8, to_z, of_z}
pub use Rattle.std.proofs.Math.Bool.{or_assoc}
pub use Rattle.std.proofs.Math.Nat.{zero-div}
pub use Rattle.std.proofs.lemmas.Bool.{cases_eq, and_parts}
pub use Rattle.std.proofs.lemmas.Bool.Decides.{nat_tests}
pub use Rattle.std.proofs.lemmas.Grind.{flat_map-append}
pub use Rattle.std.proofs.lemmas.Int.{to_z-of_z}
pub use Rattle.std.proofs.lemmas.List.{get_or_default}
pub use Rattle.std.proofs.lemmas.Nat.{mul-add-lt, div-mul-add, mod-mul-add}
pub use Rattle.std.specs.List.{range_with_len, flat_map}
pub use Rattle.std.specs.Prelude.{◌||◌, nat_le, not, Option, None, Some, IfSome}
pub use Rattle.avc_motion.specs.Motion.{zero_vector, is_intra}
pub use Rattle.avc_neigh.specs.Blocks.{block_at}
pub use Rattle.avc_neigh.specs.declared.neighbour_info.Motion.{Motion}
pub use Rattle.avc_neigh.specs.declared.neighbour_info.Motion.TheVariants.{Absent as absent}
pub use Rattle.avc_plane.proofs.PlaneMaps.{length-plane_of}
pub use Rattle.avc_plane.specs.Frames.{planes_of}
pub use Rattle.avc_plane.specs.Plane.{Plane, sample, with_block}
pub use Rattle.avc_plane.specs.Planes.{Planes}
pub use Rattle.avc_types.specs.Pictures.{Coded}
pub use Rattle.avc_types.specs.declared.edges.FilteredEdges.{FilteredEdges}
pub use Rattle.avc_types.specs.declared.edges.FilteredEdges.TheVariants.{All, NoEdges, WithinSlice}
pub use Rattle.avc_types.specs.declared.vector.Mv.{Mv}
pub use Rattle.avc_deblock.specs.ByInfo.{strength_of, luma_qp_of, chroma_qp_of, edge_by_info, edges_by_info, mb_by_info, row_by_info, no_info, AreOfRow}
pub use Rattle.avc_deblock.specs.Edges.{slice_at, strength_between, address_of, component_qp, setting_at, luma_per_sample}
pub use Rattle.avc_deblock.specs.Edges.{LineFilter, in_component, step_filtered, all_filtered, filters_edge_to, filters_vertical, filters_horizontal}
pub use Rattle.avc_deblock.specs.Edges.{edges_below, vertical_lines, horizontal_lines, component_lines, mb_at, mb_lines, picture_named, moves_differently}
unfoldable pub use Rattle.avc_deblock.specs.Edges.{row_lines}
pub use Rattle.avc_deblock.specs.FilterInfo.{edge_block, p_address, IsAt, Names, HasInfo, HaveInfo, filters_at, filters_between, are_far, inter_strength}
pub use Rattle.avc_deblock.specs.FilterInfo.{has_bit, HasMotion, HaveOneMotion, motion_strength}
pub use Rattle.avc_edges.specs.Line.{Setting, setting_of}
pub use Rattle.avc_deblock.specs.Locality.{AgreesAbove, ChangesWithin, AgreesToRow, ChangesInRow, HasRow}
pub use Rattle.avc_edges.specs.OneEdge.{strength_along, lines_filtered, chroma_setting, luma_setting}
pub use Rattle.avc_deblock.specs.OneEdge.{component_edge, planes_edge, lines_of_edge, HasRoom, planes_edges, planes_mb, chroma_of_edge, luma_of_edge}
unfoldable pub use Rattle.avc_edges.specs.OneEdge.{edge_filtered}
pub use Rattle.avc_deblock.specs.declared.mb_info.MbInfo.{MbInfo}
pub use Rattle.avc_edges.specs.declared.strengths.Strengths.TheVariants.{BelowFour}
pub use Rattle.avc_edges.specs.declared.thresholds.EdgeQp.{EdgeQp}
pub use Rattle.avc_edges.proofs.EdgesOnPlane.{IsSized, edge_size, edge_width, edge_height, block_is, IsLocal, local_none, local_then, local_if, local_edge, outside_block, inside_block}
pub use Rattle.avc_edges.proofs.EdgesOnPlane.{edge_same, edge_none}
pub use Rattle.avc_edges.proofs.EdgesOnPlane.EdgeLines.{HasReach, luma_reach, chroma_reach, same_below}
