-- The names that the proofs cite of std, of the crates below and of the definitions here, passed on from one place. Declares nothing.
pub use Rattle.std.proofs.Common.{◌<◌, ◌≤◌, ◌+◌, ℕ, List, [], ◌∷◌, ◌++◌, length, arith, ◌≡◌, nat_lt, zero, suc, Bool, true, false, refl, ℤ, ◌+ℤ◌}
pub use Rattle.std.proofs.Common.{to_z, of_z, w16, FitsSigned, sym, ◌*◌, slice_index_or, slice_set, ap, ◌∙◌, inl, inr, ◌-◌, drop, take, subst, pos}
pub use Rattle.std.proofs.Common.{◌-ℤ◌, rules, length-set, w32, map}
pub use Rattle.std.proofs.lemmas.Bool.{and_parts, and_from, cases_lt, and_left, and_right, cond-true, cond-false, not-true, cases_Bool, cond_both}
pub use Rattle.std.proofs.lemmas.Bool.Decides.{nat_tests}
pub use Rattle.std.proofs.lemmas.Int.{to_z-of_z, ints}
pub use Rattle.std.proofs.lemmas.List.{same_lists, get_or-set_same, get_or-set_other, get_or_default, at_drop_more, drop-drop, length-drop, take_rest}
pub use Rattle.std.proofs.lemmas.List.{get_or-take, get_or-replicate}
pub use Rattle.std.proofs.lemmas.List.FromFn.{get_or-map-range_with_len}
pub use Rattle.std.proofs.lemmas.Option.{same_Some, cond_some}
pub use Rattle.std.specs.List.{list_all}
pub use Rattle.std.specs.Prelude.{not, ◌&&◌, if◌then◌else◌, Option, Some, None, Ok, Err, Result, slice_index, replicate, negsuc}
pub use Rattle.avc_neigh.specs.Around.{info_of}
pub use Rattle.avc_neigh.specs.BlockNear.{IsAsked, motion_near}
pub use Rattle.avc_neigh.specs.declared.neighbour_info.Motion.{Motion}
pub use Rattle.avc_neigh.specs.declared.neighbour_info.Motion.TheVariants.{Inter as inter, Absent as absent, Intra as intra}
pub use Rattle.avc_types.specs.Arithmetic.{median}
pub use Rattle.avc_types.specs.Macroblock.{parts_of, parts_of_quarter, parts_of_quarters, partitions, quarter_x, quarter_y, part, p_skip, p_inter}
pub use Rattle.avc_types.specs.Macroblock.{Residual, MbSyntax}
pub use Rattle.avc_types.specs.MacroblockFields.{syntax_of, residual_of}
pub use Rattle.avc_types.specs.Pictures.{Coded, PicMb}
pub use Rattle.avc_types.specs.References.{result_map}
pub use Rattle.avc_types.specs.declared.fault.Fault.{Fault}
pub use Rattle.avc_types.specs.declared.fault.Fault.TheVariants.{VectorRange}
pub use Rattle.avc_types.specs.declared.macroblock.Mvd.{Mvd}
pub use Rattle.avc_types.specs.declared.macroblock.PMbType.{PMbType}
pub use Rattle.avc_types.specs.declared.macroblock.PMbType.TheVariants.{P16x16, P16x8, P8x16, P8x8, P8x8Ref0}
pub use Rattle.avc_types.specs.declared.macroblock.Part.{Part}
pub use Rattle.avc_types.specs.declared.macroblock.SubMbType.{SubMbType}
pub use Rattle.avc_types.specs.declared.macroblock.SubMbType.TheVariants.{Sub8x8, Sub8x4, Sub4x8, Sub4x4}
pub use Rattle.avc_types.specs.declared.vector.Mv.{Mv}
pub use borrow.Author.Count.{below_more}
pub use borrow.Rule.Slice.PartMut.{mid_of}
pub use Rattle.avc_motion.specs.Decoding.{HasFourQuarters, in_range_only, IsQuarterFilled, Decodes, decoded, blocks_or_fault}
pub use Rattle.avc_motion.specs.Motion.{is_in_part, is_16_bit, sum_with_mvd, Near, motion_of_part, is_in_range, AreOfOneMotion, is_one_partition}
pub use Rattle.avc_motion.specs.Motion.{no_motion, neighbours_of, predicted_vector, motion_of_parts, motion_by, motion_or_fault}
pub use Rattle.avc_motion.specs.Motion.{skip_vector, motion_before, median_prediction, vector_of, motion_of, near_in}
unfoldable pub use Rattle.avc_motion.specs.Motion.{with_part}
