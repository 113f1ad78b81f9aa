-- The names that the proofs cite of std, of the crates below and of the definitions here, passed on from one place. Declares nothing.
pub use Rattle.std.proofs.Common.{◌≡◌, ℕ, ℤ, zero, suc, ◌+◌, ◌*◌, ◌-◌, ◌<◌, pos, negsuc, ◌+ℤ◌, ◌-ℤ◌, ◌*ℤ◌, inl, inr, add-one, ap, ◌∙◌, sym, arith}
pub use Rattle.std.proofs.Common.{List, slice_index, to_z, of_z, w32, refl, ◌≤◌, Bool, true, false, if◌then◌else◌, zero-add, below_more}
pub use Rattle.std.proofs.Common.{◌/◌, ◌%◌, [], ◌∷◌, Some, None, length, get_or, subst, slice_set, get_or as slice_index_or, rules, ◌^◌, ◌≤ℤ◌, ◌<ℤ◌, FitsSigned}
pub use Rattle.std.proofs.Math.Nat.{mul-le-mul, mul-le-mul_left, mul-le-mul_right}
pub use Rattle.std.proofs.lemmas.Bool.{cases_lt, false≢true}
pub use Rattle.std.proofs.lemmas.Bool.Decides.{nat_tests}
pub use Rattle.std.proofs.lemmas.Int.{ints, unsigned_abs-mul}
pub use Rattle.std.proofs.lemmas.List.{get_or-set_same, get_or-set_other, get_or-replicate, length-replicate}
pub use Rattle.std.proofs.lemmas.List.FromFn.{get_or-map-range_with_len, fill_by_all}
pub use Rattle.std.specs.Int.RustNames.{unsigned_abs}
pub use Rattle.std.specs.List.{range_with_len}
pub use Rattle.std.specs.Option.{unwrap_or, is_some}
pub use Rattle.std.specs.Prelude.{nat_lt, not, ◌&&◌, map}
pub use Rattle.avc_plane.proofs.PlaneMaps.{strided_same, strided_more, strided_line, strided_rows}
pub use Rattle.avc_plane.specs.Strided.{IsRoom, IsStridedSet}
pub use Rattle.avc_types.specs.Arithmetic.{sum_below, sum_below_ℤ, ◌>>ℤ◌, clip1, mean_of_two, mean_of_three}
pub use Rattle.avc_intra.specs.Chroma.{sum_above, sum_left, intra_chroma, mode_chroma_of, predict_dc_chroma, predict_chroma}
pub use Rattle.avc_intra.specs.InRows.{IsSeen}
pub use Rattle.avc_intra.specs.Lines.{block4x4}
pub use Rattle.avc_intra.specs.Luma16x16.{intra16x16, mode16x16_of, predict16x16}
pub use Rattle.avc_intra.specs.Plane.{slope, gradient, plane_sample, predict_plane}
pub use Rattle.avc_intra.specs.Luma4x4.{extended, intra4x4, mode4x4_of, can_predict4x4, predict4x4}
pub use Rattle.avc_intra.specs.Neighbourhood.{Around, Shows, top, left_of, has_corner_sides}
pub use Rattle.avc_intra.specs.Slopes.{IsWithin, side_of}
pub use Rattle.avc_intra.specs.declared.luma4x4.Mode4x4.TheVariants.{Vertical, Horizontal, DiagonalDownLeft, DiagonalDownRight, VerticalRight}
pub use Rattle.avc_intra.specs.declared.luma4x4.Mode4x4.TheVariants.{HorizontalDown, VerticalLeft, HorizontalUp}
pub use Rattle.avc_intra.specs.declared.sides.Sides.{Sides}
