-- The names that the proofs cite of std, of the crates below and of the definitions here, passed on from one place. Declares nothing.
pub use Rattle.std.proofs.Common.{ℕ, ℤ, ◌≡◌, ◌≤ℤ◌, ◌<ℤ◌, arith, refl, ap, ◌∙◌, ◌⊎◌, ⊎_elim, inl, inr, pos, negsuc, neg_ℤ, ◌+ℤ◌, ◌-ℤ◌, ◌*ℤ◌, to_z, of_z, w16}
pub use Rattle.std.proofs.Common.{zero, suc, ◌+◌, ◌*◌, ◌≤◌, ◌<◌, FitsSigned, w32, List, [], ◌∷◌, map, get_or, length, subst, sym, ◌-◌, ◌^◌, w64, slice_index}
pub use Rattle.std.proofs.Common.{◌/◌, ◌++◌, take, drop, length-append, length-drop, slice_set, ◌%◌, get_or as slice_index_or, mul_comm, mul-le-mul_left}
pub use Rattle.std.proofs.Common.{replicate, Fits, rules, add_assoc}
pub use Rattle.std.proofs.Math.Nat.{mul-le-mul_right, add-mul, le_of_mul-le-mul_right, mul_right_comm, div-lt_iff_lt-mul, mul-add-div_right, le-div_iff_mul-le}
pub use Rattle.std.proofs.Math.Nat.{mul-add-mod_self_right, mul-le-mul}
pub use Rattle.std.proofs.lemmas.Bool.{cases_lt}
pub use Rattle.std.proofs.lemmas.Int.{ints, to_z-of_z, by_lt_z}
pub use Rattle.std.proofs.lemmas.List.{length-map, get_or-drop, get_or-take, get_or_append_left, get_or-append_right, get_or_past, length-take-le}
pub use Rattle.std.proofs.lemmas.List.{get_or-set_same, get_or-set_other, get_or-map, length-replicate, length-set}
pub use Rattle.std.proofs.lemmas.List.FromFn.{fill_by_all}
pub use Rattle.std.proofs.lemmas.Nat.{row_fits, div-mul-add, mod-mul-add, mod_below, mul-le}
pub use Rattle.std.proofs.lemmas.Simd.{get_or-zip2, Each1-weaker, get_or-chunk, Each1-zip2, Each2-of, get_or-put_chunk_below, get_or-put_chunk_at, Each1-get_or}
pub use Rattle.std.proofs.lemmas.Simd.{length-zip2, Each2-splat, zip2_splat, length-put_chunk, put_chunk_is, get_or-put_chunk_above}
pub use Rattle.std.specs.List.{range_with_len}
pub use Rattle.std.specs.Prelude.{nat_abs, nat_lt, if◌then◌else◌}
pub use Rattle.std.specs.Simd.Lanes.{Each2, zip2, chunk, Each1, put_chunk}
pub use Rattle.avc_plane.proofs.PlaneMaps.{room_lent, block_lent, room, strided_more, times_turned, strided_rows, strided_same, strided_line, stride_wide}
pub use Rattle.avc_plane.specs.Padded.{stored_place, stride_of, IsSurrounded}
pub use Rattle.avc_plane.specs.Plane.{Plane, sample}
pub use Rattle.avc_plane.specs.Strided.{IsRoom, IsSameOutside, IsStridedSet}
pub use Rattle.avc_types.proofs.Frames.{place_of_sample, block_of_same}
pub use Rattle.avc_types.specs.Arithmetic.{◌>>ℤ◌, clip1, mean_of_two, low_bits}
pub use Rattle.avc_types.specs.Blocks.{block_of}
pub use Rattle.avc_types.specs.declared.vector.Mv.{Mv}
pub use borrow.Rule.Slice.PartMut.{post_of, put_mid}
pub use mir.Syntax.{Width}
pub use Rattle.avc_samples.proofs.Places.{wide_of, there_in, same_place, by_line}
pub use Rattle.avc_samples.specs.Bounds.{IsSum, IsPlace}
pub use Rattle.avc_samples.specs.Patch.{Wide}
pub use Rattle.avc_inter.specs.Bounds.{IsPair, IsWithin, IsMoved}
pub use Rattle.avc_inter.specs.Chroma.{bilinear, inter_chroma}
pub use Rattle.avc_inter.specs.Luma.{six_taps, across, down, half_b, half_h, half_j, half_m, half_s, quarter, inter_luma}
pub use Rattle.avc_inter.specs.Patch.{blend_of, half_along, taps_along, centre_along, j_of, rounded_sum, whole, whole_right, b_of}
pub use Rattle.avc_inter.specs.Patch.{h_of, m_of, quarter_of}
pub use Rattle.avc_inter.specs.Laid.{sample_place}
pub use Rattle.avc_inter.specs.Means.{half_or_mean}
pub use Rattle.avc_inter.specs.declared.six_rows.SixRows.{SixRows}
pub use Rattle.avc_plane.specs.declared.plane.lending.RowsPlace.{RowsPlace}
pub use Rattle.std.specs.Prelude.{Option}
pub use Rattle.avc_inter.specs.SixRows.{place_of, HasPlaces, HasRoom, AreLanes, AreSixRows, taps_of, half_of, centre_of, AreSumsOf}
pub use Rattle.avc_inter.specs.SixTapRow.{taps_at}
pub use Rattle.avc_inter.specs.Weight.{weighted}
pub use Rattle.avc_inter.specs.FiveRows.{AreFiveRows, half_with}
pub use Rattle.avc_inter.specs.declared.five_rows.FiveRows.{FiveRows}
