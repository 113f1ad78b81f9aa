-- The names that the proofs cite of std, of the crates below and of the definitions here, passed on from one place. Declares nothing.
pub use Rattle.std.proofs.Common.{ℕ, ℤ, pos, zero, suc, ◌<◌, arith, slice_index_or, [], ◌∷◌, ◌≡◌, ◌+◌, ◌*◌, List, length, set}
pub use Rattle.std.proofs.Common.{slice_index_or as get_or, below_more, get_or-set_other, subst, sym, ap, ◌∙◌, negsuc, neg_ℤ, ◌≤◌, ◌^◌, ◌/◌}
pub use Rattle.std.proofs.Common.{◌%◌, ◌*ℤ◌, to_z, of_z, w16, w32, refl, zero-mul, mul_assoc, ◌-◌, ◌+ℤ◌, nat_lt, false, if◌then◌else◌, map}
pub use Rattle.std.proofs.Common.{Bool, get_or-set_same, ◌<ℤ◌, ◌≤ℤ◌, true, nat_eq, slice_index, FitsSigned, ◌-ℤ◌, rules, nat_abs, ◌==◌}
pub use Rattle.std.proofs.Math.IntN.{zero-*ℤ}
pub use Rattle.std.proofs.Math.Nat.{div-div-eq-div-mul, mul-div_cancel, mul-le-mul, pow-le-pow_right}
pub use Rattle.std.proofs.lemmas.Bool.{eqb-true, ltb-false, ltb-true, agree_below_at}
pub use Rattle.std.proofs.lemmas.Bool.Decides.{nat_tests}
pub use Rattle.std.proofs.lemmas.Int.{ints, unsigned_abs-mul, to_z-of_z, to_z_pos}
pub use Rattle.std.proofs.lemmas.Nat.{div-mul-add, mul-lt}
pub use Rattle.std.specs.Int.{int_max, int_min}
pub use Rattle.std.specs.Int.Signed.{shr_z}
pub use Rattle.std.specs.Int.RustNames.{unsigned_abs}
pub use Rattle.std.specs.List.{range_with_len}
pub use Rattle.std.specs.Simd.Lanes.{zip2, Each2}
pub use Rattle.avc_types.specs.Arithmetic.{◌>>ℤ◌, sum_below_ℤ, clip1, clip3}
pub use Rattle.avc_transform.specs.Bounds.{IsBelow, AllBelow, matrix}
pub use Rattle.avc_transform.specs.Lines.{AreBelow, AreLines}
pub use Rattle.avc_transform.specs.Residual.{level, level_scale, scaled, even_scale, hadamard, hadamard_row, luma_dc_scaled, chroma_dc_product}
pub use Rattle.avc_transform.specs.Residual.{chroma_dc_scaled, zigzag, scaled_block, scaled_block_with_dc, inverse4, transformed_row, transformed}
pub use Rattle.avc_transform.specs.Residual.{residual4x4, residual4x4_with_dc, chroma_qp_at, luma_dc, chroma_dc}
pub use Rattle.avc_transform.specs.Moves.{AreMovesOf}
pub use Rattle.avc_transform.specs.declared.construction.Moves.{Moves}
pub use Rattle.avc_transform.specs.declared.lines.Lines.{Lines}
pub use Rattle.avc_transform.specs.declared.quantiser.TheConstants.{CHROMA_QP}
