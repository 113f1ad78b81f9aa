-- The names that the proofs cite of std, of the crates below and of the definitions here, passed on from one place. Declares nothing.
pub use Rattle.std.proofs.Common.{ℕ, ◌≡◌, ◌+◌, ◌*◌, ◌/◌, ◌%◌, ◌<◌, ◌≤◌, arith, List, length, slice_index, take, ap, ◌∙◌, mul_comm, zero, suc, ℤ, pos, cond}
pub use Rattle.std.proofs.Common.{nat_abs, [], ◌∷◌, refl, ◌++◌, map, Bool, true, false, drop-cons, nat_lt, Some, slice_get, ◌-◌, w64, rules}
pub use Rattle.std.proofs.Math.Nat.{div-lt_iff_lt-mul}
pub use Rattle.std.proofs.lemmas.Bool.{cases_lt}
pub use Rattle.std.proofs.lemmas.Bool.Decides.{nat_tests}
pub use Rattle.std.proofs.lemmas.Int.{to_z-of_z}
pub use Rattle.std.proofs.lemmas.List.{get_or-take, length-take-le, take-replicate}
pub use Rattle.std.proofs.lemmas.List.FromFn.{get_or-map-range_with_len, length-map-range_with_len, fill_by_all}
pub use Rattle.std.proofs.lemmas.List.Kept.{AllPairs-from_increasing}
pub use Rattle.std.proofs.lemmas.List.Sums.{sum_by-append, sum_by-cons}
pub use Rattle.std.proofs.lemmas.Nat.{mod_below, row_fits, mul-le}
pub use Rattle.std.proofs.lemmas.Simd.{length-chunk, get_or-chunk, get_or-put_chunk_below, get_or-put_chunk_at}
pub use Rattle.std.specs.List.{filter, find, list_any}
pub use Rattle.std.specs.List.Sorted.{IsStrictlyIncreasing}
pub use Rattle.std.specs.Prelude.{replicate, not, ◌==◌, drop, is_some, slice_index_or}
pub use Rattle.std.specs.Simd.Lanes.{chunk}
pub use Rattle.avc_types.specs.Blocks.{block_of}
pub use Rattle.avc_types.specs.Macroblock.{total_coeff}
pub use Rattle.avc_types.specs.References.{Reference, placed_by, reference_of, references_at, reference_at, no_frame, StandAt, is_marked, sorted_by}
pub use Rattle.avc_types.specs.References.{has_pic_num, has_long_term_frame_idx}
pub use Rattle.avc_types.specs.declared.marked_frame.MarkedFrame.{MarkedFrame}
