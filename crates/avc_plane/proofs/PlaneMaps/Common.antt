-- The names that the proofs cite of std, of the crates below and of the definitions here, passed on from one place. Declares nothing.
pub use Rattle.std.proofs.Common.{ℕ, ◌≡◌, ◌+◌, ◌*◌, ◌-◌, ◌/◌, ◌%◌, ◌<◌, length, ap, ◌∙◌, zero-add, ◌≢◌, ◌≤◌, arith, List, get_or, set, take, drop, slice_range}
pub use Rattle.std.proofs.Common.{sym, get_or-set_same, get_or-set_other, length-set, ⊎_elim, mul_comm, true, false, ◌++◌, length-drop, refl, inl, inr, ◌^◌}
pub use Rattle.std.proofs.Common.{Bool, slice_index, subst, get_or as slice_index_or, pos, ◌-ℤ◌, below_more, append_assoc, replicate}
pub use Rattle.std.proofs.Math.Nat.{mul-le-mul_left, mul-le-mul_right, add-mul}
pub use Rattle.std.proofs.Math.Seq.{take-length, take-add}
pub use Rattle.std.proofs.lemmas.Bool.{cases_eq, cases_lt, cases_Bool, both_ways}
pub use Rattle.std.proofs.lemmas.Bool.Decides.{nat_tests}
pub use Rattle.std.proofs.lemmas.Grind.{common_steps, same_number_lists, get_or_default_zero}
pub use Rattle.std.proofs.lemmas.Int.{ints}
pub use Rattle.std.proofs.lemmas.List.{get_or-drop, get_or-take, length-take-le, places, with_items_is, take_all, length-replicate, replicate-append-replicate}
pub use Rattle.std.proofs.lemmas.List.FromFn.{get_or-map-range_with_len, length-map-range_with_len, fill_by_all}
pub use Rattle.std.proofs.lemmas.Nat.{mul-add-lt, div-mul-add, mod-mul-add, row_fits, same_from_place, mul-le}
pub use Rattle.std.proofs.lemmas.Slice.{put_mid-paste}
pub use Rattle.std.specs.Prelude.{if◌then◌else◌, nat_abs}
pub use Rattle.avc_types.proofs.Frames.{some_column, column, row}
pub use Rattle.avc_types.specs.Arithmetic.{clip3}
pub use borrow.Rule.Slice.PartMut.{put_mid}
pub use Rattle.avc_plane.specs.Lending.{with_rows}
unfoldable pub use Rattle.avc_plane.specs.Padded.{stride_of}
pub use Rattle.avc_plane.specs.Padded.{stored_place, place_in, inner_plane, HaveSamples, HaveRowsFrom, nearest, IsSurrounded, IsPadded}
pub use Rattle.avc_plane.specs.Plane.{Plane, sample, plane_of, with_block, is_inside, with_sample, clamped}
pub use Rattle.avc_plane.specs.Strided.{IsRoom, IsSameOutside, IsStridedSet}
