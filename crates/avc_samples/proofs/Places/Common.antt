-- The names that the proofs cite of std, of the crates below and of the definitions here, passed on from one place. Declares nothing.
pub use Rattle.std.proofs.Common.{ℕ, ℤ, ◌≡◌, arith, ap, ◌∙◌, ⊎_elim, pos, ◌+ℤ◌, ◌-ℤ◌, to_z, of_z, w64, ◌+◌, ◌*◌, ◌≤◌, ◌<◌, ◌-◌, ◌^◌}
pub use Rattle.std.proofs.Common.{List, length, subst, sym, slice_index, slice_set, get_or as slice_index_or, mul_comm}
pub use Rattle.std.proofs.Math.Nat.{add-mul}
pub use Rattle.std.proofs.lemmas.Bool.{cases_lt}
pub use Rattle.std.proofs.lemmas.Int.{ints}
pub use Rattle.std.proofs.lemmas.List.{get_or-set_same, get_or-set_other}
pub use Rattle.std.proofs.lemmas.Nat.{row_fits}
pub use Rattle.std.specs.Prelude.{Option, Some, IfSome, nat_abs}
pub use Rattle.avc_plane.specs.Padded.{stride_of, IsSurrounded}
pub use Rattle.avc_plane.specs.Plane.{Plane, sample, clamped}
pub use Rattle.avc_plane.specs.declared.plane.lending.RowsPlace.{RowsPlace}
pub use Rattle.avc_types.specs.Arithmetic.{clip3}
pub use borrow.Author.Count.{below_more}
pub use Rattle.avc_samples.specs.Bounds.{IsSum, IsPlace}
pub use Rattle.avc_samples.specs.Patch.{Wide, IsThere}
pub use Rattle.avc_samples.specs.Sums.{AreSums}
