-- The names that the proofs cite of std, of the crates below and of the definitions here, passed on from one place. Declares nothing.
pub use Rattle.std.proofs.Common.{◌≡◌, ℕ, zero, suc, ◌+◌, ◌-◌, ◌*◌, ◌/◌, ◌^◌, ◌<◌, ◌≤◌, List, [], ◌∷◌, ◌++◌, length, take}
pub use Rattle.std.proofs.Common.{drop, Option, Result, Ok, Err, IfErr, refl, sym, ap, ◌∙◌, subst, arith, append_assoc}
pub use Rattle.std.proofs.Common.{length-append, append-nil, length-drop, length-take, length-take-le, drop-drop, map, take-append-drop, drop_of_length-le, rules}
pub use Rattle.std.proofs.KnownBytes.{Appends-trans}
pub use Rattle.std.proofs.Math.Nat.{mul-le-mul_right, mul-le-mul}
pub use Rattle.std.proofs.Math.Seq.{take-add, take-append-add, drop-append-add, take-append_seam}
pub use Rattle.std.proofs.lemmas.Grind.{flat_map-append}
pub use Rattle.std.proofs.lemmas.List.{take-append-le, take_rest, same_lists, get_or-take, get_or-drop, get_or_default}
pub use Rattle.std.proofs.lemmas.List.FromFn.{length-map-range_with_len, get_or-map-range_with_len, length-range_with_len}
pub use Rattle.std.proofs.lemmas.Slice.{drop-append-drop}
pub use Rattle.std.specs.Io.KnownBytes.{Appends}
pub use Rattle.std.specs.List.{range_with_len, flat_map}
pub use Rattle.std.specs.Prelude.{slice_index, slice_range, replicate}
pub use Rattle.avc_types.specs.Whole.{IsWhole}
pub use Rattle.avc_types.specs.declared.picture.Picture.{Picture}
pub use borrow.Rule.Slice.PartMut.{put_mid}
pub use Rattle.avc_yuv.specs.Copying.{laid, laid_at, shown_of, shown_of_row, shown_rows, window_of, IsInside}
pub use Rattle.avc_yuv.specs.Gathering.{Gathers, IsGathered, nothing_waits}
pub use Rattle.avc_yuv.specs.I420.{part_of_row, window, i420, shown_width, shown_height}
pub use Rattle.avc_plane.specs.Shown.{columns_of, rows_of, samples_of}
pub use Rattle.avc_yuv.specs.Writing.{Writes, done_after}
pub use Rattle.avc_plane.specs.declared.component.Component.{Component}
pub use Rattle.avc_plane.specs.declared.component.Component.TheVariants.{Luma, Cb, Cr}
pub use Rattle.avc_yuv.specs.declared.gather.Gathered.{Gathered}
pub use Rattle.avc_yuv.specs.declared.shown.Window.{Window}
pub use Rattle.avc_yuv.specs.declared.write.WriteFault.{WriteFault}
