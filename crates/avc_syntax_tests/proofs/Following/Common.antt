-- The names that the proofs cite of std, of the crates below and of the definitions here, passed on from one place. Declares nothing.
pub use Rattle.std.proofs.Common.{◌≡◌, ℕ, zero, suc, ◌≤◌, length, take, true, false, arith, List, [], ◌∷◌, ◌++◌, Bool, refl, ap, ◌∙◌, sym, subst}
pub use Rattle.std.proofs.Common.{rules, negsuc, pos, ◌+◌}
pub use Rattle.std.proofs.lemmas.Int.{ints}
pub use Rattle.std.specs.List.{range_with_len}
pub use Rattle.std.specs.Prelude.{◌==◌, nat_abs, replicate}
pub use Rattle.avc_make.specs.DataWriting.{CanFollow}
pub use Rattle.avc_make.specs.MbWriting.{qp_of, IsRefIdx, has_ref_idx, AreBlocks}
pub use Rattle.avc_make.specs.SliceMbs.{IsCodedSlice, earlier_mbs, own_start}
pub use Rattle.avc_make.specs.declared.slice.CodedSlice.{CodedSlice}
pub use Rattle.avc_make_headers.specs.MbParts.{IsMvd}
pub use Rattle.avc_make_headers.specs.VuiWriting.{Each}
pub use Rattle.avc_mbsyntax.specs.Reading.{is_coded}
pub use Rattle.avc_mbsyntax.specs.SliceData.{SliceStart, context, placed}
pub use Rattle.avc_slice.specs.Header.{is_p, slice_qp}
pub use Rattle.avc_types.specs.Macroblock.{Mb, parts_of, partitions}
pub use Rattle.avc_types.specs.MacroblockFields.{syntax_of}
pub use Rattle.avc_types.specs.Pictures.{PicMb}
pub use Rattle.avc_types.specs.declared.macroblock.Mvd.{Mvd}
pub use Rattle.avc_syntax_tests.specs.Following.{Stands, GoesOn}
unfoldable pub use Rattle.avc_syntax_tests.specs.Following.{FollowOn}
