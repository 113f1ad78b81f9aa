-- The names that the proofs cite of std, of the crates below and of the definitions here, passed on from one place. Declares nothing.
pub use Rattle.std.proofs.Common.{◌≡◌, ◌+◌, ◌-◌, ◌*◌, ◌/◌, ◌%◌, ◌&&◌, ◌||◌, is_some, ◌==◌, ◌≤◌, ◌<◌, ◌^◌, ℕ, Bool, true, false, List, [], ◌∷◌, ◌++◌, length, map, Option, Some, None, Result, Ok, Err}
pub use Rattle.std.proofs.Common.{refl, ap, sym, ◌∙◌, subst, arith, rules, append_assoc, append-nil, length-append, zero, suc, string_bytes, if◌then◌else◌, nat_lt, IfOk, IfSome, All, slice_get, slice_index_or, min}
pub use Rattle.std.proofs.lemmas.Bool.Decides.{nat_tests}
pub use Rattle.std.proofs.lemmas.List.{get_or_default, length-map, map-append}
pub use Rattle.std.specs.Option.{option_map, option_copied}
pub use Rattle.avc_types.specs.declared.fault.Fault.{Fault}
pub use Rattle.avc_types.specs.Macroblock.{Mb, MbSyntax, p_skip, i_pcm, i_nxn, i_16x16, p_inter}
pub use Rattle.avc_types.specs.Pictures.{PicMb}
pub use Rattle.avc_annexb.specs.Laws.{UnitsStay}
pub use Rattle.avc_annexb.specs.SplitterState.{SplitterState, units_waiting}
pub use Rattle.avc_annexb.specs.Units.{units}
pub use Rattle.avc_annexb.specs.declared.unit.Unit.{Unit}
pub use Rattle.avc_bits.specs.Bits.{at}
pub use Rattle.avc_params.specs.Tables.{Sets, sets_after, sps_in_force}
pub use Rattle.avc_params.specs.declared.pps.Pps.{Pps}
pub use Rattle.avc_params.specs.declared.set_unit.SetUnit.{SetUnit}
pub use Rattle.avc_params.specs.declared.sps.Sps.{Sps}
pub use Rattle.avc_slice.specs.declared.header.Header.{Header}
pub use Rattle.avc_slice.specs.Within.{IsHeader, IsReadUnder}
pub use Rattle.avc_slice.specs.declared.slice.Slice.{Slice}
pub use Rattle.avc_neigh.proofs.Found.RowKeeping.{slice_get-next}
pub use Rattle.avc_neigh.specs.Around.{Around, PictureInfo, around, mb_a, mb_b, with_info}
pub use Rattle.avc_neigh.specs.BlockNear.{ModesAreAround, MotionIsAround}
pub use Rattle.avc_neigh.specs.Blocks.{above, left_of}
pub use Rattle.avc_neigh.specs.Laws.{IsNext, ModesAreFound, MotionIsFound, TotalCoeffsAreFound}
pub use Rattle.avc_neigh.specs.Modes.{IsRem, modes_of}
pub use Rattle.avc_neigh.specs.TotalCoeffs.{total_coeffs_of}
pub use Rattle.avc_neigh.specs.declared.neighbour_info.NeighbourInfo.{NeighbourInfo}
pub use Rattle.avc_neigh.specs.declared.neighbour_info.Motion.{Motion}
pub use Rattle.avc_neigh.specs.declared.neighbour_info.NearMode.{NearMode}
pub use Rattle.avc_motion.specs.Motion.{motion_of}
pub use Rattle.avc_mbsyntax.specs.Ranges.{IsSyntax}
pub use Rattle.avc_mbsyntax.specs.Rest.{Follows, IsHandedOut, handed_out, rest_of}
pub use Rattle.avc_mbsyntax.specs.SliceData.{SliceMbs, SliceStart, after, ended, left_total_coeffs, placed, stopped, up_total_coeffs}
pub use Rattle.avc_mbsyntax.specs.declared.slice_data.SliceData.{SliceData}
pub use Rattle.avc_units.proofs.SetUnits.{set_units-append, set_units_more, sets_then}
pub use Rattle.avc_units.specs.Grouping.{set_units}
pub use Rattle.avc_tools.proofs.Taking.{IsDraining, all_taken, draining_begun, one_more, sets_again}
pub use Rattle.avc_tools.proofs.Taking.Stages.{drained, left_by_feed, left_by_finish, whole_units}
pub use Rattle.avc_tools.specs.Streams.{AreLeft, OnlyGrows, after_units_left, max_unit, new_stream, units_left}
pub use Rattle.avc_reading.specs.Asked.{Asked, addresses, form_in, macroblock_of_text, selection_of_text, text_number}
pub use Rattle.avc_selection.specs.Selected.{is_listed}
pub use Rattle.avc_reading.specs.Derived.{all_derived, coded_up_to, derived_of, had}
pub use Rattle.avc_selection.specs.Forms.{Form}
pub use Rattle.avc_selection.specs.Places.{behind}
pub use Rattle.avc_reading.specs.Listing.{Brought, ListedSoFar, brought, first_place, has_begun, has_met, has_picture, is_met, is_met_by, is_met_under, line_of_fault, refusal_lines, lines_so_far, lines_under, mb_lines}
pub use Rattle.avc_reading.specs.Listing.{macroblocks, nothing, refused, picture_after, picture_behind, pictures_begun, slice_lines, unit_lines}
pub use Rattle.avc_types.specs.declared.fault.Fault.TheVariants.{MissingMacroblocks, ArbitrarySliceOrder}
pub use Rattle.avc_selection.specs.Pictures.{OpenPicture}
pub use Rattle.avc_reading.specs.Slices.{data_of, where_next, macroblocks_of, start_of, with_macroblocks}
pub use Rattle.avc_reading.specs.Reading.{AreListed, AreRead, IsInRange, AreTold, AreToldFrom, IsBehind, IsSliceListed, IsSliceTold, IsTold}
pub use Rattle.avc_selection.specs.declared.selection.AtMacroblock.{AtMacroblock}
pub use Rattle.avc_selection.specs.declared.selection.Selection.{Selection}
pub use Rattle.avc_selection.specs.declared.selection.Selection.TheVariants.{Whole, OfPicture, Near}
pub use Rattle.avc_reading.specs.Reading.{IsDataIn, address_fault, asked_in, has_come_to}
pub use Rattle.avc_selection.specs.Followed.{IsFollowed, IsOpen, IsPicture, Tells, choice_at, has_come, is_chosen}
pub use Rattle.avc_selection.specs.declared.choice.Choice.{Choice}
pub use Rattle.avc_selection.specs.declared.choice.Choice.TheVariants.{Each, Later, Past}
pub use Rattle.avc_reading.specs.Neighbours.{HasRems, IsDerived}
pub use Rattle.avc_selection.specs.declared.derived.Derived.{Derived}
pub use Rattle.avc_selection.specs.declared.picture.Picture.{Picture}
pub use Rattle.avc_selection.specs.declared.place.MacroblockPlace.{MacroblockPlace}
pub use Rattle.avc_reading.specs.Slices.{one_more as one_slice_more}
