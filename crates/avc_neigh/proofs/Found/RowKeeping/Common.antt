-- The names that the proofs cite of std, of the crates below and of the definitions here, passed on from one place. Declares nothing.
pub use Rattle.std.proofs.Common.{ℕ, ◌≡◌, ◌≢◌, ◌+◌, ◌-◌, ◌%◌, ◌==◌, suc, arith, Bool, true, false, List, Option, None, length, get_or, sym, ap, ◌∙◌, add-one}
pub use Rattle.std.proofs.Common.{◌<◌, ◌≤◌, zero, ◌||◌, nat_lt, inl, inr, [], ◌∷◌, ◌++◌, Some, set, refl, length-append, length-set, get_or-set_same}
pub use Rattle.std.proofs.Common.{get_or-set_other, ◌*◌, ◌/◌, ◌⊎◌, ℤ, pos, negsuc, ◌+ℤ◌, lit<, ◌&&◌, if◌then◌else◌, map, ◌-ℤ◌, take, drop, drop-cons}
pub use Rattle.std.proofs.Common.{length-drop, lit≤, IfSome, nat_eq, bit_and}
pub use Rattle.std.proofs.Math.Nat.{suc-mod, mod-eq_of_lt, mod_self}
pub use Rattle.std.proofs.Math.Seq.{take-suc-set}
pub use Rattle.std.proofs.lemmas.Bool.{ne_eqb, cases_lt, cases_eq, eq-eqb, lt-ltb, le-ltb, agree_below_at}
pub use Rattle.std.proofs.lemmas.Bool.Decides.{nat_tests}
pub use Rattle.std.proofs.lemmas.Int.{ints}
pub use Rattle.std.proofs.lemmas.List.{get_or_default, get_or_past, length-map, get_or-take, length-take, length-take-le, take_all, drop_all, drop_more}
pub use Rattle.std.proofs.lemmas.Grind.{take-set_at, get_or-set_at}
pub use Rattle.std.proofs.lemmas.Nat.{div-add-mod', mod_below}
pub use Rattle.std.proofs.lemmas.Option.{slice_get-map, get_or_from_slice_get}
pub use Rattle.std.specs.List.{slice_get, All, slice_index_or}
pub use Rattle.std.specs.Option.{option_map, option_copied}
pub use Rattle.avc_types.specs.Macroblock.{Mb}
pub use Rattle.avc_types.specs.Pictures.{PicMb, Coded}
pub use Rattle.avc_neigh.specs.Around.{PictureInfo, back, of_slice, mb_a, mb_b, mb_c, mb_d, Around, around, info_of}
pub use Rattle.avc_neigh.specs.BlockNear.{block_of, block_near, IsAsked, mode_near, mode_of_block, prediction_near, HasModes, ModesAreAround, AreNxnModes}
pub use Rattle.avc_neigh.specs.Blocks.{Location, location_in, location_at, block_at, same_slice, slices_equal, in_slice, at_location, block_x, block_y}
pub use Rattle.avc_neigh.specs.Laws.{BlocksAreFound, InfoTell, IsNext, TellSlices, AvailabilityIsFound, TotalCoeffsAreFound, holds_of, is_there_by}
pub use Rattle.avc_neigh.specs.Laws.{is_there_near}
pub use Rattle.avc_neigh.specs.Modes.{chosen_mode, mode_of_neighbour, nxn_modes, predicted_mode, prediction_for, IsMode, IsRem}
pub use Rattle.avc_neigh.specs.Nearby.{nearby, by_block}
pub use Rattle.avc_neigh.specs.RowEntries.{AreRowEntries, place_after}
pub use Rattle.avc_neigh.specs.TotalCoeffs.{total_coeffs_of}
pub use Rattle.avc_neigh.specs.declared.neighbour_info.NearMode.{NearMode}
pub use Rattle.avc_neigh.specs.declared.neighbour_info.NearMode.TheVariants.{Inter as inter, Mode as mode}
pub use Rattle.avc_neigh.specs.declared.neighbour_info.NeighbourInfo.{NeighbourInfo}
pub use Rattle.avc_neigh.specs.declared.row.Place.{Place}
