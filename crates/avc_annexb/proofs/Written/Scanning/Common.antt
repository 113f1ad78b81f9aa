-- The names that the proofs cite of std, of the crates below and of the definitions here, passed on from one place. Declares nothing.
pub use Rattle.std.proofs.Common.{◌≡◌, ℕ, ◌+◌, ◌-◌, ◌<◌, ◌≤◌, List, [], ◌∷◌, ◌++◌, length, Bool, true, false, eqb, Option, Some, None, refl, ap, ◌∙◌, sym}
pub use Rattle.std.proofs.Common.{arith, append_assoc, append-nil, zero, suc, subst, length-append, replicate, slice_index, take, drop, ⊎_elim, map, All}
pub use Rattle.std.proofs.Common.{nat_le, is_some, min, get_or, take_all, ◌⊎◌, inl, inr, slice_get, ◌^◌, flat_map, add-one, rules}
pub use Rattle.std.proofs.Math.Seq.{take-add}
pub use Rattle.std.proofs.lemmas.Bool.{ne_eqb, cases_eq, cases_lt, eq-eqb, eqb-true, or_parts}
pub use Rattle.std.proofs.lemmas.Iterator.Adapters.{option_map_id}
pub use Rattle.std.proofs.lemmas.List.{replicate-append-replicate, length-replicate, get_or-drop, length-drop, take-append-drop, drop-drop, drop_more}
pub use Rattle.std.proofs.lemmas.List.{get_or-take, length-take, length_push, map-append, take_rest}
pub use Rattle.std.proofs.lemmas.Simd.{map-map}
pub use Rattle.std.proofs.lemmas.Bool.Decides.{nat_tests, Decides-eqb}
pub use Rattle.std.proofs.lemmas.List.Elements.{All-nil, All-cons, All-head, All-tail, All-append, All-same}
pub use Rattle.std.proofs.lemmas.Option.{slice_get_within, same_Some, get_or_from_slice_get}
pub use Rattle.std.proofs.lemmas.Result.{on_ok_weaker}
pub use Rattle.std.proofs.lemmas.Slice.Eq.{starts_is}
pub use Rattle.std.specs.Option.{option_map, option_to_list}
pub use Rattle.std.specs.Prelude.{◌≢◌, if◌then◌else◌, IsTrue, IfSome}
pub use Rattle.avc_annexb.specs.Escapes.{rbsp, unescaped_run, zeros_after}
pub use Rattle.avc_annexb.specs.Laws.{contents, contents_within, body_within, unit_within, UnitsAreWithin, LimitsCutUnits, UnitsAreWhole, UnitsStay, IsUnitOf}
pub use Rattle.avc_annexb.specs.Laws.{WrittenUnitsStand, WrittenUnitsStandAlone, UnitsAreNumbered, UnitsAreFew}
pub use Rattle.avc_annexb.specs.Scanning.{HasNoBoundary, ScannedBytes, IsAt, HasLoneZeros, placed_units_after, closed_unit, with_more, HasLoneZerosBefore}
pub use Rattle.avc_annexb.specs.Scanning.{HasNoZero, HasOneMore, HasOneMoreAtMost, HasTaken, AreReady, IsOpenUnit, with_bytes, IsSplitterStateIn, has_ended, has_failed, splitter_state, HasScanned}
pub use Rattle.avc_annexb.specs.SplitterState.{SplitterState, TakesUnit, next_unit_of, after_next_unit, units_waiting}
pub use Rattle.avc_annexb.specs.Units.{PlacedUnit, placed_units, is_start, is_end, before_end, without_last_zeros, unit_at, unit_bytes, saturated, numbered}
pub use Rattle.avc_annexb.specs.Units.{unit_of, units, units_begun, nal_unit_type, nal_ref_idc}
pub use Rattle.avc_annexb.specs.Written.{start_code, written}
pub use Rattle.avc_annexb.specs.declared.open_unit.OpenUnit.{OpenUnit}
pub use Rattle.avc_annexb.specs.declared.ready.Ready.{Ready}
pub use Rattle.avc_annexb.specs.declared.scanner.Scanner.{Scanner}
pub use Rattle.avc_annexb.specs.declared.splitter.SplitterPhase.{SplitterPhase}
pub use Rattle.avc_annexb.specs.declared.splitter.SplitterPhase.TheVariants.{Running, Ended, Failed}
pub use Rattle.avc_annexb.specs.declared.unit.Unit.{Unit as Piece, Unit}
