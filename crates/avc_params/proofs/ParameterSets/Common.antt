-- The names that the proofs cite of std, of the crates below and of the definitions here, passed on from one place. Declares nothing.
pub use Rattle.std.proofs.Common.{◌≡◌, ℕ, Option, IfSome, Result, Ok, Err, refl, ap, sym, pos, negsuc, ◌≤◌, ◌==◌, not, List, Some, ◌+◌, ◌*◌, Bool}
pub use Rattle.std.proofs.Common.{true, false, nat_lt, nat_le, ◌&&◌, ◌||◌, length, None, IsSome, is_some, arith, [], ◌∷◌, ◌++◌, ◌∙◌, if◌then◌else◌}
pub use Rattle.std.proofs.Common.{IsErrAnd, to_z, of_z, w32, append-nil, eqb-true, Bor, All, rules, ◌-◌, vec_len}
pub use Rattle.std.proofs.lemmas.Bool.Decides.{nat_tests}
pub use Rattle.std.proofs.lemmas.Grind.{common_steps}
pub use Rattle.std.proofs.lemmas.Int.{ints}
pub use Rattle.std.proofs.lemmas.List.Elements.{filter-append, filter_passes, All-head, All-tail}
pub use Rattle.std.specs.List.{filter}
pub use Rattle.std.specs.Option.{option_copied, option_map}
pub use Rattle.avc_bits.proofs.Reading.{Gives, gives-any, gives-bind, gives-where_set, IsFrom, bind-ok, gives-check, gives-give, gives-se_within}
pub use Rattle.avc_bits.proofs.Reading.{gives-then, gives-u_to, gives-ue_to, gives-times, times_more, times_fault}
pub use Rattle.avc_bits.specs.Bits.{Bits, Read, more_data, start, give, times}
pub use Rattle.avc_bits.specs.Codes.{flag, se_within, u_to, ue, ue_to, u, se}
pub use Rattle.avc_bits.specs.Reader.{reader_bits, reader_bytes, Reads}
pub use Rattle.avc_bits.specs.declared.reader.BitReader.{BitReader}
pub use Rattle.avc_types.specs.declared.fault.Fault.{Fault}
pub use Rattle.avc_params.specs.Limits.{max_dpb_mbs, max_macroblocks, max_side, dpb_size, height_in_mbs, restriction_of, width_in_mbs}
pub use Rattle.avc_params.specs.Parsing.{optional}
pub use Rattle.avc_params.specs.PpsReading.{default_counts, pps, pps_after, quantisation, switches}
pub use Rattle.avc_params.specs.Reading.{whole, pps_id, pps_of, read_value, sps_id, sps_of}
pub use Rattle.avc_params.specs.Same.{same_sps}
pub use Rattle.avc_params.specs.SpsReading.{constraint_flags, cropping, cycle, identity, lsb, order_count, size, sps, sps_after}
pub use Rattle.avc_params.specs.Stored.{Keeps, stored}
pub use Rattle.avc_params.specs.Tables.{accepted, is_id, is_pps, is_sps, last, pps_in_force, pps_record, sps_in_force, sps_record}
pub use Rattle.avc_params.specs.VuiReading.{vui}
pub use Rattle.avc_params.specs.Within.{IsPps, IsCropping, IsOrderCount, IsSps, PpsIsInForce, SpsIsInForce}
pub use Rattle.avc_params.specs.declared.pps.Pps.{Pps}
pub use Rattle.avc_params.specs.declared.pps_reading.DefaultCounts.{DefaultCounts}
pub use Rattle.avc_params.specs.declared.pps_reading.Quantisation.{Quantisation}
pub use Rattle.avc_params.specs.declared.set_unit.SetFault.{SetFault}
pub use Rattle.avc_params.specs.declared.set_unit.SetUnit.{SetUnit}
pub use Rattle.avc_params.specs.declared.set_unit.SetUnit.TheVariants.{OfSps, OfPps}
pub use Rattle.avc_params.specs.declared.sps.Cropping.{Cropping}
pub use Rattle.avc_params.specs.declared.sps.Sps.{Sps}
pub use Rattle.avc_params.specs.declared.sps_reading.Identity.{Identity}
pub use Rattle.avc_params.specs.declared.sps_reading.Size.{Size}
