-- The names that the proofs cite of std, of the crates below and of the definitions here, passed on from one place. Declares nothing.
pub use Rattle.std.proofs.Common.{◌≡◌, ℕ, zero, suc, ◌+◌, ◌-◌, ◌*◌, ◌/◌, ◌%◌, ◌^◌, ◌<◌, ◌≤◌, List, [], ◌∷◌, ◌++◌, length, Bool, true, false, eqb, refl, ap}
pub use Rattle.std.proofs.Common.{lit<, inl, inr, ◌∙◌, sym, arith, take, drop, get_or, length-append, length-drop, append_assoc, Option, Some, None, Ok, Err}
pub use Rattle.std.proofs.Common.{append-nil, min, nat_lt, ℤ, ◌≤ℤ◌, nat_le, IfSome, Result, subst, rules, take_all}
pub use Rattle.std.proofs.Math.Nat.{pow-succ', mod-eq_of_lt, mod-lt, mul-lt-mul_of_pos_right}
pub use Rattle.std.proofs.Math.Seq.{take-append-add, take-append_seam}
pub use Rattle.std.proofs.lemmas.Bool.{cases_order, lt-ltb, le-ltb, cases_lt, ne_eqb}
pub use Rattle.std.proofs.lemmas.Bool.Decides.{nat_tests}
pub use Rattle.std.proofs.lemmas.Int.{ints}
pub use Rattle.std.proofs.lemmas.List.{drop-drop, drop-take, drop_more, take_more, take-take, take-append-drop, length-take-le, get_or-drop}
pub use Rattle.std.proofs.lemmas.List.{replicate-append-replicate, length-replicate, take-append-le, take-replicate, length-take, take_at, drop_at}
pub use Rattle.std.proofs.lemmas.List.Concat.{flat_map-append}
pub use Rattle.std.proofs.lemmas.List.Elements.{All-cons, All-nil}
pub use Rattle.std.proofs.lemmas.Nat.{pow-add, mod-pow-add, shr-shr, shl-shr, shr_high, field_of, mod-mul-add, pow_pos, pow_below, leading_length, one_shl}
pub use Rattle.std.proofs.lemmas.Nat.{shl_whole}
pub use Rattle.std.proofs.lemmas.Nat.Bits.{bit_at-trailing_zeros}
pub use Rattle.std.specs.Int.{bit_at, w8}
pub use Rattle.std.specs.List.{All}
pub use Rattle.std.specs.Prelude.{replicate, IfOk}
pub use Rattle.avc_types.specs.declared.fault.Fault.{Fault}
pub use Rattle.avc_types.specs.declared.fault.Fault.TheVariants.{Truncated, CodeTooLong}
pub use Rattle.avc_bits.specs.Bits.{bits_of, byte_bits, number_of, before_last_one, one_before, or_none, bits_before_stop, Bits, more_data, passed, Read}
pub use Rattle.avc_bits.specs.Bits.{times, ◌>>=◌, ◌>>◌, give, check, where_set, start}
pub use Rattle.avc_bits.specs.Codes.{split, zeros, zeros_before_one, u, ue, skip, Takes, IsCutShort, IsReadBy, IsPrefixFree, IsU, IsUe, IsSe, IsTe, se, te}
pub use Rattle.avc_bits.specs.Codes.{signed_value, ue_to, se_within, u_to}
pub use Rattle.avc_bits.specs.Reader.{left_of, position_of, Reads}
unfoldable pub use Rattle.avc_bits.specs.Reader.{leading, reader_bits}
pub use Rattle.avc_bits.specs.declared.reader.BitReader.{BitReader}
