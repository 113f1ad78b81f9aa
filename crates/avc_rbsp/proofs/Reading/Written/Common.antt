-- The names that the proofs cite of std, of the crates below and of the definitions here, passed on from one place. Declares nothing.
pub use Rattle.std.proofs.Common.{◌≡◌, ℕ, zero, suc, ◌+◌, ◌-◌, ◌<◌, ◌≤◌, ◌<ℤ◌, ℤ, pos, neg_ℤ, List, [], ◌∷◌, ◌++◌, length, take, drop}
pub use Rattle.std.proofs.Common.{Bool, true, false, refl, ap, ◌∙◌, sym, arith, inl, inr, append_assoc, append-nil, length-append}
pub use Rattle.std.proofs.Common.{nat_lt, ◌^◌, Ok, get_or, ◌*◌, ◌%◌, to_z, of_z, w32}
pub use Rattle.std.proofs.Math.ListN.{drop_of_length-le}
pub use Rattle.std.proofs.Math.Nat.{pow-succ', mod-eq_of_lt}
pub use Rattle.std.proofs.Math.Seq.{drop-append_seam, take-append_seam}
pub use Rattle.std.proofs.lemmas.Bool.{cases_eq, ne_eqb, lt-ltb}
pub use Rattle.std.proofs.lemmas.Bool.Decides.{nat_tests}
pub use Rattle.std.proofs.lemmas.Grind.{common_steps}
pub use Rattle.std.proofs.lemmas.Int.{ints}
pub use Rattle.std.proofs.lemmas.List.{length-replicate, take-append-drop}
pub use Rattle.std.proofs.lemmas.List.{drop_more, take-append-le, drop-append-le}
pub use Rattle.std.proofs.lemmas.Nat.{one_shl, or_shifted, pow_pos, leading_length, mod-mul-add}
unfoldable pub use Rattle.std.specs.Int.Count.{count_leading_zeros}
pub use Rattle.std.specs.Prelude.{◌==◌, if◌then◌else◌, replicate, bit_or}
pub use Rattle.avc_annexb.specs.Escapes.{rbsp}
pub use Rattle.avc_bits.proofs.Reading.{split_long}
pub use Rattle.avc_bits.proofs.Reading.Numbers.{bits_of-number, byte_bits-append, length-bits_of, length-byte_bits, number-append, number-bits_of, number-zeros}
pub use Rattle.avc_bits.proofs.Reading.Numbers.{bits_of-zero, number-inj, before_one}
pub use Rattle.avc_bits.specs.Bits.{Read, ◌>>=◌, bits_of, give, or_none, byte_bits, number_of, before_last_one}
pub use Rattle.avc_bits.specs.Codes.{u, flag, zeros, zeros_before_one, bits, ue, se, signed_value, te, IsSe, IsTe, IsUe}
pub use Rattle.avc_types.specs.declared.fault.Fault.{Fault}
pub use Rattle.avc_rbsp.specs.Escaping.{HasNoStart, escaped_byte, zeros_with, escaped}
unfoldable pub use Rattle.avc_rbsp.specs.Escaping.{escaped_after}
pub use Rattle.avc_rbsp.specs.Made.{IsFilled}
pub use Rattle.avc_rbsp.specs.Rbsps.{RbspsAreRead}
pub use Rattle.avc_rbsp.specs.Words.{te_word, bits_after_one, signed_index}
unfoldable pub use Rattle.avc_rbsp.specs.Words.{ue_word, se_word, ReadsBack}
pub use Rattle.avc_types.specs.declared.fault.Fault.TheVariants as faults
