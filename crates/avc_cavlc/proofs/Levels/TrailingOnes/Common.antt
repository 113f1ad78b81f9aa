-- The names that the proofs cite of std, of the crates below and of the definitions here, passed on from one place. Declares nothing.
pub use Rattle.std.proofs.Common.{◌≡◌, ◌≢◌, ℕ, zero, suc, ◌+◌, ◌-◌, ◌≤◌, ℤ, pos, Bool, true, false, List, [], ◌∷◌, ◌++◌, length, reverse, refl, ap, ◌∙◌, sym}
pub use Rattle.std.proofs.Common.{arith, append-nil, length-append, Ok, Err, ◌<◌, take, drop, set, get_or, subst, append_assoc, length-set, inl, inr, ◌/◌, ◌%◌}
pub use Rattle.std.proofs.Common.{◌^◌, map, to_z, of_z, w16, ◌*◌, lit<, rules, max, nat_abs, w8}
pub use Rattle.std.proofs.Math.Nat.{pow-le-pow_right, mul-le-mul}
pub use Rattle.std.proofs.Math.Seq.{take-append-add, drop-append-add}
pub use Rattle.std.proofs.lemmas.Bool.{leb-true, lt-leb, cases_lt, cases_eq, ne_eqb, eq-eqb, le-leb, or_right, or_from}
pub use Rattle.std.proofs.lemmas.Bool.Decides.{nat_tests}
pub use Rattle.std.proofs.lemmas.Grind.{flat_map-append, reverse_onto}
pub use Rattle.std.proofs.lemmas.Int.{ints}
pub use Rattle.std.proofs.lemmas.List.{length-replicate, drop-replicate, take-replicate, take-take, take-set-le, drop-set, drop-take, take-append-drop}
pub use Rattle.std.proofs.lemmas.List.{drop-drop, get_or-take, length-take, get_or-set_same, get_or-set_other, get_or-replicate, set_split, drop-append-le}
pub use Rattle.std.proofs.lemmas.List.{get_or_past, drop_more, take-append-le, length-take-le, take_more_set, length-drop}
pub use Rattle.avc_cavlc.specs.Block.{placed, each_after_zeros, run, runs, IsLevel, IsSmall, trailing_one, level_code, suffix_size, level, levels}
pub use Rattle.avc_cavlc.specs.Block.{next_suffix_length, level_of_code, residual_block, token_levels}
pub use Rattle.std.proofs.lemmas.List.Elements.{All-map, All-push}
pub use Rattle.std.proofs.lemmas.List.FromFn.{get_or-map-range_with_len}
pub use Rattle.std.specs.List.{flat_map, zip, All}
pub use Rattle.std.specs.Prelude.{Result, IfOk, replicate, nat_le, ◌==◌, ◌&&◌, IsTrue, if◌then◌else◌, ◌||◌, negsuc}
pub use Rattle.avc_bits.proofs.Reading.{skip_short, skip_long, one_first, fault_later, u_long, u_short, before_found, before_many, before_short}
pub use Rattle.avc_bits.specs.Bits.{Bits, Read, ◌>>=◌, ◌>>◌, give, check, bits_of, passed, times, start}
pub use Rattle.avc_bits.specs.Codes.{skip, u, zeros_before_one}
pub use Rattle.avc_bits.specs.Reader.{leading, reader_bits, reader_bytes}
pub use Rattle.avc_bits.specs.declared.reader.BitReader.{BitReader}
pub use Rattle.avc_types.proofs.Frames.{total-append, counted}
pub use Rattle.avc_types.specs.Macroblock.{total_coeff}
pub use Rattle.avc_types.specs.declared.fault.Fault.{Fault}
pub use Rattle.avc_types.specs.declared.fault.Fault.TheVariants.{Truncated, BadCode}
pub use Rattle.avc_vlc.proofs.Entries.{skip-ok, skip-err}
pub use Rattle.avc_vlc.specs.Reading.{run_before, run_table, table_code, coeff_token, total_zeros}
pub use Rattle.avc_vlc.specs.declared.coeff_token.Token.{Token}
pub use Rattle.avc_cavlc.specs.Steps.{ArePlaced, ReadsFrom, ReadsInto, block_behind, placed_by_zeros, placed_others, zeros_within, placed_before, placed_by_runs, one_of_sign, three_ones, levels_after, raised}
