-- The names that the proofs cite of std, of the crates below and of the definitions here, passed on from one place. Declares nothing.
pub use Rattle.std.proofs.Common.{◌≡◌, ◌≢◌, ℕ, List, [], ◌∷◌, ◌++◌, length, Bool, true, false, refl, ap, ◌∙◌, sym, inl, inr, Some, ◌+◌, subst, arith, length-append}
pub use Rattle.std.proofs.Common.{append-nil, Ok, Err, zero, suc, ◌-◌, ℤ, pos, negsuc, nat_le, map, drop, get_or, ◌<◌, ◌≤◌, ◌<ℤ◌, append_assoc, ◌^◌, ◌*◌, ◌/◌}
pub use Rattle.std.proofs.Common.{◌%◌, eqb, take, min, lit<, ◌≤ℤ◌, rules}
pub use Rattle.std.proofs.Math.Nat.{div-lt_iff_lt-mul, div-eq_of_lt, div-eq_of_lt-le, pow-succ', mod-lt, mod-eq_of_lt, pow-le-pow_right}
pub use Rattle.std.proofs.Math.Pow.{mod-mod-pow}
pub use Rattle.std.proofs.Math.Seq.{take-append_seam}
pub use Rattle.std.proofs.lemmas.Bool.{and_parts, true_from_ne_false, leb-true, le-ltb, cases_lt, or_parts, ltb-true, lt-ltb, lt-leb, le-leb, or_from}
pub use Rattle.std.proofs.lemmas.Int.{ints}
pub use Rattle.std.proofs.lemmas.List.{get_or-map, get_or-replicate, take-take, take-append-le, take-append-drop, take_all, get_or_read, drop-drop, drop_at}
pub use Rattle.std.proofs.lemmas.List.Folds.{list_all_at, list_any_more}
pub use Rattle.std.proofs.lemmas.List.FromFn.{get_or-range_with_len, length-range_with_len, get_or-map-range_with_len, get_or-enumerate_from}
pub use Rattle.std.proofs.lemmas.List.FromFn.{length-enumerate_from}
pub use Rattle.std.proofs.lemmas.Nat.{pow-add, mod-pow-add, shr-shr, div-mul-add, pow_pos, leading_length, and_mask, one_shl}
pub use Rattle.std.proofs.lemmas.Option.{slice_get-get_or, slice_get_past}
pub use Rattle.std.specs.Int.Count.{count_leading_zeros}
pub use Rattle.std.specs.List.{list_all, range_with_len, list_any, enumerate_from}
pub use Rattle.std.specs.Option.{IsSome, is_some, option_map}
pub use Rattle.std.specs.Prelude.{Option, None, ◌||◌, not, Result, nat_lt, if◌then◌else◌, ◌&&◌, IfOk, ◌⊎◌, replicate, IfSome}
pub use Rattle.avc_bits.proofs.Reading.{skip_long, skip_short, split_long, split_short}
pub use Rattle.avc_bits.proofs.Reading.Numbers.{length-bits_of, number-bits_of, bits_of-zero}
pub use Rattle.avc_bits.specs.Bits.{Bits, ◌>>◌, check, give, bits_of, Read, refuse, number_of, start}
pub use Rattle.avc_bits.specs.Codes.{IsCutShort, IsReadBy, IsPrefixFree, Takes, split, skip, ue}
pub use Rattle.avc_bits.specs.Reader.{Reads, reader_bits}
pub use Rattle.avc_bits.specs.declared.reader.BitReader.{BitReader}
pub use Rattle.avc_types.specs.declared.fault.Fault.{Fault}
pub use Rattle.avc_types.specs.declared.fault.Fault.TheVariants.{BadCode}
pub use Rattle.avc_vlc.specs.Indexing.{AreRuns, AreShortRuns, AreWritten, entry_of_run, few_table}
pub use Rattle.avc_vlc.specs.declared.run_before.Run.{Run}
pub use Rattle.std.proofs.lemmas.List.{length-map}
pub use Rattle.avc_vlc.specs.Indexing.{begins, goes_on, word_entry, entry_from, Agree, Decides, AreFronts, AreIndexed, IsIndexed, index, entry_of, IsPlaceOf}
pub use Rattle.avc_vlc.specs.Indexing.{IsFrontOf, place_bits, six_bit_entry, six_bit_number, IsAhead, IsWritten, entry_word, holds, place_word, word_at}
pub use Rattle.avc_vlc.specs.Laws.{IsTableRead, IsRead, IsReadBack}
pub use Rattle.avc_vlc.specs.Reading.{Table, IsIn, after_word, is_prefix, lookup, is_prefix_free, table_code, tokens, tokens_8, token_table, row_table, row_at}
pub use Rattle.avc_vlc.specs.Reading.{zeros_table, run_table, coeff_token, run_before, total_zeros, IsToken, token, pattern_at, coded_block_pattern}
pub use Rattle.avc_vlc.specs.Tables.{coeff_token_0, coeff_token_2, coeff_token_4, total_zeros_4x4, total_zeros_chroma_dc, run_before_codes}
pub use Rattle.avc_vlc.specs.Tables.{coeff_token_chroma_dc, cbp_intra, cbp_inter}
pub use Rattle.avc_vlc.specs.Writing.{is_number_same, is_token_same, run_word, token_word, word_of, zeros_word, number_is_same, token_is_same}
pub use Rattle.avc_vlc.specs.declared.entry.Entry.{Entry}
pub use Rattle.avc_vlc.specs.declared.coeff_token.Token.{Token}
