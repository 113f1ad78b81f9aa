-- The names that the proofs cite of std, of the crates below and of the definitions here, passed on from one place. Declares nothing.
pub use Rattle.std.proofs.Common.{◌≡◌, ◌≢◌, ℕ, zero, suc, ◌+◌, ◌-◌, ◌<◌, ◌≤◌, ◌<ℤ◌, ℤ, pos, negsuc, neg_ℤ, nat_abs, List, [], ◌∷◌, ◌++◌, length, take, drop}
pub use Rattle.std.proofs.Common.{reverse, Bool, true, false, refl, ap, subst, ◌∙◌, sym, arith, inl, inr, append_assoc, append-nil, length-append, Option, Some}
pub use Rattle.std.proofs.Common.{None, ◌||◌, nat_lt, ◌^◌, map, Result, Ok, get_or, ◌*◌, ◌%◌, not, lit<, w8, min, to_z, of_z, w16, rules, eqb}
pub use Rattle.std.proofs.Common.{is_some, nat_le, ◌/◌, ◌&&◌, ◌≤ℤ◌, length-set, set}
pub use Rattle.std.proofs.Math.ListN.{drop_of_length-le}
pub use Rattle.std.proofs.Math.Nat.{pow-succ', pow-le-pow_right, div-lt_iff_lt-mul, mod-add-div, mod-lt}
pub use Rattle.std.proofs.Math.Seq.{drop-append_seam, take-append_seam}
pub use Rattle.std.proofs.lemmas.Bool.{cases_eq, cases_lt, eq-eqb, ne_eqb, le-leb, le-ltb, lt-ltb, cases_order, ltb-true, agree_below, agree_below_at}
pub use Rattle.std.proofs.lemmas.Bool.{and_parts}
pub use Rattle.std.proofs.lemmas.Bool.Decides.{nat_tests}
pub use Rattle.std.proofs.lemmas.Grind.{common_steps}
pub use Rattle.std.proofs.lemmas.Int.{ints}
pub use Rattle.std.proofs.lemmas.List.{length-drop, length-map, length-replicate, reverse-reverse, take-append-drop, get_or-map, get_or-take, length-reverse}
pub use Rattle.std.proofs.lemmas.List.{length-take-le, drop_more, map-append, take_more, take_more_set}
pub use Rattle.std.proofs.lemmas.List.{replicate-append-replicate, drop_all}
pub use Rattle.std.proofs.lemmas.List.Elements.{All-drop, All-head, All-tail, All-append, All-cons, All-nil, All-weaker, All-map}
pub use Rattle.std.proofs.lemmas.List.Sorted.{All-permutation, IsPermutation-reverse, IsPermutation-map, sum_by-IsPermutation}
pub use Rattle.std.proofs.lemmas.List.Sums.{sum_by-cons}
pub use Rattle.std.proofs.lemmas.Nat.{pow_pos}
pub use Rattle.std.proofs.lemmas.Option.{slice_get_past, slice_get_within, get_or_from_slice_get}
pub use Rattle.std.proofs.lemmas.Slice.Zip.{firsts-zip, seconds-zip}
unfoldable pub use Rattle.std.specs.Int.Count.{count_leading_zeros}
pub use Rattle.std.specs.List.{flat_map, sum, zip, range_with_len, All}
pub use Rattle.std.specs.Option.{option_map, option_copied}
pub use Rattle.std.specs.Prelude.{◌==◌, if◌then◌else◌, int_lt, replicate, IsTrue, slice_get}
pub use Rattle.avc_annexb.specs.Escapes.{rbsp}
pub use Rattle.avc_bits.proofs.Reading.{u_reads, before_found, before_many, before_short}
pub use Rattle.avc_bits.proofs.Reading.Numbers.{bits_of-zero}
pub use Rattle.avc_bits.specs.Bits.{Read, ◌>>=◌, bits_of, give, or_none, times, Bits, ◌>>◌, check, bits_before_stop, byte_bits, refuse, start, more}
pub use Rattle.avc_bits.specs.Bits.{more_data}
pub use Rattle.avc_bits.specs.Codes.{u, IsReadBy, IsU, Takes, flag, zeros, zeros_before_one, ue_to, align, skip, te_to, bits}
pub use Rattle.avc_bits.specs.Codes.{ue}
pub use Rattle.avc_bits.specs.Reader.{reader_bits}
unfoldable pub use Rattle.avc_bits.specs.Reader.{leading}
pub use Rattle.avc_cavlc.proofs.Levels.TrailingOnes.{before, run_last, run_most}
pub use Rattle.avc_cavlc.specs.Block.{level, level_code, level_of_code, levels, next_suffix_length, residual_block, run, runs, suffix_size, token_levels}
pub use Rattle.avc_cavlc.specs.Block.{trailing_one, each_after_zeros}
pub use Rattle.avc_mbsyntax.proofs.SliceDataReading.Macroblocks.{token_capped}
pub use Rattle.avc_mbsyntax.specs.Reading.{after_pattern, block_mode, block_where, chroma_dc, residual_blocks, i_mb, i_nxn_mb, i_pcm_mb, is_coded, mvd_l0, p_mb}
pub use Rattle.avc_mbsyntax.specs.Reading.{p_mb_type, qp_after, qp_delta, qp_delta_where, ref_idx_l0, residual, sub_mb_type, macroblock}
unfoldable pub use Rattle.avc_mbsyntax.specs.Reading.{blocks}
pub use Rattle.avc_mbsyntax.specs.SliceData.{skipped, slice_data, SliceStart, context, SliceMbs, after_run, ended, from_run, i_data, p_data, where_room}
pub use Rattle.avc_mbsyntax.specs.SliceData.{left_total_coeffs, up_total_coeffs}
pub use Rattle.avc_mbsyntax.specs.declared.context.Context.{Context}
pub use Rattle.avc_neigh.proofs.Found.{total_coeffs_found}
pub use Rattle.avc_neigh.proofs.Found.RowKeeping.{slice_get-append, slice_get-next}
pub use Rattle.avc_neigh.specs.Around.{PictureInfo, mb_a, mb_b}
pub use Rattle.avc_neigh.specs.Blocks.{available, Location, at_location, location_at}
pub use Rattle.avc_neigh.specs.Laws.{InfoTell}
pub use Rattle.avc_neigh.specs.TotalCoeffs.{nc, total_coeffs_of}
pub use Rattle.avc_neigh.specs.declared.neighbour_info.NeighbourInfo.{NeighbourInfo}
pub use Rattle.avc_neigh.specs.declared.neighbour_info.TotalCoeffs.{TotalCoeffs}
pub use Rattle.avc_params.proofs.ParameterSets.{plain, small}
pub use Rattle.avc_rbsp.proofs.Reading.{ReadsAt, GivesBack, reads_back, with_word, with_value, at-bind, back-give, back-bind, back-then, back-last}
pub use Rattle.avc_rbsp.proofs.Reading.{back-bits, back-u, back-flag, back-zeros, back-ue, back-se, back-te}
pub use Rattle.avc_rbsp.specs.Made.{Made, with_bits, Puts, nothing}
pub use Rattle.avc_rbsp.specs.Rbsps.{IsUnit}
pub use Rattle.avc_rbsp.specs.Words.{joined, te_word, bits_after_one}
unfoldable pub use Rattle.avc_rbsp.specs.Words.{ue_word, se_word}
pub use Rattle.avc_slice.specs.Header.{is_p}
pub use Rattle.avc_types.specs.Macroblock.{Mb, Residual, MbSyntax, p_skip, i_pcm, i_nxn, i_16x16, p_inter, total_coeff, parts_of, partitions}
pub use Rattle.avc_types.specs.MacroblockFields.{syntax_of}
pub use Rattle.avc_types.specs.Pictures.{PicMb}
pub use Rattle.avc_types.specs.declared.fault.Fault.{Fault}
pub use Rattle.avc_types.specs.declared.macroblock.Mvd.{Mvd}
pub use Rattle.avc_types.specs.declared.macroblock.PMbType.{PMbType}
pub use Rattle.avc_types.specs.declared.macroblock.PMbType.TheVariants.{P8x8, P8x8Ref0}
pub use Rattle.avc_types.specs.declared.macroblock.SubMbType.{SubMbType}
pub use Rattle.avc_types.specs.declared.memory.OutOfMemory.{OutOfMemory}
pub use Rattle.avc_vlc.proofs.Entries.Codes.{table_read, run_own, token_own, zeros_own, run_back, run_whole, token_back, token_whole, zeros_back}
pub use Rattle.avc_vlc.proofs.Entries.Codes.{chroma_zeros_whole, zeros_whole, all_in, is_token, token_tested, tokens_tested}
pub use Rattle.avc_vlc.specs.Laws.{IsReadBack, IsRead}
pub use Rattle.avc_vlc.specs.Reading.{IsToken, coeff_token, run_before, token, total_zeros, IsIn, token_table, coded_block_pattern, pattern_at}
pub use Rattle.avc_vlc.specs.Tables.{cbp_intra, cbp_inter}
pub use Rattle.avc_vlc.specs.Writing.{run_word, token_word, zeros_word, word_bits}
pub use Rattle.avc_vlc.specs.declared.coeff_token.Token.{Token}
pub use Rattle.avc_make_headers.proofs.Headers.{header_unit_is_read}
pub use Rattle.avc_make_headers.proofs.Headers.Words.{at_place, back-check, back-se_within, back-times, back-ue_to, GivesEach, pair, put_all, unit_start}
pub use Rattle.avc_make_headers.specs.HeaderWriting.{header_bits, slice_unit_header}
pub use Rattle.avc_make_headers.specs.MbParts.{IsCodedMode, IsMvd, mode_bits, mvd_bits, sub_mb_number}
pub use Rattle.avc_make_headers.specs.VuiWriting.{Each}
pub use Rattle.avc_make.specs.BlockWriting.{AreCodes, BlocksAreRead, HasCodes, IsCode, after_zeros, block_bits, code_of_level, coded, first_length, least_code}
pub use Rattle.avc_make.specs.BlockWriting.{level_bits, levels_bits, ones_first, prefix_of, run_bits, runs_bits, runs_of, sign_bits, values_of, zeros_bits}
pub use Rattle.avc_make.specs.BlockWriting.{BlocksAreWritable, SmallAreWritable}
pub use Rattle.avc_make.specs.DataWriting.{data_bits, CanFollow, DataStandsAlone, IsLike, CanStand, DataIsRead, is_skip}
unfoldable pub use Rattle.avc_make.specs.DataWriting.{i_data_bits, p_data_bits}
pub use Rattle.avc_make.specs.MbWriting.{mb_bits, MbIsRead, type_16x16, AreSamples, HasQuarters, HasRanges, IsIPcm, IsPInter, IsRefIdx, has_ref_idx}
pub use Rattle.avc_make.specs.MbWriting.{i_pcm_bits, i_type, p_inter_bits, p_mb_number, qp_of, ref_idx_bits, sub_mb_types_bits}
pub use Rattle.avc_make.specs.MbWriting.{zeros_to_byte, IsI16x16, IsINxN, IsPattern, i_16x16_bits, i_nxn_bits, pattern_number}
pub use Rattle.avc_make.specs.MbWriting.{pattern_of, qp_delta_bits, AreBlocks, IsBlock, IsChromaDc, IsResidual, bits_where_coded, block_words, blocks_bits}
pub use Rattle.avc_make.specs.MbWriting.{chroma_dc_bits, luma_max, residual_bits, place_of}
pub use Rattle.avc_make.specs.SliceMbs.{CodedSlicesAreRead, earlier_mbs, own_start, IsCodedSlice, coded_slice_bits}
pub use Rattle.avc_make.specs.SliceSteps.{rest_bits, IsOf, AreInfoOf, last_run_bits_where, own_bits, run_after, some_bits}
pub use Rattle.avc_make.specs.declared.slice.CodedSlice.{CodedSlice}
pub use Rattle.avc_types.specs.declared.fault.Fault.TheVariants as faults
