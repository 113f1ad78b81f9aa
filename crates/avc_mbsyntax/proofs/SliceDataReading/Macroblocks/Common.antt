-- The names that the proofs cite of std, of the crates below and of the definitions here, passed on from one place. Declares nothing.
pub use Rattle.std.proofs.lemmas.List.{set-get_or, get_or-replicate, get_or-set_other, get_or_past, length-replicate, map-append, replicate_more, take_all}
pub use Rattle.std.proofs.lemmas.List.{take_more, take_more_set}
pub use Rattle.std.proofs.lemmas.Result.{MatchResult-weaker}
pub use Rattle.std.proofs.Common.{◌≡◌, ◌≢◌, ℕ, zero, suc, ◌+◌, ◌-◌, ◌/◌, ◌^◌, append-nil, append_assoc, ◌<◌, ◌≤◌, min, ℤ, pos, Bool, true, false, List, [], ◌∷◌}
pub use Rattle.std.proofs.Common.{◌++◌, length, take, get_or, set, length-set, map, refl, ap, ◌∙◌, sym, arith, inl, inr, Ok, Err, ◌%◌, subst, Result, Some}
pub use Rattle.std.proofs.Common.{None, IfSome, length-append, rules, to_z, of_z, w8}
pub use Rattle.std.proofs.Math.Nat.{div-eq_of_lt}
pub use Rattle.std.proofs.lemmas.Bool.{cases_lt, le-ltb, ne_eqb, lt-leb, eqb-false, lt-ltb, ltb-false, eq-eqb}
pub use Rattle.std.proofs.lemmas.Bool.Decides.{nat_tests}
pub use Rattle.std.proofs.lemmas.Int.{ints}
pub use Rattle.std.proofs.lemmas.List.Elements.{All-replicate}
pub use Rattle.std.proofs.lemmas.Nat.{pow_pos}
pub use Rattle.std.specs.List.{All, range_with_len}
pub use Rattle.std.specs.Option.{option_copied}
pub use Rattle.std.specs.Prelude.{Option, replicate, ◌==◌, ◌||◌, nat_le, if◌then◌else◌, not, IfOk, nat_lt, IsErrAnd, MatchResult}
pub use Rattle.avc_bits.proofs.Reading.{u_reads, Gives, gives-any, gives-bind, gives-check, gives-give, gives-then, times_more, times_fault, gives-each}
pub use Rattle.avc_bits.proofs.Reading.Numbers.{number-bits_of}
pub use Rattle.avc_bits.specs.Bits.{Bits, Read, ◌>>=◌, give, check, ◌>>◌, bits_of, number_of, times, more_data, start}
pub use Rattle.avc_bits.specs.Codes.{align, ue_to, IsReadBy, IsU, Takes, flag, te, te_to, u, skip, ue}
pub use Rattle.avc_bits.specs.Reader.{Reads, reader_bits, reader_bytes}
pub use Rattle.avc_bits.specs.declared.reader.BitReader.{BitReader}
pub use Rattle.avc_cavlc.proofs.Levels.{all_more}
pub use Rattle.avc_cavlc.proofs.Levels.TrailingOnes.{small_none}
pub use Rattle.avc_cavlc.specs.Block.{residual_block, runs, token_levels}
pub use Rattle.avc_neigh.specs.TotalCoeffs.{nc}
pub use Rattle.avc_neigh.specs.declared.neighbour_info.TotalCoeffs.{TotalCoeffs}
pub use Rattle.avc_types.specs.Macroblock.{total_coeff, Residual, i_16x16, Mb, parts_of_quarter, parts_of_quarters, quarter_x, quarter_y, partitions}
pub use Rattle.avc_types.specs.Macroblock.{i_nxn, i_pcm, p_inter, parts_of}
pub use Rattle.avc_types.specs.MacroblockFields.{residual_of}
pub use Rattle.avc_types.specs.Pictures.{PicMb}
pub use Rattle.avc_types.specs.declared.fault.Fault.{Fault}
pub use Rattle.avc_types.specs.declared.macroblock.Mvd.{Mvd}
pub use Rattle.avc_types.specs.declared.macroblock.PMbType.{PMbType}
pub use Rattle.avc_types.specs.declared.macroblock.PMbType.TheVariants.{P16x16, P16x8, P8x16, P8x8, P8x8Ref0}
pub use Rattle.avc_types.specs.declared.macroblock.SubMbType.{SubMbType}
pub use Rattle.avc_types.specs.declared.macroblock.SubMbType.TheVariants.{Sub8x8, Sub8x4, Sub4x8, Sub4x4}
pub use Rattle.avc_types.specs.declared.mb.BlockLevels.{BlockLevels}
pub use Rattle.avc_types.specs.declared.mb.Syntax.TheVariants.{I16x16, INxN, PInter}
pub use Rattle.avc_vlc.specs.Reading.{coded_block_pattern, Table, table_code, token_table, tokens_8, total_zeros}
pub use Rattle.avc_vlc.specs.declared.coeff_token.Token.{Token}
pub use Rattle.avc_mbsyntax.specs.Ranges.{AreSmall, IsResidual, IsSyntax}
pub use Rattle.avc_mbsyntax.specs.Reading.{block_where, is_coded, no_levels, after_pattern, cb_side, cr_side, i_16x16_mb, luma_dc_levels, luma_pattern_of}
pub use Rattle.avc_mbsyntax.specs.Reading.{luma_side, qp_after, qp_delta, qp_delta_where, residual_blocks, with_residual, i_mb, i_pcm_mb, block_mode, rem_mode}
pub use Rattle.avc_mbsyntax.specs.Reading.{ref_idx_l0, macroblock, i_nxn_mb, mvd_l0, p_mb, p_mb_type}
unfoldable pub use Rattle.avc_mbsyntax.specs.Reading.{blocks}
pub use Rattle.avc_mbsyntax.specs.Rest.{after_skipped, one_more, rest_at, IsStage, Follows}
unfoldable pub use Rattle.avc_mbsyntax.specs.Rest.{rest_of}
pub use Rattle.avc_mbsyntax.specs.SliceData.{SliceMbs, SliceStart, after, after_run, context, data_from, ended, from_run, i_data, left_total_coeffs, p_data}
pub use Rattle.avc_mbsyntax.specs.SliceData.{skipped, stopped, up_total_coeffs, where_room}
pub use Rattle.avc_mbsyntax.specs.Stages.{stage_after}
pub use Rattle.avc_mbsyntax.specs.Steps.{HasNoLevels, ReadsInto, is_ref0, context_of, levels_in_16x16}
pub use Rattle.avc_mbsyntax.specs.declared.context.Context.{Context}
pub use Rattle.avc_mbsyntax.specs.declared.stage.Stage.{Stage}
pub use Rattle.avc_mbsyntax.specs.declared.stage.Stage.TheVariants.{Skipped}
