-- The names that the proofs cite of std, of the crates below and of the definitions here, passed on from one place. Declares nothing.
pub use Rattle.std.proofs.Common.{◌≡◌, true, false, List, [], ◌∷◌, ◌++◌, Option, Some, None, refl, ap, sym, subst, ◌∙◌, append_assoc, append-nil, arith, ℕ}
pub use Rattle.std.proofs.Common.{take, Result, ◌+◌, ◌<◌, ◌≤◌, length, Ok, Err, IfErr, length-append, length-take, suc, zero, ◌-◌, ◌^◌, replicate, string_bytes, rules}
pub use Rattle.std.proofs.KnownBytes.{Appends-nil, Consumes-kept, Consumes-trans, Appends-trans}
pub use Rattle.std.proofs.lemmas.List.{take-append-le}
pub use Rattle.std.specs.Fmt.{decimal, format_spec, styled_decimal}
unfoldable pub use Rattle.std.specs.Fmt.{char_count, padded_integral}
pub use Rattle.std.specs.Io.KnownBytes.{Consumes, IsAtEnd, Keeps, Appends}
pub use Rattle.std.specs.List.{repeat}
pub use Rattle.std.specs.Prelude.{is_some, if◌then◌else◌, unwrap_or, IsErrAnd, codes}
pub use Rattle.avc_annexb.specs.Laws.{UnitsStay}
pub use Rattle.avc_annexb.specs.SplitterState.{SplitterState, after_next_unit, next_unit_of, after_feed, after_finish, units_waiting}
pub use Rattle.avc_annexb.specs.Units.{units}
pub use Rattle.avc_annexb.specs.declared.unit.Unit.{Unit}
pub use Rattle.avc_params.specs.Tables.{sets_after}
pub use Rattle.avc_params.specs.declared.set_unit.SetUnit.{SetUnit}
pub use Rattle.avc_params.specs.declared.sps.Sps.{Sps}
pub use Rattle.avc_console.proofs.Texts.Telling.{stopped_after}
pub use Rattle.avc_console.proofs.Texts.{nothing_more}
pub use Rattle.avc_console.specs.Reading.{max_unit, WritesFirst}
pub use Rattle.avc_console.specs.declared.fault.RunFault.{RunFault}
pub use Rattle.avc_console.specs.declared.fault.RunFault.TheVariants.{Read, Memory, Write}
pub use Rattle.avc_presentation.specs.Presenting.{no_presentation, Says}
pub use Rattle.avc_presentation.specs.Ratios.{ratio_word}
pub use Rattle.avc_presentation.specs.declared.presentation.Presentation.{Presentation}
pub use Rattle.avc_tools.proofs.Taking.{IsDraining, one_more, all_taken}
pub use Rattle.avc_tools.proofs.Taking.Stages.{drained, left_by_feed, left_by_finish}
pub use Rattle.avc_units.proofs.SetUnits.{set_units-append, set_units_more, sets_then}
pub use Rattle.avc_tools.specs.Streams.{AreLeft, units_left}
pub use Rattle.avc_units.specs.Grouping.{set_units}
pub use Rattle.avc_yuv.specs.I420.{i420}
pub use Rattle.hex.specs.Hex.{encode_lower}
pub use Rattle.md5.specs.Md5.{md5}
pub use Rattle.avc_formats.specs.Formats.{StopsPicture}
pub use Rattle.avc_formats.specs.FrameMd5.{column, aspect_line, codec_lines, columns_line, dimensions_line, format_lines, time_base_line, framemd5_line}
pub use Rattle.avc_formats.specs.FrameMd5.{size_text, times_text}
pub use Rattle.avc_formats.specs.Front.{first_of, first_sps, starting_sps, IsFound, IsSaid, stream_sps, IsFront, IsLooking, NoFront, ReadsFront}
pub use Rattle.avc_formats.specs.Front.{front_length}
pub use Rattle.avc_formats.specs.Text.{newline}
pub use Rattle.avc_formats.specs.Y4m.{chroma_words, range_words, shape_words}
