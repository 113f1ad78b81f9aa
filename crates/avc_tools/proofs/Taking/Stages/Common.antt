-- The names that the proofs cite of std, of the crates below and of the definitions here, passed on from one place. Declares nothing.
pub use Rattle.std.proofs.Common.{◌≡◌, ◌+◌, ◌≤◌, ℕ, Bool, true, false, List, [], ◌∷◌, length, drop, Some, None, nat_le, All, refl, ap, sym, ◌∙◌, arith}
pub use Rattle.std.proofs.Common.{slice_index, ◌-◌, ◌<◌, suc, not, ◌++◌, map, reverse, take, if◌then◌else◌, append_assoc, cond, zero, ◌||◌, is_some, append-nil}
pub use Rattle.std.proofs.Common.{⊎_elim, length-append, Option, Result, Ok, Err, subst, get_or, inl, inr, rules, string_bytes, ◌⊎◌, ◌^◌, ap₂, ◌&&◌, ◌==◌}
pub use Rattle.std.proofs.Math.Seq.{drop-append_seam, take-append_seam, take-length}
pub use Rattle.std.proofs.lemmas.Bool.{eq-eqb, eqb-true, le-leb}
pub use Rattle.std.proofs.lemmas.Bool.Decides.{nat_tests}
pub use Rattle.std.proofs.lemmas.Grind.{flat_map-append}
pub use Rattle.std.proofs.lemmas.List.{length-drop, length-reverse, reverse-append, reverse-reverse, take_more, get_or-replicate, length-replicate, drop-map}
pub use Rattle.std.proofs.lemmas.List.{drop_more, length-map, drop_all, map-append}
pub use Rattle.std.proofs.lemmas.List.Elements.{All-head, All-tail, filter-append, All-nil, All-cons, All-append, All-take, All-drop, All-same, All-push}
pub use Rattle.std.proofs.lemmas.List.Elements.{All-filter, All-weaker, All-map}
pub use Rattle.std.proofs.lemmas.List.Folds.{list_any-append, list_all-append}
pub use Rattle.std.proofs.lemmas.List.Sums.{take_while-cons}
pub use Rattle.std.proofs.lemmas.Option.{none-some, slice_get_cases, slice_get_within, get_or_from_slice_get, slice_get-get_or}
pub use Rattle.std.specs.Fmt.{decimal}
unfoldable pub use Rattle.std.specs.Fmt.{digits}
pub use Rattle.std.specs.List.{filter, flat_map, list_any, take_while, slice_get, range_with_len, prefix_len, list_all}
pub use Rattle.std.specs.Option.{option_map}
pub use Rattle.std.specs.Prelude.{replicate, codes, IsTrue}
pub use Rattle.avc_annexb.proofs.Written.Scanning.{IsShort, are_short}
pub use Rattle.avc_annexb.specs.Escapes.{rbsp}
pub use Rattle.avc_annexb.specs.Laws.{UnitsStay, unit_within, IsUnitOf, UnitsAreWhole, WrittenUnitsStandAlone, body_within, contents, contents_within}
pub use Rattle.avc_annexb.specs.Laws.{UnitsAreWithin}
pub use Rattle.avc_annexb.specs.SplitterState.{SplitterState, after_feed, after_finish, next_unit_of, after_next_unit, units_waiting}
pub use Rattle.avc_annexb.specs.Units.{PlacedUnit, placed_units, numbered, unit_of, units, saturated, forbidden_zero_bit, nal_unit_type}
pub use Rattle.avc_annexb.specs.Written.{written}
pub use Rattle.avc_annexb.specs.declared.unit.Unit.{Unit as Piece, Unit}
pub use Rattle.avc_bits.specs.Bits.{Bits, Read, ◌>>=◌, start}
pub use Rattle.avc_bits.specs.Codes.{ue_to, ue}
pub use Rattle.avc_params.specs.PpsReading.{pps_after, pps as pps_part}
pub use Rattle.avc_params.specs.Reading.{pps_id, sps_id, pps_of, read_value, sps_of, whole}
pub use Rattle.avc_params.specs.SpsReading.{identity, sps_after, sps as sps_part}
pub use Rattle.avc_params.specs.Stored.{stored}
pub use Rattle.avc_params.specs.Tables.{accepted, is_id, is_pps, is_sps, last, pps_in_force, pps_record, sps_in_force, sps_record, sets_after, Sets}
pub use Rattle.avc_params.specs.Within.{PpsInForceKeepsLimits, SpsInForceKeepsLimits}
pub use Rattle.avc_params.specs.declared.pps.Pps.{Pps}
pub use Rattle.avc_params.specs.declared.set_unit.SetFault.{SetFault}
pub use Rattle.avc_params.specs.declared.set_unit.SetUnit.{SetUnit}
pub use Rattle.avc_params.specs.declared.set_unit.SetUnit.TheVariants.{OfPps, OfSps}
pub use Rattle.avc_params.specs.declared.sps.Sps.{Sps}
pub use Rattle.avc_slice.specs.declared.slice.Slice.{Slice}
pub use Rattle.avc_types.specs.declared.fault.Fault.{Fault}
pub use Rattle.avc_units.proofs.SetUnits.{set_units-append, set_units_more, sets_then}
pub use Rattle.avc_units.specs.Grouping.{is_start, list_of, set_unit, set_units, Kind, kind, rbsp_of, reads_zero, set_fault, set_of, OpenPictureFacts}
pub use Rattle.avc_units.specs.Grouping.{ends_picture, kind_of, no_effect, refusal_of, running_step, slice_in, slice_step, step, unreadable, waiting_step}
pub use Rattle.avc_units.specs.Grouping.{boundary, partition, tables}
pub use Rattle.avc_units.specs.Bringing.{parameter_set, brought, IfHeader}
pub use Rattle.avc_units.specs.declared.set_reading.ParameterSet.TheVariants.{OfPicture, OfSequence}
pub use Rattle.avc_units.specs.declared.header_reader.Brought.{Brought}
pub use Rattle.avc_units.specs.declared.header_reader.Brought.TheVariants as brings
pub use Rattle.avc_units.specs.Laws.{IsSetOf, SetsAreInForceAgain, SetsInForceAreUnits}
pub use Rattle.avc_units.specs.Resuming.{sets_in_force, deciding_unit, satisfies, unit_list}
pub use Rattle.avc_units.specs.declared.step.Next.{Next}
pub use Rattle.avc_units.specs.declared.step.Next.TheVariants.{Nothing, Refusal, FaultOfOpen, FaultOfOwn}
pub use Rattle.avc_units.specs.declared.step.Step.{Step}
pub use Rattle.avc_tools.specs.CutPoints.{AreCounted, CountedPieces, all_cut_point_lines, counted, counted_all, cut_point_line, cut_point_lines}
pub use Rattle.avc_tools.specs.CutPoints.{cut_point_lines_so_far, last_line, line_of_piece, none_counted, piece_over}
pub use Rattle.avc_tools.specs.Cutting.{AreKept, AreReplaced, HasSets, kept_bytes, pps_unit, replaced, sps_unit, piece_at, piece_in, pieces_at, pieces_in}
pub use Rattle.avc_tools.specs.Cutting.{piece_units}
pub use Rattle.avc_tools.specs.Lines.{unit_line, unit_lines_so_far, line_of_unit, header_line, header_lines_from, header_lines_so_far, newline, pps_fields, pps_flags}
pub use Rattle.avc_tools.specs.Lines.{pps_identity, slice_fields, slice_picture, slice_place, sps_frames, sps_identity, sps_size, unit_lines, header_lines}
pub use Rattle.avc_tools.specs.Lines.{and_number}
pub use Rattle.avc_tools.specs.PieceSoFar.{PiecesAreWhole, PiecesStay, bytes_of, numbered_piece, piece_so_far, piece_text, pieces_so_far_from, rest_so_far}
pub use Rattle.avc_tools.specs.PieceSoFar.{is_over as piece_is_over}
pub use Rattle.avc_tools.specs.Pieces.{after_slices, is_left_out, is_slice, rest_of_piece, through_slices, leads, piece, pieces_from, pieces}
pub use Rattle.avc_tools.specs.Showing.{AreShown, header_lines_under}
pub use Rattle.avc_tools.specs.Stages.{Stage, begun, made, next, over, piece_of, stage_after, staying, text_of, writing, IsCutOff, IsCutOn, StandsAt, leading}
pub use Rattle.avc_tools.specs.Stages.{IsCutting, phase_of, stage_of}
pub use Rattle.avc_tools.specs.Streams.{OnlyGrows, IsDrained, AreLeft, after_more, after_units_left, units_left, max_unit, StreamSoFar, after_end, after_piece}
pub use Rattle.avc_tools.specs.declared.cutter.CutPhase.{CutPhase}
pub use Rattle.avc_tools.specs.declared.cutter.Cutter.{Cutter}
pub use Rattle.avc_tools.specs.declared.piece_facts.PieceFacts.{PieceFacts}
pub use Rattle.avc_tools.specs.declared.sets_in_force.SetsInForce.{SetsInForce}
pub use Rattle.avc_tools.specs.declared.unit_facts.UnitFacts.{UnitFacts}
