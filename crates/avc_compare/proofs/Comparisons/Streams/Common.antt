-- The names that the proofs cite of std, of the crates below and of the definitions here, passed on from one place. Declares nothing.
pub use Rattle.std.proofs.Common.{ap, sym, ◌∙◌, append_assoc, append-nil, arith, subst, length-append, rules, ⊎_elim, get_or, le_refl, drop_at, length-take-le, take_all}
pub use Rattle.std.proofs.lemmas.Slice.{take-put_mid_below}
pub use borrow.Rule.Slice.PartMut.{put_mid, post_of}
pub use Rattle.std.proofs.Math.Seq.{take-append_seam}
pub use lib.Seq.{drop-drop, take-add, take-append-le}
pub use Rattle.std.proofs.BufReadLemmas.{drop-take_min}
pub use Rattle.std.proofs.KnownBytes.{Appends-nil, Appends-trans, Consumes-nil, Consumes-trans, Consumes-kept, Keeps-refl}
pub use Rattle.std.proofs.lemmas.Bool.{cases_lt}
pub use Rattle.std.proofs.lemmas.Bool.Decides.{nat_tests}
pub use Rattle.std.proofs.lemmas.Grind.{common_steps, flat_map-append}
pub use Rattle.std.proofs.lemmas.List.{length-take, take-append-drop}
pub use Rattle.std.specs.Io.KnownBytes.{Appends, Keeps, Consumes, IsAtEnd}
pub use Rattle.std.specs.List.{flat_map}
pub use Rattle.std.specs.Prelude.{◌≡◌, ℕ, zero, suc, ◌+◌, ◌-◌, ◌/◌, ◌<◌, ◌≤◌, ◌^◌, List, [], ◌∷◌, ◌++◌, length, take, drop, Option, Some, None, Bool, true, false}
pub use Rattle.std.specs.Prelude.{Result, Ok, Err, refl, IsErrAnd, IfErr, IfOk, OnErr, OnOk, slice_get, slice_index, slice_range, min}
pub use Rattle.avc_annexb.specs.Units.{saturated}
pub use Rattle.avc_console.proofs.Texts.Telling.{by_fault}
pub use Rattle.avc_console.specs.Reading.{max_unit, HasRead, WritesFirst}
pub use Rattle.avc_console.specs.Reporting.{no_report, TellsOn}
pub use Rattle.avc_console.specs.declared.fault.RunFault.{RunFault}
pub use Rattle.avc_console.specs.declared.fault.RunFault.TheVariants.{Memory, Write, Read, Endless, Size}
pub use Rattle.avc_console.specs.declared.report.Report.{Report}
pub use Rattle.avc_decoder.specs.Events.{events, pictures_in}
pub use Rattle.avc_decoder.specs.Laws.{EventsOnlyGrow, PicturesAreWhole}
pub use Rattle.avc_decoder.specs.Machine.{Machine, after_feed, after_flush, after_take, new_machine, next_event, IsUpToUnit}
pub use Rattle.avc_decoder.specs.Output.{Output}
pub use Rattle.avc_decoder.specs.SeenEvents.{Event}
pub use Rattle.avc_decoder.specs.declared.event.Event.TheVariants.{Picture, Refused}
pub use Rattle.avc_difference.specs.Differences.{differs, differs_at, AreSame, IsDifference}
pub use Rattle.avc_difference.specs.declared.place.Shape.{Shape}
pub use Rattle.avc_difference.specs.Places.{sample_count, shape_of, shown_samples}
pub use Rattle.avc_report.specs.Psnr.{IsPsnr}
pub use Rattle.avc_report.specs.Text.{psnr_line}
pub use Rattle.avc_report.specs.declared.psnr.Psnr.{Psnr}
pub use Rattle.avc_plane.specs.declared.component.Component.TheVariants.{Luma, Cb, Cr}
pub use Rattle.avc_formats.specs.Formats.{StopsPicture}
pub use Rattle.avc_events.proofs.EventReports.{is_none, report_more, run_told, stays_told, told_then}
pub use Rattle.avc_events.specs.EventReports.{events_defined, report_of, report_with, shown, IfPicture}
pub use Rattle.avc_types.specs.Whole.{IsWhole}
pub use Rattle.avc_compare.specs.Reporting.{LendsTheSame, ReportsOn}
pub use Rattle.avc_compare.specs.declared.reporting.Reporting.{Reporting}
pub use Rattle.avc_types.specs.declared.fault.Fault.{Fault}
pub use Rattle.avc_types.specs.declared.picture.Picture.{Picture as Decoded}
pub use Rattle.avc_yuv.proofs.Windows.{length-window}
pub use Rattle.avc_yuv.specs.I420.{chroma_window, i420, luma_window, shown_height, shown_width, window}
pub use Rattle.avc_compare.specs.Comparing.{AreLines, BreaksOffFor, Compares, EndsLooking, Finds, FindsAll, IsAlike, IsBeside, IsBrokenOff, IsDiffering, IsDisplaced, IsLine, IsLookedOn, IsReached, IsSame, Lacks, Sees, WritesPart}
pub use Rattle.avc_compare.specs.Displaced.{digests_of, most_sought, pictures_beside, Digested}
pub use Rattle.avc_compare.specs.declared.comparison.Findings.{Findings}
pub use Rattle.avc_compare.specs.declared.displaced.Displaced.{Displaced}
pub use Rattle.avc_compare.specs.declared.verdict.Differing.{Differing}
pub use Rattle.avc_compare.specs.declared.verdict.Sizes.{Sizes}
pub use Rattle.avc_compare.specs.Kept.{nothing_read, Waiting}
pub use Rattle.avc_compare.specs.Reading.{BreaksReading, Fills, IsNext, IsReading, IsReadOff, IsWholeIfAny, ReadsOn, StopsFor, TakesNext}
pub use Rattle.avc_compare.specs.Comparing.{compared_picture, other_size}
pub use Rattle.avc_compare.specs.declared.comparison.Comparison.{Comparison}
pub use Rattle.avc_compare.specs.declared.verdict.ComparedPicture.{ComparedPicture}
pub use Rattle.avc_compare.specs.Running.{kept, stand, with_ours, with_theirs, ComparesEvent, ComparesPicture, EndsAll, EndsAt, EndsAtEvent, FindsBehind, FindsIn, GoesOn, IsComparing, IsCounted, IsFurther, IsLineOf}
pub use Rattle.avc_compare.specs.Running.{is_enough, IsLooking, LacksLeft, LooksAt, LooksAtEvent, LooksOn, PassesRefusal, Seeks, Stand, StopsAt, TellsLine}
pub use Rattle.avc_compare.specs.Samples.{IsUnread, ReadsBeside}
pub use Rattle.avc_compare.specs.Told.{ended_by, fault_names, findings_text, names_of, run_fault, run_of, verdict_text, WritesText}
pub use Rattle.avc_console.specs.Reporting.{report_in}
pub use Rattle.avc_compare.specs.declared.verdict.CompareFault.{CompareFault}
pub use Rattle.avc_compare.specs.declared.verdict.CompareFault.TheVariants.{Ours, Theirs}
pub use Rattle.avc_compare.specs.declared.verdict.Verdict.{Verdict}
pub use Rattle.avc_compare.specs.declared.verdict.Verdict.TheVariants.{Differs, Fewer, More, OtherSize, Same}
