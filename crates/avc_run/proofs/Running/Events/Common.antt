-- The names that the proofs cite of std, of the crates below and of the definitions here, passed on from one place. Declares nothing.
pub use Rattle.std.proofs.Common.{ap, sym, ◌∙◌, append_assoc, append-nil, arith, subst, length-append, length-drop, length-take, rules}
pub use Rattle.std.proofs.KnownBytes.{Appends-trans, Appends-nil, Consumes-nil, Consumes-trans, prepend_known-nil, Consumes-kept}
pub use Rattle.std.proofs.Math.Seq.{take-append-add, drop-nil, take-append_seam, drop-append_seam, take-add, take-length}
pub use Rattle.std.proofs.lemmas.List.{take-append-le, drop_more, take-append-drop, take_rest}
pub use Rattle.std.proofs.lemmas.Option.{slice_get_within, get_or_from_slice_get}
pub use Rattle.std.specs.Io.KnownBytes.{Appends, Keeps, Consumes, IsAtEnd, prepend_known}
pub use Rattle.std.specs.Prelude.{◌≡◌, ℕ, suc, ◌+◌, ◌<◌, List, [], ◌∷◌, ◌++◌, length, take, Option, Some, None, Bool, true, false}
pub use Rattle.std.specs.Prelude.{Result, Ok, Err, refl, ◌≤◌, zero, ◌-◌, drop, IsErrAnd, IfErr, IsOk, OnOk, slice_get, ◌^◌}
pub use Rattle.avc_annexb.specs.Units.{saturated}
pub use Rattle.avc_decoder.specs.Events.{pictures_in, refusals_in, events}
pub use Rattle.avc_decoder.specs.Laws.{EventsOnlyGrow}
pub use Rattle.avc_decoder.specs.Machine.{Machine, next_event, after_take, after_feed, after_flush, new_machine}
pub use Rattle.avc_decoder.specs.Output.{Output}
pub use Rattle.avc_decoder.specs.SeenEvents.{Event}
pub use Rattle.avc_decoder.specs.declared.event.Event.TheVariants.{Picture, Refused}
pub use Rattle.avc_types.specs.declared.fault.Fault.{Fault}
pub use Rattle.avc_types.specs.declared.picture.Picture.{Picture as Decoded}
pub use Rattle.avc_yuv.specs.I420.{i420}
pub use Rattle.avc_console.specs.Reading.{max_unit}
pub use Rattle.avc_console.specs.Reporting.{new_tally, no_report, report_in, reported_by, with_picture, IsTold, Reported, Tallied, TellsOn}
pub use Rattle.avc_console.specs.Telling.{Tells, TellsMore}
pub use Rattle.avc_console.specs.Messages.{end_text, run_text}
pub use Rattle.avc_console.specs.Program.{TellsRun}
pub use Rattle.avc_console.specs.Status.{other_status}
pub use Rattle.avc_console.specs.declared.console.Names.{Names}
pub use Rattle.avc_console.specs.declared.exit.Ending.{Ending}
pub use Rattle.avc_run.specs.Digesting.{other_text, EndsVerifying, Sums}
pub use Rattle.std.specs.List.{flat_map}
pub use Rattle.avc_events.proofs.EventReports.{is_none, report_more, report_with-append, run_told, stays_told, told, told_then}
pub use Rattle.avc_events.specs.EventReports.{events_defined, report_of, report_with, shown}
pub use Rattle.avc_run.specs.Decoding.{Decodes, defined}
pub use Rattle.avc_run.specs.Draining.{events_left, count_left, BreaksOffFrom, IsDraining, IsHandled, IsDrained}
pub use Rattle.avc_run.specs.Draining.{after_draining, IsRunning}
pub use Rattle.avc_run.specs.Reporting.{LendsTheSame, ReportsOn}
pub use Rattle.avc_run.specs.declared.reporting.Reporting.{Reporting}
pub use Rattle.avc_run.specs.Formats.{pictures_after, written_from, AllFit, BreaksOff, DecodesAs, IsWritten, ReadsWanted, StopsAt}
pub use Rattle.avc_formats.specs.Formats.{Format, StopsPicture, plain}
pub use Rattle.avc_console.specs.Reading.{WritesFirst, HasRead}
pub use Rattle.avc_console.specs.declared.fault.RunFault.{RunFault}
pub use Rattle.avc_console.specs.declared.fault.RunFault.TheVariants.{Memory, Write, Read, Endless, Size}
pub use Rattle.avc_console.specs.declared.report.Report.{Report}
pub use Rattle.avc_console.proofs.Texts.{nothing_more}
pub use Rattle.avc_console.proofs.Texts.Telling.{by_fault, err_is, told_both}
pub use Rattle.avc_formats.specs.Front.{IsFront, NoFront}
pub use Rattle.avc_presentation.specs.declared.presentation.Presentation.{Presentation}
pub use Rattle.avc_run.specs.BySet.{selected_by, Decodes as DecodesBySetOrNot, by_set, in_front}
