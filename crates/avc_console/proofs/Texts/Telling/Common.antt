-- The names that the proofs cite of std, of the crates below and of the definitions here, passed on from one place. Declares nothing.
pub use Rattle.std.proofs.Common.{ap, sym, ◌∙◌, append_assoc, append-nil, arith, subst, length-append, is_some, rules, string_bytes}
pub use Rattle.std.proofs.KnownBytes.{Appends-trans, Appends-nil, Consumes-nil, Consumes-trans}
pub use Rattle.std.proofs.Math.Seq.{take-append-add}
pub use Rattle.std.proofs.lemmas.Grind.{flat_map-append}
pub use Rattle.std.proofs.lemmas.List.{take_more, take-append-le, take-take}
pub use Rattle.std.proofs.lemmas.Option.{slice_get_within, slice_get-get_or}
pub use Rattle.std.specs.Fmt.{decimal}
pub use Rattle.std.specs.Io.KnownBytes.{Appends, Keeps, Consumes, IsAtEnd}
pub use Rattle.std.specs.List.{flat_map}
pub use Rattle.std.specs.Prelude.{◌≡◌, ℕ, ◌+◌, ◌<◌, List, [], ◌∷◌, ◌++◌, length, take, get_or, Option, Some, None, codes, Bool, true, false}
pub use Rattle.std.specs.Prelude.{Result, Ok, Err, is_ok, refl, ◌≤◌, IfErr, OnErr, OnOk, IsErrAnd, slice_get, ◌^◌, if◌then◌else◌}
pub use Rattle.avc_tools.specs.PieceSoFar.{bytes_of, piece_text, is_over, numbered_piece, pieces_so_far, PieceSoFar, PiecesAreWhole, PiecesStay}
pub use Rattle.avc_tools.specs.Pieces.{pieces}
pub use Rattle.avc_tools.specs.Streams.{OnlyGrows, StreamSoFar, after_end, after_piece, new_stream}
pub use Rattle.avc_types.specs.declared.fault.Fault.{Fault}
pub use Rattle.avc_console.specs.Listing.{Cuts, Lists, IsPieceOf}
pub use Rattle.avc_console.specs.Messages.{fault_line, cut_text, name_text, refusal_line, refusal_texts, run_text, fault_text, file_of}
unfoldable pub use Rattle.avc_console.specs.Messages.{refusal_text}
pub use Rattle.avc_explain.specs.Explanations.{explained_line}
pub use Rattle.avc_console.specs.Program.{TellsRun}
pub use Rattle.avc_console.specs.declared.console.Names.{Names}
pub use Rattle.avc_console.specs.declared.exit.Ending.{Ending}
pub use Rattle.avc_console.specs.Reporting.{Reported, Tallied, TellsOn, report_in, reported_by, IsTold}
pub use Rattle.avc_console.specs.Telling.{Tells, TellsMore}
pub use Rattle.avc_console.specs.Reading.{WritesFirst, WritesSome, HasRead}
pub use Rattle.avc_console.specs.Status.{fault_status, run_status}
pub use Rattle.avc_console.specs.StreamWriting.{IsStopped, IsWhole, IsWriting, IsWrittenOn, StopsWriting}
pub use Rattle.avc_console.specs.declared.fault.RunFault.{RunFault}
pub use Rattle.avc_console.specs.declared.fault.RunFault.TheVariants.{Memory, Read, Write}
pub use Rattle.avc_console.specs.declared.report.Report.{Report}
