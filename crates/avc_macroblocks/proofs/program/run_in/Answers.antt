use Rattle.avc_selection.specs.Selected.{selection_of}
use Rattle.avc_reading.specs.Reading.{asked_in}
use Rattle.avc_macroblocks.proofs.Listed.{by_fault, listed_asked, unlisted_counted}
use Rattle.avc_macroblocks.specs.Program.{ListsAsked}
use Rattle.avc_macroblocks.proofs.program.run_in.Goals as goal

pub returns-in_err-write_stream : goal.returns-in_err-write_stream
returns-in_err-write_stream g c =
    let fault = c.in_err-write_stream.field-0.0 in
    by_fault c.from_residual.result fault
    (ListsAsked (asked_in g.F.MacroblockForm.form (selection_of c.args.picture)) (g.R.Read.remaining c.args.reader.now) (g.R.Read.remaining c.write_stream.new.reader) (g.W.Write.contents c.args.writer.now)
    (g.W.Write.contents c.write_stream.new.writer))
    c.from_residual.ensures.1
    (unlisted_counted g.F.MacroblockForm.form c.args.picture c.of.result c.new-lines.result _ _ _ _ fault c.of.ensures c.new-lines.ensures c.in_err-write_stream.ensures.err)

pub returns : goal.returns
returns g c =
    listed_asked g.F.MacroblockForm.form c.args.picture c.of.result c.new-lines.result c.write_stream.new.text _ _ _ _ c.has_begun.result c.of.ensures
    c.new-lines.ensures c.in_ok-write_stream.ensures.number c.in_ok-write_stream.ensures.ok c.has_begun.ensures.range c.has_begun.ensures.begun
