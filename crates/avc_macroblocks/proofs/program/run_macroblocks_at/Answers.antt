use Rattle.std.proofs.Common.{◌<◌, false, rules}
use Rattle.avc_selection.specs.declared.selection.Selection.TheVariants.{Near}
use Rattle.avc_macroblocks.proofs.Listed.{by_fault, listed_near, unlisted}
use Rattle.avc_macroblocks.specs.Lines.{for_people}
use Rattle.avc_macroblocks.specs.Program.{ListsNear}
use Rattle.avc_macroblocks.proofs.program.run_macroblocks_at.Goals as goal

pub returns-in_err-write_stream : goal.returns-in_err-write_stream
returns-in_err-write_stream g c =
    let low : c.args.macroblock.address < 4294967296 = search rules in
    let fault = c.in_err-write_stream.field-0.0 in
    by_fault c.from_residual.result fault
    (ListsNear c.args.macroblock (g.R.Read.remaining c.args.reader.now) (g.R.Read.remaining c.write_stream.new.reader) (g.W.Write.contents c.args.writer.now)
    (g.W.Write.contents c.write_stream.new.writer))
    c.from_residual.ensures.1
    (unlisted (for_people false) (Near c.args.macroblock) c.new-lines.result _ _ _ _ fault low c.new-lines.ensures c.in_err-write_stream.ensures.err)

pub returns : goal.returns
returns g c =
    let low : c.args.macroblock.address < 4294967296 = search rules in
    listed_near c.args.macroblock c.new-lines.result c.write_stream.new.text _ _ _ _ c.position.result low c.new-lines.ensures
    c.in_ok-write_stream.ensures.number c.in_ok-write_stream.ensures.ok c.position.ensures.range c.position.ensures.met
