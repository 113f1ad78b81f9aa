use Rattle.std.proofs.Common.{subst}
use Rattle.avc_formats.specs.Headed.{headed}
use Rattle.avc_formats.specs.declared.headed.HeadedFormat.{HeadedFormat}
use Rattle.avc_run.specs.BySet.{EndsDecodingBySet}
use Rattle.avc_run.specs.Showing.{selection_of}
use Rattle.avc_run.proofs.showing.show.Goals as goal

pub returns-in-Y4m : goal.returns-in-Y4m
returns-in-Y4m g c =
    let ends : HeadedFormat → Type 0 = λ format.
    EndsDecodingBySet c.args.console.now.names c.args.console.now.is_explained (λ said. selection_of c.args.showing (headed format said)) c.args.showing.mode
    (g.R.Read.remaining c.args.reader.now) (g.R.Read.remaining c.show_headed.new.reader) (g.W.Write.contents c.args.writer.now) (g.W.Write.contents c.show_headed.new.writer)
    (g.E.Write.contents c.args.console.now.errors) (g.E.Write.contents c.show_headed.new.console.errors) c.show_headed.result in
    rw c.in-Y4m.is (subst ends c.y4m_of.ensures c.show_headed.ensures)
