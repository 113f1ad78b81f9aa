use Rattle.std.proofs.Common.{ap, subst, ◌∙◌, ◌++◌, Ok}
use Rattle.std.specs.Io.KnownBytes.{Appends}
use Rattle.avc_macroblocks.specs.Program.{ListsNear}
use Rattle.avc_replay.specs.Replaying.{IsExplainedBy}
use Rattle.avc_stages.specs.Text.{explained_text}
use Rattle.avc_stages.specs.declared.text.Explained.{Explained}
use Rattle.avc_replay.proofs.Opened.{some_of}
use Rattle.avc_replay.proofs.program.tell_macroblock.Goals as goal

pub returns : goal.returns
returns g c = λ told.
    let unit = c.args.unit in
    let address = c.in-Ok.address in
    let e = c.in-Some-2.explained in
    let listed = subst (λ r. ListsNear (record { unit = unit; address = address }) (g.L.Read.remaining c.args.lines.now) (g.L.Read.remaining c.run_macroblocks_at.new.reader) (g.W.Write.contents c.args.writer.now)
    (g.W.Write.contents c.run_macroblocks_at.new.writer) r) c.in_ok-at.was c.run_macroblocks_at.ensures in
    record {
      address = address;
      at = c.in-Some.at;
      wrote = g.W.Write.contents c.run_macroblocks_at.new.writer;
      explained = e;
      listed = subst (λ o. ListsNear (record { unit = unit; address = address }) (g.L.Read.remaining c.args.lines.now) (g.L.Read.remaining c.run_macroblocks_at.new.reader) (g.W.Write.contents c.args.writer.now)
          (g.W.Write.contents c.run_macroblocks_at.new.writer) (Ok o)) c.in-Some.is listed;
      is_explained = some_of (λ (e : Explained). IsExplainedBy c.in-Some.at address c.args.pairs.now (g.R.Read.remaining c.args.stream.now) (g.R.Read.remaining c.explain_macroblock.new.reader) e) c.in_ok-explained.field-0 e
          c.in-Some-2.is c.in_ok-explained.ensures;
      told = subst (λ t. Appends (g.W.Write.contents c.run_macroblocks_at.new.writer) (g.W.Write.contents c.write_text.new.writer) t)
          (c.deref.ensures ∙ c.in_ok-add_explained.ensures ∙ ap (λ l. l ++ explained_text e) c.new-text.ensures.bytes) c.in_ok-write_text.ensures.ok;
    }
