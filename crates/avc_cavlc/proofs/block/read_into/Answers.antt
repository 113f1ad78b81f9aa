use Rattle.avc_cavlc.proofs.Levels.{Ok, ap, sym, ◌∙◌, passed, reader_bits, none_behind}
use Rattle.avc_cavlc.proofs.block.read_into.Goals as goal

pub returns-then-code-eq0-clause-read : goal.returns-then-code-eq0-clause-read
returns-then-code-eq0-clause-read g c =
    let b = reader_bits c.args.reader.now in
    let after = passed b c.args.code.length in
    none_behind g.row.MAXN c.args.code.token after c.requires.token.ones c.if-code-eq0.true
    ∙ ap (λ l. Ok (l, after)) (sym c.clear.ensures)
    ∙ ap (λ x. Ok (c.clear.new.self, x)) (ap (passed b) (sym c.from.ensures) ∙ sym c.skip_ahead.ensures.bits)
