use Rattle.avc_cavlc.proofs.Levels.{◌≡◌, Ok, Err, rules, ap, subst, ◌∙◌, sym, All, times, skip, reader_bits}
use Rattle.avc_cavlc.proofs.Levels.{IsLevel, trailing_one, ones_read, ones_fault, ones_levels}
use Rattle.avc_cavlc.proofs.level.read_trailing_ones.Goals as goal

pub returns-in_err-skip-clause-read : goal.returns-in_err-skip-clause-read
returns-in_err-skip-clause-read c =
    let fault : times c.args.ones trailing_one (reader_bits c.args.reader.now) ≡ Err c.in_err-skip.field-0.0 = ones_fault c.args.ones (reader_bits c.args.reader.now) c.in_err-skip.field-0.0 (ap (λ n. skip n (reader_bits c.args.reader.now)) (sym c.from.ensures) ∙ c.in_err-skip.ensures.read) in
    search rules

pub returns-clause-read : goal.returns-clause-read
returns-clause-read c = (
  ones_read c.args.ones c.peek-signs.result (reader_bits c.args.reader.now) (reader_bits c.skip.new.self) c.requires.few c.peek-signs.ensures.bits (ap (λ n. skip n (reader_bits c.args.reader.now)) (sym c.from.ensures) ∙ c.in_ok-skip.ensures.read.0)
      ∙ ap (λ l. Ok (l, reader_bits c.skip.new.self)) (sym (c.put_ones.ensures c.args.ones c.requires.few)),
  c.in_ok-skip.ensures.read.1,
)

pub returns-clause-size : goal.returns-clause-size
returns-clause-size c = subst (All IsLevel) (sym (c.put_ones.ensures c.args.ones c.requires.few)) (ones_levels c.args.ones c.peek-signs.result c.requires.few)
