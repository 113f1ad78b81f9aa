use Rattle.avc_cavlc.proofs.Levels.{Ok, ap, ◌∙◌, reader_bits, level_of_code, skipped_is, never_cut}
use Rattle.avc_cavlc.proofs.level.read_long_code.Goals as goal

pub returns-in_err-skip-clause-read : goal.returns-in_err-skip-clause-read
returns-in_err-skip-clause-read c =
    never_cut c.in_ok-code.code.length (reader_bits c.args.reader.now) _ c.in_ok-code.ensures.read.1 c.in_err-skip.ensures.read

pub returns-clause-read : goal.returns-clause-read
returns-clause-read c =
    let left = skipped_is c.in_ok-code.code.length (reader_bits c.args.reader.now) (reader_bits c.skip.new.self) c.in_ok-code.ensures.read.1 c.in_ok-skip.ensures.read.0 in
    (c.in_ok-code.ensures.read.0 ∙ ap (λ b. Ok (level_of_code c.in_ok-code.code.number, b)) left, c.in_ok-skip.ensures.read.1)
