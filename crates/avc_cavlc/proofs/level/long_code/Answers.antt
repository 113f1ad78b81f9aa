use Rattle.avc_cavlc.proofs.Levels.{sym, ap, ◌∙◌, u, reader_bits, level_code_most, level_long}
use Rattle.avc_cavlc.proofs.level.long_code.Goals as goal

pub returns-clause-read : goal.returns-clause-read
returns-clause-read c =
    let mid = reader_bits c.zeros_before_one.new.self in
    let all = level_long c.args.suffix_length c.args.above_one c.in_ok-prefix.prefix c.in_ok-suffix.suffix (reader_bits c.args.reader) mid (reader_bits c.u.new.self) c.in_ok-prefix.ensures.read.0
    (ap (λ n. u n mid) (sym c.suffix_size-size.ensures.value) ∙ c.in_ok-suffix.ensures.read.0) in
    rw (c.level_code.ensures, c.suffix_size-size.ensures.value) (all.read, all.within)

pub returns-clause-most : goal.returns-clause-most
returns-clause-most c =
    rw c.level_code.ensures (level_code_most c.in_ok-prefix.prefix c.args.suffix_length c.in_ok-suffix.suffix c.args.above_one c.in_ok-prefix.ensures.most c.requires.length (rw c.suffix_size-size.ensures.value at c.in_ok-suffix.ensures.below) c.requires.first)
