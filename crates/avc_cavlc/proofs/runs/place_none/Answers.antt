use Rattle.avc_cavlc.proofs.Levels.{◌≡◌, arith, length, take, ap, subst, sym, ◌∙◌, length-take-le, reader_bits, ArePlaced, placed_others}
use Rattle.avc_cavlc.proofs.Levels.{by_zeros, none_placed, none_read}
use Rattle.avc_cavlc.proofs.runs.place_none.Goals as goal

pub returns-clause-read : goal.returns-clause-read
returns-clause-read c =
    let values = take c.args.total c.args.values.now in
    let zeros = c.in_ok-zeros.zeros in
    let b = reader_bits c.read_zeros.new.reader in
    let long : length values ≡ c.args.total = length-take-le c.args.total c.args.values.now (omega (arith, c.told-values)) in
    by_zeros c.args.max values c.args.total zeros (reader_bits c.args.reader.now) b c.in_ok-zeros.ensures.read
    ∙ none_read values c.args.total zeros b long c.requires.some
    ∙ ap (λ l. placed_others values c.args.total 0 zeros l b) (sym c.requires.zero)

pub returns-clause-placed : goal.returns-clause-placed
returns-clause-placed c =
    subst (ArePlaced c.args.total 0 c.in_ok-zeros.zeros) (sym c.requires.zero)
    (none_placed c.args.total c.in_ok-zeros.zeros c.requires.some (omega (arith, c.in_ok-zeros.ensures.room)))
