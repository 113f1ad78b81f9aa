use Rattle.avc_inter.proofs.SixRows.{◌≡◌, arith, two_words}
use Rattle.avc_inter.proofs.positions.quarters.Goals as goal

pub row_0-requires : goal.row_0-requires
row_0-requires g c = (two_words, (c.requires.out, c.requires.room))

pub row_beside-requires : goal.row_beside-requires
row_beside-requires g c = (two_words, (omega arith, (c.requires.out, c.requires.room)))

pub row_2-requires : goal.row_2-requires
row_2-requires g c = (two_words, (c.requires.out, c.requires.room))

pub row_beside-requires-in_default : goal.row_beside-requires-in_default
row_beside-requires-in_default g c = (two_words, (omega arith, (c.requires.out, c.requires.room)))

pub returns-in-0 : goal.returns-in-0
returns-in-0 g c = rw (c.in-0.is) c.row_0.ensures

pub returns-in-1 : goal.returns-in-1
returns-in-1 g c = rw (c.in-1.is) c.row_beside.ensures

pub returns-in-2 : goal.returns-in-2
returns-in-2 g c = rw (c.in-2.is) c.row_2.ensures

pub returns-in_default : goal.returns-in_default
returns-in_default g c =
    let three : c.args.beyond.down ≡ 3 = omega (arith, c.args.beyond.low, c.in_default) in
    rw three c.row_beside-in_default.ensures
