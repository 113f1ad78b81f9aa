use Rattle.avc_inter.proofs.SixRows.{◌≡◌, arith, room_for, two_words}
use Rattle.avc_inter.proofs.positions.row_0.Goals as goal

pub whole_rows-requires : goal.whole_rows-requires
whole_rows-requires g c = (two_words, (c.requires.out, room_for _ _ c.args.to.lanes _ c.args.from.first _ _ c.requires.room (omega arith)))

pub quarter_rows-requires : goal.quarter_rows-requires
quarter_rows-requires g c = (two_words, (c.requires.out, (room_for _ _ c.args.to.lanes _ c.args.from.first _ _ c.requires.room (omega arith), room_for _ _ c.args.to.lanes _ c.args.from.first _ _ c.requires.room (omega arith))))

pub half_rows-requires : goal.half_rows-requires
half_rows-requires g c = (two_words, (c.requires.out, room_for _ _ c.args.to.lanes _ c.args.from.first _ _ c.requires.room (omega arith)))

pub quarter_rows-requires-in_default : goal.quarter_rows-requires-in_default
quarter_rows-requires-in_default g c = (two_words, (c.requires.out, (room_for _ _ c.args.to.lanes _ c.args.from.first _ _ c.requires.room (omega arith), room_for _ _ c.args.to.lanes _ c.args.from.first _ _ c.requires.room (omega arith))))

pub returns-in-0 : goal.returns-in-0
returns-in-0 g c = rw (c.in-0.is) c.whole_rows.ensures

pub returns-in-1 : goal.returns-in-1
returns-in-1 g c = rw (c.in-1.is) c.quarter_rows.ensures

pub returns-in-2 : goal.returns-in-2
returns-in-2 g c = rw (c.in-2.is) c.half_rows.ensures

pub returns-in_default : goal.returns-in_default
returns-in_default g c =
    let three : c.args.beyond.right ≡ 3 = omega (arith, c.args.beyond.narrow, c.in_default) in
    rw three c.quarter_rows-in_default.ensures
