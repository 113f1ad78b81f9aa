use Rattle.avc_inter.proofs.SixRows.{five_words, ◌≡◌, arith, room_for, refl, strided_as, mean_turned, two_words}
use Rattle.avc_inter.proofs.positions.row_2.Goals as goal

pub rows_between-requires : goal.rows_between-requires
rows_between-requires g c = (two_words, (c.requires.out, (room_for _ _ c.args.to.lanes _ c.args.from.first _ _ c.requires.room (omega arith), room_for _ _ c.args.to.lanes _ c.args.from.first _ _ c.requires.room (omega arith))))

pub centre_rows_down-requires : goal.centre_rows_down-requires
centre_rows_down-requires g c = (five_words, (two_words, (c.requires.out, room_for _ _ c.args.to.lanes _ c.args.from.first _ _ c.requires.room (omega arith))))

pub centre_rows-requires : goal.centre_rows-requires
centre_rows-requires g c = (five_words, (two_words, c.requires.out))

pub centre_rows_down-requires-in_default : goal.centre_rows_down-requires-in_default
centre_rows_down-requires-in_default g c = (five_words, (two_words, (c.requires.out, room_for _ _ c.args.to.lanes _ c.args.from.first _ _ c.requires.room (omega arith))))

pub returns-in-0 : goal.returns-in-0
returns-in-0 g c = rw (c.in-0.is) c.rows_between.ensures

pub returns-in-1 : goal.returns-in-1
returns-in-1 g c = rw (c.in-1.is) (strided_as c.centre_rows_down.ensures refl (λ x y column low. mean_turned _ _))

pub returns-in-2 : goal.returns-in-2
returns-in-2 g c = rw (c.in-2.is) c.centre_rows.ensures

pub returns-in_default : goal.returns-in_default
returns-in_default g c =
    let three : c.args.beyond.right ≡ 3 = omega (arith, c.args.beyond.narrow, c.in_default) in
    rw three c.centre_rows_down-in_default.ensures
