use Rattle.avc_inter.proofs.SixRows.{five_words, ◌≡◌, arith, room_for, refl, strided_as, mean_turned, two_words, mul-le-mul_right}
use Rattle.avc_inter.proofs.positions.row_beside.Goals as goal

pub rows_between-requires : goal.rows_between-requires
rows_between-requires g c =
    (two_words, (c.requires.out, (room_for _ _ c.args.to.lanes _ c.args.from.first _ _ c.requires.room (omega arith), room_for _ _ c.args.to.lanes _ c.args.from.first _ _ c.requires.room (omega (arith, mul-le-mul_right c.args.from.stride c.requires.row)))))

pub diagonal_rows-requires : goal.diagonal_rows-requires
diagonal_rows-requires g c =
    (two_words, (c.requires.out, (room_for _ _ c.args.to.lanes _ c.args.from.first _ _ c.requires.room (omega (arith, mul-le-mul_right c.args.from.stride c.requires.row)), room_for _ _ c.args.to.lanes _ c.args.from.first _ _ c.requires.room (omega arith))))

pub centre_rows_across-requires : goal.centre_rows_across-requires
centre_rows_across-requires g c = (five_words, (two_words, (c.requires.out, omega (arith, c.requires.row))))

pub diagonal_rows-requires-in_default : goal.diagonal_rows-requires-in_default
diagonal_rows-requires-in_default g c =
    (two_words, (c.requires.out, (room_for _ _ c.args.to.lanes _ c.args.from.first _ _ c.requires.room (omega (arith, mul-le-mul_right c.args.from.stride c.requires.row)), room_for _ _ c.args.to.lanes _ c.args.from.first _ _ c.requires.room (omega arith))))

pub returns-in-0 : goal.returns-in-0
returns-in-0 g c = rw (c.in-0.is) c.rows_between.ensures

pub returns-in-1 : goal.returns-in-1
returns-in-1 g c = rw (c.in-1.is) c.diagonal_rows.ensures

pub returns-in-2 : goal.returns-in-2
returns-in-2 g c = rw (c.in-2.is) (strided_as c.centre_rows_across.ensures refl (λ x y column low. mean_turned _ _))

pub returns-in_default : goal.returns-in_default
returns-in_default g c =
    let three : c.args.beyond.right ≡ 3 = omega (arith, c.args.beyond.narrow, c.in_default) in
    rw three c.diagonal_rows-in_default.ensures
