use Rattle.avc_yuv.proofs.Windows.{◌+◌, ◌-◌, ◌*◌, ◌≤◌, length, ◌∙◌, arith, mul-le-mul_right, row_laid}
use Rattle.avc_yuv.proofs.copy.copy_window.Goals as goal

pub rows-preserved : goal.rows-preserved
rows-preserved g c =
    let of = c.args.of in
    let room : (of.height - 1) * c.args.stride + of.width ≤ length c.args.out.now = c.requires.room (omega (arith, c.rows-test.true)) in
    let before_last : c.rows.number ≤ of.height - 1 = omega (arith, c.rows-test.true) in
    record {
      same_length = c.copy_row.ensures.same_length ∙ c.rows.invariant.same_length;
      rows =
          row_laid (g.P.PictureRows.picture c.args.picture.now) c.args.component of c.rows.number c.args.stride c.shown_row.result.now c.rows.out _ c.args.out.now c.requires.window
          c.shown_row.ensures.row c.requires.stride (omega (arith, mul-le-mul_right c.args.stride before_last, room)) c.rows.invariant.rows c.copy_row.ensures.row;
    }
