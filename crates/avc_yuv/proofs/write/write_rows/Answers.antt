use Rattle.avc_yuv.proofs.Windows.{◌++◌, arith, rules, length-take-le, i420, shown_of, Luma, Cb, Cr, luma_failed, cb_failed, cr_failed, end_failed, written_before_all, written_first, all_written}
use Rattle.avc_yuv.proofs.Windows.{both_gathered, all_gathered, gathered_count, picture_counted, length-append}
use Rattle.avc_yuv.proofs.write.write_rows.Goals as goal

pub gather_component-requires-clause-counted : goal.gather_component-requires-clause-counted
gather_component-requires-clause-counted g c =
    omega (arith, picture_counted (g.P.PictureRows.picture c.args.picture.now) c.requires.whole c.requires.addressable)

pub returns-in_err-luma-clause-before_all : goal.returns-in_err-luma-clause-before_all
returns-in_err-luma-clause-before_all g c =
    let p = g.P.PictureRows.picture c.args.picture.now in
    let written = luma_failed p _ _ c.in_err-luma.field-0.0 c.in_err-luma.ensures.rows in
    written_before_all (i420 p) _ _ c.in_err-luma.field-0.0 c.from_residual.result (search rules) written

pub returns-in_err-luma-clause-err : goal.returns-in_err-luma-clause-err
returns-in_err-luma-clause-err g c =
    let p = g.P.PictureRows.picture c.args.picture.now in
    let written = luma_failed p _ _ c.in_err-luma.field-0.0 c.in_err-luma.ensures.rows in
    written_first (i420 p) _ _ c.in_err-luma.field-0.0 c.from_residual.result (search rules) written

pub gather_component-requires-2-clause-counted : goal.gather_component-requires-2-clause-counted
gather_component-requires-2-clause-counted g c =
    let p = g.P.PictureRows.picture c.args.picture.now in
    omega (arith, picture_counted p c.requires.whole c.requires.addressable, gathered_count 0 _ _ _ _ c.in_ok-luma.luma c.in_ok-luma.ensures.rows)

pub returns-in_err-cb-clause-before_all : goal.returns-in_err-cb-clause-before_all
returns-in_err-cb-clause-before_all g c =
    let p = g.P.PictureRows.picture c.args.picture.now in
    let written = cb_failed p _ _ _ _ c.in_ok-luma.luma c.in_err-cb.field-0.0 c.in_ok-luma.ensures.rows c.in_err-cb.ensures.rows in
    written_before_all (i420 p) _ _ c.in_err-cb.field-0.0 c.from_residual-in_err-cb.result (search rules) written

pub returns-in_err-cb-clause-err : goal.returns-in_err-cb-clause-err
returns-in_err-cb-clause-err g c =
    let p = g.P.PictureRows.picture c.args.picture.now in
    let written = cb_failed p _ _ _ _ c.in_ok-luma.luma c.in_err-cb.field-0.0 c.in_ok-luma.ensures.rows c.in_err-cb.ensures.rows in
    written_first (i420 p) _ _ c.in_err-cb.field-0.0 c.from_residual-in_err-cb.result (search rules) written

pub gather_component-requires-3-clause-counted : goal.gather_component-requires-3-clause-counted
gather_component-requires-3-clause-counted g c =
    let p = g.P.PictureRows.picture c.args.picture.now in
    let both = both_gathered p _ _ _ _ _ c.in_ok-luma.luma c.in_ok-cb.cb c.in_ok-luma.ensures.rows c.in_ok-cb.ensures.rows in
    omega (arith, picture_counted p c.requires.whole c.requires.addressable, gathered_count 0 _ _ _ _ c.in_ok-cb.cb both, length-append (shown_of p Luma) (shown_of p Cb))

pub returns-in_err-cr-clause-before_all : goal.returns-in_err-cr-clause-before_all
returns-in_err-cr-clause-before_all g c =
    let p = g.P.PictureRows.picture c.args.picture.now in
    let written = cr_failed p _ _ _ _ _ _ c.in_ok-luma.luma c.in_ok-cb.cb c.in_err-cr.field-0.0 c.in_ok-luma.ensures.rows c.in_ok-cb.ensures.rows c.in_err-cr.ensures.rows in
    written_before_all (i420 p) _ _ c.in_err-cr.field-0.0 c.from_residual-in_err-cr.result (search rules) written

pub returns-in_err-cr-clause-err : goal.returns-in_err-cr-clause-err
returns-in_err-cr-clause-err g c =
    let p = g.P.PictureRows.picture c.args.picture.now in
    let written = cr_failed p _ _ _ _ _ _ c.in_ok-luma.luma c.in_ok-cb.cb c.in_err-cr.field-0.0 c.in_ok-luma.ensures.rows c.in_ok-cb.ensures.rows c.in_err-cr.ensures.rows in
    written_first (i420 p) _ _ c.in_err-cr.field-0.0 c.from_residual-in_err-cr.result (search rules) written

pub write_bytes-requires : goal.write_bytes-requires
write_bytes-requires g c =
    let p = g.P.PictureRows.picture c.args.picture.now in
    let all = all_gathered p _ _ _ _ _ _ _ c.in_ok-luma.luma c.in_ok-cb.cb c.in_ok-cr.cr c.in_ok-luma.ensures.rows c.in_ok-cb.ensures.rows c.in_ok-cr.ensures.rows in
    omega (
      arith,
      picture_counted p c.requires.whole c.requires.addressable,
      gathered_count 0 _ _ _ _ c.in_ok-cr.cr all,
      length-append (shown_of p Luma ++ shown_of p Cb) (shown_of p Cr),
      length-append (shown_of p Luma) (shown_of p Cb),
      length-take-le _ _ all.within,
    )

pub returns-in_err-write_bytes-clause-before_all : goal.returns-in_err-write_bytes-clause-before_all
returns-in_err-write_bytes-clause-before_all g c =
    let p = g.P.PictureRows.picture c.args.picture.now in
    let written = end_failed _ _ _ _ _ c.in_ok-cr.cr c.in_err-write_bytes.field-0.0 (all_gathered p _ _ _ _ _ _ _ c.in_ok-luma.luma c.in_ok-cb.cb c.in_ok-cr.cr c.in_ok-luma.ensures.rows c.in_ok-cb.ensures.rows c.in_ok-cr.ensures.rows) c.in_err-write_bytes.ensures in
    written_before_all (i420 p) _ _ c.in_err-write_bytes.field-0.0 c.from_residual-in_err-write_bytes.result (search rules) written

pub returns-in_err-write_bytes-clause-err : goal.returns-in_err-write_bytes-clause-err
returns-in_err-write_bytes-clause-err g c =
    let p = g.P.PictureRows.picture c.args.picture.now in
    let written = end_failed _ _ _ _ _ c.in_ok-cr.cr c.in_err-write_bytes.field-0.0 (all_gathered p _ _ _ _ _ _ _ c.in_ok-luma.luma c.in_ok-cb.cb c.in_ok-cr.cr c.in_ok-luma.ensures.rows c.in_ok-cb.ensures.rows c.in_ok-cr.ensures.rows) c.in_err-write_bytes.ensures in
    written_first (i420 p) _ _ c.in_err-write_bytes.field-0.0 c.from_residual-in_err-write_bytes.result (search rules) written

pub returns-clause-ok : goal.returns-clause-ok
returns-clause-ok g c =
    let p = g.P.PictureRows.picture c.args.picture.now in
    all_written (i420 p) _ _ _ _ c.in_ok-cr.cr (all_gathered p _ _ _ _ _ _ _ c.in_ok-luma.luma c.in_ok-cb.cb c.in_ok-cr.cr c.in_ok-luma.ensures.rows c.in_ok-cb.ensures.rows c.in_ok-cr.ensures.rows) c.in_ok-write_bytes.ensures.1
