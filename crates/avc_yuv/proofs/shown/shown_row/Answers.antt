use Rattle.avc_yuv.proofs.Windows.{◌+◌, shown_row_is}
use Rattle.avc_yuv.proofs.shown.shown_row.Goals as goal

pub returns-clause-row : goal.returns-clause-row
returns-clause-row g c =
    shown_row_is (g.P.PictureRows.picture c.args.picture.now) c.args.component c.args.of (c.args.of.top + c.args.number) c.row_of.result.now
    c.requires.window c.requires.inside.columns c.row_of.ensures.row c.row_of.ensures.inside
