use Rattle.avc_yuv.proofs.Windows.{◌∙◌, put_more}
use Rattle.avc_yuv.proofs.gather.put_rows.Goals as goal

pub rows-preserved : goal.rows-preserved
rows-preserved g c = record {
  same_length = c.put.ensures.length ∙ c.rows.invariant.same_length;
  rows =
      put_more (g.P.PictureRows.picture c.args.picture.now) c.args.component c.args.of c.args.first c.rows.number c.args.at c.shown_row-row.result.now c.args.room.now c.rows.room c.put.new.room
      c.requires.window c.shown_row-row.ensures.row c.shown_row-row.ensures.length c.rows.invariant.rows c.put.ensures.front;
}
