use Rattle.avc_picture.proofs.Slices.{sym, planes_of}
use Rattle.avc_picture.proofs.filter_rows.filter_row.Goals as goal

pub returns-then-are_still : goal.returns-then-are_still
returns-then-are_still g c =
    let still = c.requires.still c.if-are_still.true in
    record {
      lines = sym (c.still_rows_stay.ensures c.args.chroma_qp_index_offset c.args.row_number c.args.above.now c.args.info.now still.0 (planes_of c.args.planes.now) c.requires.same still.1 still.2);
    }
