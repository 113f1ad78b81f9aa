use Rattle.avc_tools.proofs.Taking.{decimal, sets_after, newline, slice_fields, slice_picture, slice_place, line_put}
use Rattle.avc_tools.proofs.headers.add_slice_line.Goals as goal

pub returns : goal.returns
returns c =
    line_put _ (decimal c.args.index) (slice_place c.args.header.now) (slice_picture c.args.header.now) (slice_fields (sets_after c.args.reader.now) c.args.header.now) newline _ _ _ _ _
    c.in_ok-begin_line.ensures c.in_ok-add_slice_place.ensures c.in_ok-add_slice_picture.ensures c.in_ok-add_slice_fields.ensures c.in_ok-end_line.ensures
