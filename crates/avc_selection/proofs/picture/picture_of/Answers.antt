use Rattle.std.proofs.Common.{sym, ◌∙◌}
use Rattle.avc_selection.proofs.Begun.{begins_next, begins_stream}
use Rattle.avc_selection.proofs.picture.picture_of.Goals as goal

pub returns-then-begins_picture : goal.returns-then-begins_picture
returns-then-begins_picture c =
    begins_next c.args.selection c.args.unit c.args.sps.now c.args.header.now c.args.kept c.in-Some.picture c.next.result c.new_picture.result c.in-Some.is
    (sym c.begins_picture.ensures ∙ c.if-begins_picture.true) c.new_picture.ensures.read c.new_picture.ensures.unit c.new_picture.ensures.choice c.next.ensures

pub returns-in-None : goal.returns-in-None
returns-in-None c =
    begins_stream c.args.selection c.args.unit c.args.sps.now c.args.header.now c.args.kept c.first.result c.new_picture-in-None.result c.in-None.is
    c.new_picture-in-None.ensures.read c.new_picture-in-None.ensures.unit c.new_picture-in-None.ensures.choice c.first.ensures
