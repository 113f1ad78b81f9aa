use Rattle.avc_yuv.proofs.Windows.{ap, ◌∙◌, take_rest, laid, shown_rows, dense_component, end_written}
use Rattle.avc_yuv.proofs.copy.copy_dense.Goals as goal

pub returns-clause-samples : goal.returns-clause-samples
returns-clause-samples g c =
    let of = c.args.of in let old = c.args.out.now in let p = g.P.PictureRows.picture c.args.picture.now in
    let rest = ap (λ memory. laid of.width (shown_rows p c.args.component) memory) (take_rest old c.args.at) in
    end_written c.args.at old c.copy_window.new.out
    ∙ dense_component p c.args.component of old c.copy_window.new.out c.args.at c.requires.window (c.copy_window.ensures.rows ∙ rest)
