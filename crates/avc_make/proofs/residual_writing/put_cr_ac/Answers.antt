use Rattle.avc_make.proofs.Slices.{ap, ◌∙◌, option_copied, puts_same}
use Rattle.avc_mbsyntax.specs.Reading.{cr_side}
use Rattle.avc_make.specs.MbWriting.{ac_words}
use Rattle.avc_make.proofs.residual_writing.put_cr_ac.Goals as goal

pub returns : goal.returns
returns c =
    puts_same c.put_ac.result _ _ c.args.maker.now c.put_ac.new.maker
    (ap (λ l. ac_words c.args.chroma_pattern l (option_copied c.cr_side-2.result) c.args.blocks.now) c.cr_side.ensures
    ∙ ap (λ u. ac_words c.args.chroma_pattern (cr_side c.args.context.now.left) u c.args.blocks.now) c.cr_side-2.ensures)
    c.put_ac.ensures
