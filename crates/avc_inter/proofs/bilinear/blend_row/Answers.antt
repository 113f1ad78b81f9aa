use Rattle.avc_inter.proofs.SixRows.{three_words, arith, refl, ap, slice_index, ◌∙◌, same_blend}
use Rattle.avc_inter.proofs.bilinear.blend_row.Goals as goal

pub sixteen-here-requires : goal.sixteen-here-requires
sixteen-here-requires g c = (three_words, λ k low. omega (arith, c.requires k low))

pub sixteen-right-requires : goal.sixteen-right-requires
sixteen-right-requires g c = (three_words, λ k low. omega (arith, c.requires k low))

pub sixteen-below-requires : goal.sixteen-below-requires
sixteen-below-requires g c = (three_words, λ k low. omega (arith, c.requires k low))

pub sixteen-across-requires : goal.sixteen-across-requires
sixteen-across-requires g c = (three_words, λ k low. omega (arith, c.requires k low))

pub overflow_add-at : goal.overflow_add-at
overflow_add-at g c = omega (arith, c.requires 0 (omega arith))

pub overflow_add-at-2 : goal.overflow_add-at-2
overflow_add-at-2 g c = omega (arith, c.requires 0 (omega arith))

pub overflow_add-at-3 : goal.overflow_add-at-3
overflow_add-at-3 g c = omega (arith, c.requires 0 (omega arith))

pub overflow_add-at-4 : goal.overflow_add-at-4
overflow_add-at-4 g c = omega (arith, c.requires 0 (omega arith))

pub returns : goal.returns
returns g c k low =
    let p = c.args.source.samples.now in
    c.blends_of.ensures k low
    ∙ same_blend _ _ _ _ _ _ _ _ _ _ _ _ _ _ _ _ refl refl refl refl
    (c.sixteen-here.ensures k low)
    (c.sixteen-right.ensures k low ∙ ap (slice_index p) (omega arith))
    (c.sixteen-below.ensures k low ∙ ap (slice_index p) (omega arith))
    (c.sixteen-across.ensures k low ∙ ap (slice_index p) (omega arith))
