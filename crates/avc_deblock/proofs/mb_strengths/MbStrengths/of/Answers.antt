use Rattle.avc_deblock.proofs.FilteredPictures.{◌∙◌, ◌∷◌, [], ◌*◌, ◌+◌, true, false, sym, refl, arith, inside_intra, threes, inter_strength_of}
use Rattle.avc_deblock.proofs.Lanes.{splat_at}
use Rattle.avc_deblock.proofs.mb_strengths.MbStrengths.of.Goals as goal

pub returns-then-mb-clause-inside : goal.returns-then-mb-clause-inside
returns-then-mb-clause-inside c true n k some n_low k_low =
    splat_at 16 (4 * n + k) 3 (omega (arith, n_low, k_low)) ∙ sym (threes k k_low) ∙ inside_intra c.args.mb.info.now true (3 ∷ 3 ∷ 3 ∷ 3 ∷ []) c.if-mb.true threes n some k k_low
returns-then-mb-clause-inside c false n k some n_low k_low =
    splat_at 16 (4 * n + k) 3 (omega (arith, n_low, k_low)) ∙ sym (threes k k_low) ∙ inside_intra c.args.mb.info.now false (3 ∷ 3 ∷ 3 ∷ 3 ∷ []) c.if-mb.true threes n some k k_low

pub returns-clause-inside : goal.returns-clause-inside
returns-clause-inside c v n k some n_low k_low =
    let q = c.args.mb.info.now in
    c.of_blocks.ensures.inside q (c.args.mb.are c.if-mb.false) v n k some n_low k_low ∙ sym (inter_strength_of q q v n k (rw (c.if-mb.false) refl))

pub returns-clause-left : goal.returns-clause-left
returns-clause-left c p_inter q_inter k k_low =
    c.of_blocks.ensures.left c.args.left.info.now c.args.mb.info.now (c.args.left.are p_inter) (c.args.mb.are q_inter) k k_low

pub returns-clause-above : goal.returns-clause-above
returns-clause-above c p_inter q_inter k k_low =
    c.of_blocks.ensures.above c.args.above.now c.args.mb.info.now c.of.ensures (c.args.mb.are q_inter) k k_low
