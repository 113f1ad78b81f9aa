use Rattle.avc_deblock.proofs.FilteredPictures.{◌≡◌, ◌∙◌, sym, false, inter_between}
use Rattle.avc_deblock.proofs.block_strength.strength.Goals.{then-p, else-p}
use Rattle.avc_deblock.proofs.block_strength.strength.Goals as goal

pub returns-else-q : goal.returns-else-q
returns-else-q c coded motion names ap aq hp hq inside =
    let neither : (c.args.p.now.is_intra ≡ false) × (c.args.q.now.is_intra ≡ false) = elim c.if-p.branch [
      | then-p w ↦ let never = sym w.value-is ∙ c.if-q.false in absurd (cc)
      | else-p w ↦ (w.if-p.false, sym w.value-is ∙ c.if-q.false)
    ] in
    c.inter_strength.ensures.value
    ∙ inter_between coded motion names ap aq c.args.p.now c.args.p_block c.args.q.now c.args.q_block c.requires.p c.requires.q hp hq neither.0 neither.1
