use Rattle.avc_make.proofs.Slices.{◌≡◌, ◌≤◌, ◌<◌, ◌++◌, drop, false, flat_map, Each, te_word}
use Rattle.avc_make.proofs.inter_writing.put_indices.Given as goal

-- what was put and the indices that are left are all
abbrev pub invariant-loop-index : goal.invariant-loop-index
invariant-loop-index l = record {
  going : l.maker.failed ≡ false;
  sum : l.maker.bits ++ flat_map (te_word l.most) (drop l.index-index l.ref_idx) ≡ l.fn.maker.bits ++ flat_map (te_word l.most) l.ref_idx;
  within : Each (λ i. (i ≤ l.most) × (i < 4294967295)) (drop l.index-index l.ref_idx);
}
