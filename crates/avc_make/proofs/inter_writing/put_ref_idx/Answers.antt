use Rattle.avc_make.proofs.Slices.{ℕ, ◌-◌, ◌<◌, ◌≤◌, take, ◌∙◌, sym, subst, arith, Each}
use Rattle.avc_make.proofs.inter_writing.put_ref_idx.Goals as goal

pub put_indices-requires : goal.put_indices-requires
put_indices-requires c =
    let t = c.args.mb_type.now in
    let active = c.args.num_ref_idx_active in
    let is = sym c.has_ref_idx.ensures.value ∙ c.if-has_ref_idx.true in
    let ranges = rw is at c.requires.ranges in
    record {
      going = c.requires.going;
      some = omega (arith, c.has_ref_idx.ensures.many c.if-has_ref_idx.true);
      within = subst (λ n. Each (λ (i : ℕ). (i ≤ active - 1) × (i < 4294967295)) (take n c.args.ref_idx.now)) (sym c.partitions.ensures.value) ranges.active;
    }

pub returns-then-has_ref_idx : goal.returns-then-has_ref_idx
returns-then-has_ref_idx c = grind (arith)
