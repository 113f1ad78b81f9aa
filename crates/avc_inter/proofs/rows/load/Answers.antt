use Rattle.avc_inter.proofs.SixRows.{◌≡◌, ◌+◌, ◌∙◌, arith, refl, rules, slice_index, get_or-set_other, stored_at}
use Rattle.avc_inter.proofs.rows.load.Goals as goal

pub loop-k-preserved : goal.loop-k-preserved
loop-k-preserved g c = record {
  long = search rules;
  before = λ k low. get_or-set_other _ _ k _ 0 (λ e. omega arith) ∙ c.loop-k.invariant.before k low;
  here = stored_at (λ k v. v ≡ slice_index c.args.p.now (c.args.from + k)) c.loop-k.out c.args.to c.loop-k.k _ 0 (omega arith) refl c.loop-k.invariant.here;
}
