use Rattle.avc_inter.proofs.SixRows.{◌≡◌, ◌+◌, arith, refl, rules, slice_index, stored}
use Rattle.avc_inter.proofs.lines.line_at.Goals as goal

pub loop-x-preserved : goal.loop-x-preserved
loop-x-preserved g c = record {
  long = search rules;
  done = stored (λ x v. v ≡ slice_index c.args.p.now (c.args.first + x)) c.loop-x.line c.loop-x.x _ 0 (omega arith) refl c.loop-x.invariant.done;
}
