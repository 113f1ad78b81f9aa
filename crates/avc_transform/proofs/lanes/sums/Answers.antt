use Rattle.avc_transform.proofs.Residuals.{◌+ℤ◌, arith, IsBelow-add, lanes_fit, lanes, lanes_small}
use Rattle.avc_transform.proofs.lanes.sums.Goals as goal

pub overflow_add-result : goal.overflow_add-result
overflow_add-result c = lanes_fit (λ x y. x +ℤ y) IsBelow-add c.args.a c.args.b (omega arith) (omega arith) c.requires.a c.requires.b

pub returns : goal.returns
returns c = record {
  values = lanes (λ x y. x +ℤ y) IsBelow-add c.args.a c.args.b (omega arith) (omega arith) c.requires.a c.requires.b;
  small = lanes_small (λ x y. x +ℤ y) IsBelow-add c.args.a c.args.b (omega arith) (omega arith) c.requires.a c.requires.b;
}
