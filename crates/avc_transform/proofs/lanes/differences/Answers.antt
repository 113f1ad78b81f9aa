use Rattle.avc_transform.proofs.Residuals.{◌-ℤ◌, arith, IsBelow-sub, lanes_fit, lanes, lanes_small}
use Rattle.avc_transform.proofs.lanes.differences.Goals as goal

pub overflow_sub-result : goal.overflow_sub-result
overflow_sub-result c = lanes_fit (λ x y. x -ℤ y) IsBelow-sub c.args.a c.args.b (omega arith) (omega arith) c.requires.a c.requires.b

pub returns : goal.returns
returns c = record {
  values = lanes (λ x y. x -ℤ y) IsBelow-sub c.args.a c.args.b (omega arith) (omega arith) c.requires.a c.requires.b;
  small = lanes_small (λ x y. x -ℤ y) IsBelow-sub c.args.a c.args.b (omega arith) (omega arith) c.requires.a c.requires.b;
}
