use Rattle.avc_units.proofs.SetUnits.{sets_after, open_picture_in, meant, step-by, step_sets, step_wants, forbidden_step, forbidden_sets}
use Rattle.avc_units.proofs.units.step_of.Goals as goal

pub returns-then-unit-ge128 : goal.returns-then-unit-ge128
returns-then-unit-ge128 c =
    let u = c.args.unit.now in
    record {
      step = forbidden_step (sets_after c.args.table.now) c.args.context.running (open_picture_in c.args.context) u c.if-unit-ge128.true;
      put = forbidden_sets c.args.table.now u c.if-unit-ge128.true;
      slice = tt;
      sets = tt;
      memory = tt;
    }

pub returns : goal.returns
returns c =
    let u = c.args.unit.now in
    let k = meant c.kind_of.result in
    let r = c.step_by.result in
    let did = c.step_by.ensures in
    record {
      step = step-by r (sets_after c.args.table.now) c.args.context u k c.if-unit-ge128.false c.kind_of.ensures did.step;
      put = step_sets r c.args.table.now c.step_by.new.table u k c.if-unit-ge128.false c.kind_of.ensures did.put;
      slice = did.slice;
      sets = did.sets;
      memory = step_wants r u k c.if-unit-ge128.false c.kind_of.ensures did.body did.read;
    }
