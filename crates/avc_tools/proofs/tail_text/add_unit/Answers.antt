use Rattle.avc_tools.proofs.Tails.{goes_on_in_tail, waits_in_tail}
use Rattle.avc_tools.proofs.tail_text.add_unit.Goals as goal

pub returns-in-Waiting : goal.returns-in-Waiting
returns-in-Waiting c = waits_in_tail c.args.cutter.now c.take_in.new.self c.args.unit.now _ _ c.take_in.result c.in-Waiting.is c.take_in.ensures

pub returns-in-Writing : goal.returns-in-Writing
returns-in-Writing c = goes_on_in_tail c.args.cutter.now c.args.unit.now _ _ c.write_unit.result c.in-Writing.is c.write_unit.ensures
