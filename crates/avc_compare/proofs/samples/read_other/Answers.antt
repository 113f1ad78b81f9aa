use Rattle.avc_compare.proofs.Comparisons.{◌-◌, length, rules, read_behind}
use Rattle.avc_compare.proofs.samples.read_other.Goals as goal

pub reads-preserved : goal.reads-preserved
reads-preserved g c = record {
  long = search rules;
  within = search rules;
  consumed = read_behind _ _ _ c.reads.bytes c.read_once.new.piece c.reads.count (length c.reads.bytes - c.reads.count) c.in-Ok.len c.reads.invariant.within c.in-Ok.ensures.within
      c.reads.invariant.consumed c.in-Ok.ensures.bytes;
}
