use Rattle.std.proofs.Common.{rules, arith, ◌≡◌, Err, ◌∙◌}
use Rattle.avc_bits.specs.Reader.{reader_bits}
use Rattle.avc_info.specs.RefusedSet.{scaling_lists}
use Rattle.avc_info.proofs.Scaling.{lists_fault, lists_flag_fault, lists_more, lists_over}
use Rattle.avc_info.proofs.refused_set.pass_scaling_lists.Goals as goal

pub returns-in_err-present : goal.returns-in_err-present
returns-in_err-present c =
    let fault : scaling_lists c.args.count c.args.entries (reader_bits c.args.reader.now) ≡ Err c.in_err-present.field-0.0 =
    c.loop.invariant.read ∙ lists_flag_fault c.args.count c.loop.counter _ _ _ (omega arith) c.in_err-present.ensures.read in
    search rules

pub returns-in_err-pass_scaling_list_if : goal.returns-in_err-pass_scaling_list_if
returns-in_err-pass_scaling_list_if c =
    let fault : scaling_lists c.args.count c.args.entries (reader_bits c.args.reader.now) ≡ Err c.in_err-pass_scaling_list_if.field-0.0 =
    c.loop.invariant.read
    ∙ lists_fault c.args.count c.loop.counter _ _ _ _ _ (omega arith) c.in_ok-present.ensures.read.0 c.in_err-pass_scaling_list_if.ensures.read in
    search rules

pub loop-preserved : goal.loop-preserved
loop-preserved c = record {
  within = omega arith;
  read =
      c.loop.invariant.read
      ∙ lists_more c.args.count c.loop.counter _ _ _ _ _ _ (omega arith) c.in_ok-present.ensures.read.0 c.in_ok-pass_scaling_list_if.ensures.read.0;
  bytes = c.in_ok-pass_scaling_list_if.ensures.read.1 ∙ c.in_ok-present.ensures.read.1 ∙ c.loop.invariant.bytes;
}

pub returns : goal.returns
returns c = record { read = (c.loop.invariant.read ∙ lists_over c.args.count c.loop.counter _ _ (omega arith), c.loop.invariant.bytes) }
