use Rattle.avc_rbsp.proofs.Reading.{escaped, escaped_all, escaped_more}
use Rattle.avc_rbsp.proofs.escapes.escape.Goals as goal

pub loop-byte-preserved : goal.loop-byte-preserved
loop-byte-preserved c = record {
  sum =
      escaped_more c.loop-byte.body.items c.push_escaped.new.body.items c.args.rbsp.now (escaped c.args.rbsp.now) c.loop-byte.byte-index c.loop-byte.zeros c.one_more-zeros.result
      c.loop-byte-test.true c.in_ok-push_escaped.ensures c.one_more-zeros.ensures.value c.loop-byte.invariant.sum;
  few = c.one_more-zeros.ensures.few;
}

pub returns : goal.returns
returns c = escaped_all c.loop-byte.body.items c.args.rbsp.now (escaped c.args.rbsp.now) c.loop-byte.byte-index c.loop-byte.zeros c.loop-byte-test.false c.loop-byte.invariant.sum
