use Rattle.avc_params.proofs.ParameterSets.{common_steps, rules, arith, ◌≡◌, Err, ◌∙◌, ap, times, reader_bits, times_more, times_fault}
use Rattle.avc_params.proofs.syntax.read_times.Goals as goal

pub returns-in_err-read : goal.returns-in_err-read
returns-in_err-read g c =
    let fault : times c.args.count g.T.Syntax.syntax (reader_bits c.args.reader.now) ≡ Err c.in_err-read.field-0.0 =
    times_fault g.T.Syntax.syntax c.args.count c.loop.counter _ _ _ _ (omega arith) c.loop.invariant.read c.in_err-read.ensures.read in
    search rules

pub loop-preserved : goal.loop-preserved
loop-preserved g c = record {
  within = omega arith;
  long = grind (arith, common_steps);
  read = rw c.push.ensures (times_more _ c.loop.counter _ _ _ _ _ c.loop.invariant.read c.in_ok-read.ensures.read.0);
  bytes = c.in_ok-read.ensures.read.1 ∙ c.loop.invariant.bytes;
}

pub returns : goal.returns
returns g c =
    let all : c.args.count ≡ c.loop.counter = omega arith in
    record { read = (ap (λ n. times n g.T.Syntax.syntax (reader_bits c.args.reader.now)) all ∙ c.loop.invariant.read, c.loop.invariant.bytes) }
