use Rattle.avc_decoder.proofs.stream.step_in.Goals as goal

pub returns : goal.returns
returns c =
    let x = c.context in
    let e = c.in_ok-step.ensures in
    record {
      full = x.result.full;
      is_full = x.ensures.full;
      is = rw (x.ensures.running, x.ensures.last) at e.step;
      put = e.put;
      under = e.slice;
      same = e.sets;
    }
