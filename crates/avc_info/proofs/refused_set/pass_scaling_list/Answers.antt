use Rattle.std.proofs.Common.{rules, arith, ◌≡◌, Err, ◌∙◌, ap, to_z, of_z, w32}
use Rattle.std.proofs.lemmas.Int.{ints}
use Rattle.avc_bits.specs.Reader.{reader_bits}
use Rattle.avc_info.specs.RefusedSet.{next_scale, scaling_list}
use Rattle.avc_info.proofs.Scaling.{list_fault, list_last, list_more, list_over}
use Rattle.avc_info.proofs.refused_set.pass_scaling_list.Goals as goal

pub returns-in_err-delta_scale : goal.returns-in_err-delta_scale
returns-in_err-delta_scale c =
    let fault : scaling_list c.args.entries 8 (reader_bits c.args.reader.now) ≡ Err c.in_err-delta_scale.field-0.0 =
    c.loop.invariant.read ∙ list_fault c.args.entries c.loop.counter _ _ _ (omega arith) c.in_err-delta_scale.ensures.read in
    search rules

pub returns-then-last_scale-eq0 : goal.returns-then-last_scale-eq0
returns-then-last_scale-eq0 c =
    let back : to_z w32 (of_z w32 c.in_ok-delta_scale.delta_scale) ≡ c.in_ok-delta_scale.delta_scale =
    omega (arith, ints, c.in_ok-delta_scale.ensures.low, c.in_ok-delta_scale.ensures.high) in
    let next = c.next_scale-last_scale.ensures ∙ ap (next_scale c.loop.last_scale) back in
    record {
      read = (
        c.loop.invariant.read ∙ list_last c.args.entries c.loop.counter _ _ _ _ _ (omega arith) c.in_ok-delta_scale.ensures.read.0 next c.if-last_scale-eq0.true,
        c.in_ok-delta_scale.ensures.read.1 ∙ c.loop.invariant.bytes,
      );
    }

pub loop-preserved : goal.loop-preserved
loop-preserved c =
    let back : to_z w32 (of_z w32 c.in_ok-delta_scale.delta_scale) ≡ c.in_ok-delta_scale.delta_scale =
    omega (arith, ints, c.in_ok-delta_scale.ensures.low, c.in_ok-delta_scale.ensures.high) in
    let next = c.next_scale-last_scale.ensures ∙ ap (next_scale c.loop.last_scale) back in
    record {
      within = omega arith;
      read = c.loop.invariant.read ∙ list_more c.args.entries c.loop.counter _ _ _ _ _ (omega arith) c.in_ok-delta_scale.ensures.read.0 next c.if-last_scale-eq0.false;
      bytes = c.in_ok-delta_scale.ensures.read.1 ∙ c.loop.invariant.bytes;
    }

pub returns : goal.returns
returns c = record { read = (c.loop.invariant.read ∙ list_over c.args.entries c.loop.counter _ _ (omega arith), c.loop.invariant.bytes) }
