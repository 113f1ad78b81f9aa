use Rattle.avc_mbsyntax.proofs.SliceDataReading.{◌≡◌, ◌∙◌, [], Err, refl, arith, to_z, of_z, w8, ints, reader_bits, small_none, context_of}
use Rattle.avc_mbsyntax.proofs.SliceDataReading.{after_pattern, after_delta, fault_told, nothing_after, nothing_in_range}
use Rattle.avc_mbsyntax.proofs.residual.read_after_pattern.Goals as goal

pub returns-in_err-read_levels-clause-read : goal.returns-in_err-read_levels-clause-read
returns-in_err-read_levels-clause-read c =
    let back : to_z w8 (of_z w8 c.in_ok-mb_qp_delta.mb_qp_delta) ≡ c.in_ok-mb_qp_delta.mb_qp_delta = omega (arith, ints) in
    let fault : after_pattern (context_of c.args.context.now) c.args.pattern (reader_bits c.args.reader.now) ≡ Err c.in_err-read_levels.field-0.0 =
    after_delta (context_of c.args.context.now) c.args.pattern c.in_ok-mb_qp_delta.mb_qp_delta (to_z w8 (of_z w8 c.in_ok-mb_qp_delta.mb_qp_delta)) (reader_bits c.args.reader.now) (reader_bits c.read_qp_delta_where.new.reader) c.in_ok-mb_qp_delta.ensures.read.0 back
    ∙ c.in_err-read_levels.ensures.read [] in
    fault_told _ c.from_residual-in_err-read_levels.result c.from_residual-in_err-read_levels.ensures.1 fault

pub returns-clause-read : goal.returns-clause-read
returns-clause-read c =
    let back : to_z w8 (of_z w8 c.in_ok-mb_qp_delta.mb_qp_delta) ≡ c.in_ok-mb_qp_delta.mb_qp_delta = omega (arith, ints) in (
      after_delta (context_of c.args.context.now) c.args.pattern c.in_ok-mb_qp_delta.mb_qp_delta (to_z w8 (of_z w8 c.in_ok-mb_qp_delta.mb_qp_delta)) (reader_bits c.args.reader.now) (reader_bits c.read_qp_delta_where.new.reader) c.in_ok-mb_qp_delta.ensures.read.0 back
          ∙ (c.in_ok-read_levels.ensures.read []).0,
      (c.in_ok-read_levels.ensures.read []).1 ∙ c.in_ok-mb_qp_delta.ensures.read.1,
    )

pub returns-clause-range : goal.returns-clause-range
returns-clause-range c = c.in_ok-read_levels.ensures.range [] (λ i. small_none 0 i)

pub returns-then-pattern-eq0-clause-read : goal.returns-then-pattern-eq0-clause-read
returns-then-pattern-eq0-clause-read c = (nothing_after (context_of c.args.context.now) c.args.pattern c.clear_levels.new.levels (reader_bits c.args.reader.now) c.if-pattern-eq0.true c.clear_levels.ensures, refl)

pub returns-then-pattern-eq0-clause-range : goal.returns-then-pattern-eq0-clause-range
returns-then-pattern-eq0-clause-range c = nothing_in_range c.clear_levels.new.levels c.clear_levels.ensures

pub returns-then-pattern-eq0-clause-delta : goal.returns-then-pattern-eq0-clause-delta
returns-then-pattern-eq0-clause-delta c = rw c.clear_levels.ensures.no_delta (omega (arith, ints))
