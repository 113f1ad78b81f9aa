use Rattle.avc_mbsyntax.proofs.SliceDataReading.{◌≡◌, ◌≤◌, ◌-◌, ◌∙◌, ap, arith, ints, of_z, sym, to_z, w8, reader_bits, context_of, qp_after, p_mb_read, refs_same, same_inter}
use Rattle.avc_mbsyntax.proofs.inter.read_p_mb.Goals as goal

pub returns-clause-read : goal.returns-clause-read
returns-clause-read c =
    let first = same_inter (sym c.in-PInter.is ∙ c.set_inter.ensures) in
    let second = same_inter (sym c.in-PInter-syntax.is) in
    let qp = c.args.context.now.qp in
    let delta = c.read_after_pattern.new.levels.mb_qp_delta in
    let back : to_z w8 (of_z w8 delta) ≡ delta = omega (arith, ints) in (
      p_mb_read (context_of c.args.context.now) c.args.mb_type _ _ _ _ _ _ _ _ _
          (reader_bits c.args.reader.now) (reader_bits c.read_p_mb_type.new.reader) (reader_bits c.read_ref_idx.new.reader) (reader_bits c.read_mvd.new.reader) (reader_bits c.read_cbp.new.reader)
          (reader_bits c.read_after_pattern.new.reader)
          c.in_ok-mb_type.ensures.0 c.in_ok-read_ref_idx.ensures.read.0 c.in_ok-read_mvd.ensures.0 c.in_ok-pattern.ensures.read.0 c.in_ok-read_after_pattern.ensures.read.0
          (second.0 ∙ first.0) (second.1 ∙ first.1) second.2 (c.qp_after-mb-inside.ensures.value ∙ ap (qp_after qp) back),
      c.in_ok-read_after_pattern.ensures.read.1 ∙ c.in_ok-pattern.ensures.read.1 ∙ c.in_ok-read_mvd.ensures.1 ∙ c.in_ok-read_ref_idx.ensures.read.1 ∙ c.in_ok-mb_type.ensures.1,
    )

pub returns-clause-range : goal.returns-clause-range
returns-clause-range c =
    let first = same_inter (sym c.in-PInter.is ∙ c.set_inter.ensures) in
    let second = same_inter (sym c.in-PInter-syntax.is) in
    (refs_same (λ ref. ref ≤ c.args.context.now.num_ref_idx_active - 1) _ _ _ _ (second.0 ∙ first.0) (second.1 ∙ first.1) c.in_ok-read_ref_idx.ensures.range, c.in_ok-read_after_pattern.ensures.range)

pub returns-clause-quantiser : goal.returns-clause-quantiser
returns-clause-quantiser c = λ _. c.qp_after-mb-inside.ensures.most

pub qp_after-mb-inside-requires : goal.qp_after-mb-inside-requires
qp_after-mb-inside-requires c = omega (arith, ints, c.in_ok-read_after_pattern.ensures.delta)
