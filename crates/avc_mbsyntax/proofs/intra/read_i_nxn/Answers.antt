use Rattle.avc_mbsyntax.proofs.SliceDataReading.{◌≡◌, ◌≤◌, ◌∙◌, All, IfSome, ap, arith, ints, of_z, subst, sym, to_z, w8, reader_bits, context_of, qp_after, i_nxn_read, same_nxn}
use Rattle.avc_mbsyntax.proofs.intra.read_i_nxn.Goals as goal

pub returns-clause-read : goal.returns-clause-read
returns-clause-read c =
    let same = same_nxn (sym c.in-INxN.is ∙ c.set_nxn.ensures) in
    let qp = c.args.context.now.qp in
    let delta = c.read_after_pattern.new.levels.mb_qp_delta in
    let back : to_z w8 (of_z w8 delta) ≡ delta = omega (arith, ints) in (
      i_nxn_read (context_of c.args.context.now) _ _ _ _ _ _ _
          (reader_bits c.args.reader.now) (reader_bits c.read_modes.new.reader) (reader_bits c.ue_to.new.self) (reader_bits c.read_cbp.new.reader) (reader_bits c.read_after_pattern.new.reader)
          c.in_ok-read_modes.ensures.read.0 c.in_ok-chroma_mode.ensures.read.0 c.in_ok-pattern.ensures.read.0 c.in_ok-read_after_pattern.ensures.read.0 same.0 same.1 (c.qp_after-mb-inside.ensures.value ∙ ap (qp_after qp) back),
      c.in_ok-read_after_pattern.ensures.read.1 ∙ c.in_ok-pattern.ensures.read.1 ∙ c.in_ok-chroma_mode.ensures.read.1 ∙ c.in_ok-read_modes.ensures.read.1,
    )

pub returns-clause-range : goal.returns-clause-range
returns-clause-range c =
    let same = same_nxn (sym c.in-INxN.is ∙ c.set_nxn.ensures) in
    (subst (All (λ m. IfSome m (λ rem. rem ≤ 7))) (sym same.0) c.in_ok-read_modes.ensures.range, omega (arith, same.1, c.in_ok-chroma_mode.ensures.most), c.in_ok-read_after_pattern.ensures.range)

pub returns-clause-quantiser : goal.returns-clause-quantiser
returns-clause-quantiser c = λ _. c.qp_after-mb-inside.ensures.most

pub qp_after-mb-inside-requires : goal.qp_after-mb-inside-requires
qp_after-mb-inside-requires c = omega (arith, ints, c.in_ok-read_after_pattern.ensures.delta)
