use Rattle.avc_mbsyntax.proofs.SliceDataReading.{◌≡◌, ◌∙◌, ap, Err, arith, to_z, of_z, w8, sym, ints, residual_of, reader_bits}
use Rattle.avc_mbsyntax.proofs.SliceDataReading.{context_of, i_16x16_mb, qp_after, fault_told, i_16x16_fault, i_16x16_read, same_16x16}
use Rattle.avc_mbsyntax.proofs.intra.read_i_16x16.Goals as goal

pub returns-in_err-read_levels-clause-read : goal.returns-in_err-read_levels-clause-read
returns-in_err-read_levels-clause-read c =
    let delta = c.in_ok-mb_qp_delta.mb_qp_delta in
    let back : to_z w8 (of_z w8 c.in_ok-mb_qp_delta.mb_qp_delta) ≡ c.in_ok-mb_qp_delta.mb_qp_delta = omega (arith, ints) in
    let fault : i_16x16_mb (context_of c.args.context.now) c.args.n (reader_bits c.args.reader.now) ≡ Err c.in_err-read_levels.field-0.0 =
    i_16x16_fault (context_of c.args.context.now) c.args.n c.in_ok-chroma_mode.field-0 c.luma_pattern_of.result delta (to_z w8 (of_z w8 delta)) c.in_ok-luma_dc.luma_dc (reader_bits c.args.reader.now) (reader_bits c.ue_to.new.self) (reader_bits c.read_qp_delta.new.reader) (reader_bits c.read_intra_dc.new.reader) c.in_err-read_levels.field-0.0
    c.in_ok-chroma_mode.ensures.read.0 c.in_ok-mb_qp_delta.ensures.read.0 c.in_ok-luma_dc.ensures.read.0 c.luma_pattern_of.ensures.value back (c.in_err-read_levels.ensures.read c.in_ok-luma_dc.luma_dc) in
    fault_told _ c.from_residual-in_err-read_levels.result c.from_residual-in_err-read_levels.ensures.1 fault

pub returns-clause-read : goal.returns-clause-read
returns-clause-read c =
    let delta = c.in_ok-mb_qp_delta.mb_qp_delta in
    let levels = c.read_levels.new.levels in
    let back : to_z w8 (of_z w8 c.in_ok-mb_qp_delta.mb_qp_delta) ≡ c.in_ok-mb_qp_delta.mb_qp_delta = omega (arith, ints) in
    let q : c.qp_after-mb-inside.result ≡ qp_after c.args.context.now.qp c.read_levels.new.levels.mb_qp_delta = c.qp_after-mb-inside.ensures.value ∙ ap (qp_after c.args.context.now.qp) (sym c.in_ok-read_levels.ensures.delta) in
    let same = same_16x16 (sym c.in-I16x16.is ∙ c.set_16x16.ensures) in
    rw (same.0, same.1, same.2) (
      i_16x16_read (context_of c.args.context.now) c.args.n c.in_ok-chroma_mode.field-0 c.luma_pattern_of.result c.qp_after-mb-inside.result delta (to_z w8 (of_z w8 delta)) c.in_ok-luma_dc.luma_dc (residual_of c.in_ok-luma_dc.luma_dc levels)
          (reader_bits c.args.reader.now) (reader_bits c.ue_to.new.self) (reader_bits c.read_qp_delta.new.reader) (reader_bits c.read_intra_dc.new.reader) (reader_bits c.read_levels.new.reader)
          c.in_ok-chroma_mode.ensures.read.0 c.in_ok-mb_qp_delta.ensures.read.0 c.in_ok-luma_dc.ensures.read.0 c.luma_pattern_of.ensures.value back (c.in_ok-read_levels.ensures.read c.in_ok-luma_dc.luma_dc).0 q,
      (c.in_ok-read_levels.ensures.read c.in_ok-luma_dc.luma_dc).1 ∙ c.in_ok-luma_dc.ensures.read.1 ∙ c.in_ok-mb_qp_delta.ensures.read.1 ∙ c.in_ok-chroma_mode.ensures.read.1,
    )

pub returns-clause-range : goal.returns-clause-range
returns-clause-range c =
    let same = same_16x16 (sym c.in-I16x16.is ∙ c.set_16x16.ensures) in
    rw (same.0, same.1, same.2) (omega arith, c.in_ok-chroma_mode.ensures.most, c.in_ok-read_levels.ensures.range c.in_ok-luma_dc.luma_dc c.in_ok-luma_dc.ensures.small)

pub returns-clause-quantiser : goal.returns-clause-quantiser
returns-clause-quantiser c = λ _. c.qp_after-mb-inside.ensures.most

pub qp_after-mb-inside-requires : goal.qp_after-mb-inside-requires
qp_after-mb-inside-requires c = omega (arith, ints, c.in_ok-mb_qp_delta.ensures.low, c.in_ok-mb_qp_delta.ensures.high)
