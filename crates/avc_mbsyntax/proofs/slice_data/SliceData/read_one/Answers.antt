use Rattle.avc_mbsyntax.proofs.SliceDataReading.{◌≡◌, ◌<◌, ◌-◌, false, ap, sym, subst, ◌∙◌, arith, length, Ok, ◌==◌, option_copied, more_data, reader_bits}
use Rattle.avc_mbsyntax.proofs.SliceDataReading.{IsSyntax, macroblock, context, IsStage, rest_of, context_is, is_open, one_longer, one_read, stage_is}
use Rattle.avc_mbsyntax.specs.SliceData.{placed}
use Rattle.avc_mbsyntax.proofs.slice_data.SliceData.read_one.Goals as goal

pub returns : goal.returns
unfolding rest_of
returns c = λ s before f l u.
    let d = c.args.self.now in
    let mb = c.read_into.new.mb in
    let mid = reader_bits c.read_into.new.reader in
    let same_qp : c.mb.inside.qp ≡ c.read_into.new.mb.qp = ap (λ m. m.qp) c.mb.view_is in
    let some : 0 < c.args.self.now.remaining = omega (arith, c.if-self-eq0.false) in
    let room : (length before == s.size) ≡ false = is_open (length before) s.size d.remaining f.size c.if-self-eq0.false in
    let read : macroblock (context s before c.args.self.now.qp) (reader_bits c.args.self.now.reader) ≡ Ok (c.read_into.new.mb, reader_bits c.read_into.new.reader) =
    ap (λ x. macroblock x (reader_bits d.reader)) (context_is s before d.is_p d.num_ref_idx_active d.qp (option_copied c.args.left) (option_copied c.args.up) f.is_p f.num_ref_idx_active l u) ∙ c.in_default.ensures.read.0 in (
      one_read s before d.qp c.mb.inside.qp (reader_bits d.reader) mid mb c.stage_after-self.result room read c.stage_after-self.ensures same_qp,
      record {
        is_p = f.is_p;
        num_ref_idx_active = f.num_ref_idx_active;
        size = one_longer before (placed s mb) s.size d.remaining f.size some;
        quantiser = λ small. omega (arith, c.in_default.ensures.quantiser (f.quantiser small), same_qp);
        stage = subst (λ t. IsStage t s (d.remaining - 1)) (sym c.stage_after-self.ensures) (stage_is (more_data mid) s (d.remaining - 1));
      },
      record { range = subst (λ n. IsSyntax n mb.syntax) (sym f.num_ref_idx_active) c.in_default.ensures.range; quantiser = λ small. c.in_default.ensures.quantiser (f.quantiser small) },
    )
