use Rattle.avc_mbsyntax.proofs.SliceDataReading.{◌≡◌, ap, ◌∙◌, rules, reader_bits, stopped, rest_at, rest_of, p_fault, p_full, p_over, p_run}
use Rattle.avc_types.specs.declared.fault.Fault.TheVariants as faults
use Rattle.avc_mbsyntax.proofs.slice_data.SliceData.read_run.Goals as goal

pub returns-then-self-eq0-clause-run : goal.returns-then-self-eq0-clause-run
unfolding rest_of
returns-then-self-eq0-clause-run c = λ s before f inter.
    let d = c.args.self.now in
    let gone : rest_of s before c.args.self.now ≡ stopped faults.TooManyMacroblocks =
    ap (λ t. rest_at t s before d.qp (reader_bits d.reader)) c.requires ∙ p_full s before d.qp d.remaining (reader_bits d.reader) inter f.size c.if-self-eq0.true in
    (gone, gone, f)

pub returns-in_err-count-clause-run : goal.returns-in_err-count-clause-run
unfolding rest_of
returns-in_err-count-clause-run c = λ s before f inter.
    let d = c.args.self.now in
    let gone : rest_of s before c.args.self.now ≡ stopped c.in_err-count.field-0.0 =
    ap (λ t. rest_at t s before d.qp (reader_bits d.reader)) c.requires ∙ p_fault s before d.qp d.remaining (reader_bits d.reader) c.in_err-count.field-0.0 inter f.size c.if-self-eq0.false c.in_err-count.ensures.read in
    search (rules, gone, f)

pub returns-then-count-self-clause-run : goal.returns-then-count-self-clause-run
unfolding rest_of
returns-then-count-self-clause-run c = λ s before f inter.
    let d = c.args.self.now in
    let gone : rest_of s before c.args.self.now ≡ stopped faults.TooManyMacroblocks =
    ap (λ t. rest_at t s before d.qp (reader_bits d.reader)) c.requires ∙ p_over s before d.qp d.remaining c.in_ok-count.count (reader_bits d.reader) (reader_bits c.ue.new.self) inter f.size c.if-self-eq0.false c.in_ok-count.ensures.read.0 c.if-count-self.true in
    (gone, gone, f)

pub returns-clause-run : goal.returns-clause-run
unfolding rest_of
returns-clause-run c = λ s before f inter.
    let d = c.args.self.now in (
      ap (λ t. rest_at t s before d.qp (reader_bits d.reader)) c.requires ∙ p_run s before d.qp d.remaining c.in_ok-count.count (reader_bits d.reader) (reader_bits c.ue.new.self) inter f.size c.if-self-eq0.false c.in_ok-count.ensures.read.0 c.if-count-self.false,
      record { is_p = f.is_p; num_ref_idx_active = f.num_ref_idx_active; size = f.size; quantiser = f.quantiser; stage = (inter, c.if-count-self.false) },
    )
