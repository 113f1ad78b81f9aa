use Rattle.avc_mbsyntax.proofs.SliceDataReading.{◌≡◌, false, ap, sym, subst, ◌∙◌, rules, reader_bits, stopped, Follows, one_more, rest_at, rest_of, i_start}
use Rattle.avc_mbsyntax.proofs.slice_data.SliceData.start.Goals as goal

pub returns-in_err-read_one : goal.returns-in_err-read_one
unfolding rest_of
returns-in_err-read_one c = λ s before f l u.
    let d = c.args.self.now in
    let intra : s.is_p ≡ false = f.is_p ∙ c.if-is_p.false in
    let here : rest_of s before c.args.self.now ≡ one_more s before c.args.self.now.qp (reader_bits c.args.self.now.reader) =
    ap (λ t. rest_at t s before d.qp (reader_bits d.reader)) c.requires ∙ i_start s before d.qp d.remaining (reader_bits d.reader) intra f.size in
    let fault = c.in_err-read_one.ensures s before f l u in
    let gone : rest_of s before c.args.self.now ≡ stopped c.in_err-read_one.field-0.0 = here ∙ fault.0 in
    let again : rest_of s before c.read_one.new.self ≡ stopped c.in_err-read_one.field-0.0 = ap (rest_of s before) fault.1 ∙ gone in
    let follows : Follows s before c.read_one.new.self = subst (Follows s before) (sym fault.1) f in
    search (rules, gone, again, follows)

pub returns-in_ok-read_one : goal.returns-in_ok-read_one
unfolding rest_of
returns-in_ok-read_one c = λ s before f l u.
    let d = c.args.self.now in
    let intra : s.is_p ≡ false = f.is_p ∙ c.if-is_p.false in
    let found = c.in_ok-read_one.ensures s before f l u in (
      ap (λ t. rest_at t s before d.qp (reader_bits d.reader)) c.requires ∙ i_start s before d.qp d.remaining (reader_bits d.reader) intra f.size ∙ found.0,
      found.1,
      found.2,
    )
