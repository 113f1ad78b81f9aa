use Rattle.avc_compare.proofs.Comparisons.{◌≡◌, ap, false, is_none, length, Ok, rules, subst, sym, true, ◌∙◌, ComparedPicture, i420_count, sample_count, ReadsBeside}
use Rattle.md5.specs.Md5.{md5}
use Rattle.avc_compare.specs.Samples.{Sampled}
use Rattle.avc_compare.proofs.Further.{lacks_left, looked_at, not_read_beside, not_told}
use Rattle.avc_compare.proofs.picture.look_at_picture.Goals as goal

pub returns-in_err-read : goal.returns-in_err-read
returns-in_err-read g c =
    not_read_beside c.args.setting.how c.args.number c.args.picture.now _ _ _ c.read.new.self.theirs c.in_err-read.field-0.0 c.from_residual-in_err-read.result c.args.digests.now c.add_ours.new.self
    c.from_residual-in_err-read.ensures.1 c.in_err-read.ensures.reads

pub returns-then-not-branch : goal.returns-then-not-branch
returns-then-not-branch g c =
    let less : c.in_ok-read.field-0 ≡ false = search rules in
    lacks_left c.args.setting.how c.args.number c.args.picture.now _ _ _ c.read.new.self.theirs c.digest_of.result c.args.digests.now c.add_ours.new.self
    (subst (λ b. ReadsBeside c.args.picture.now (g.O.Read.remaining c.args.other.now) (g.O.Read.remaining c.read.new.other) c.read.new.self.theirs (Ok b)) less c.in_ok-read.ensures.reads)
    (sym c.other_size.ensures ∙ is_none c.other_size.result c.in_default.not-Some) c.in_ok-add_ours.ensures.ok
    (c.digest_of.ensures ∙ ap md5 (c.ours.ensures ∙ ap (λ (s : Sampled). s.ours) c.in_ok-copy.ensures.ok))

pub tell_line-requires-clause-same : goal.tell_line-requires-clause-same
tell_line-requires-clause-same g c =
    let all : c.in_ok-read.field-0 ≡ true = search rules in
    let read = subst (λ b. ReadsBeside c.args.picture.now (g.O.Read.remaining c.args.other.now) (g.O.Read.remaining c.read.new.other) c.read.new.self.theirs (Ok b)) all c.in_ok-read.ensures.reads in
    ap length c.theirs-theirs.ensures ∙ read.1 ∙ sym (ap length (c.ours-ours.ensures ∙ c.read.ensures.ours ∙ ap (λ (s : Sampled). s.ours) c.in_ok-copy.ensures.ok))

pub tell_line-requires-clause-whole : goal.tell_line-requires-clause-whole
tell_line-requires-clause-whole g c =
    ap length (c.ours-ours.ensures ∙ c.read.ensures.ours ∙ ap (λ (s : Sampled). s.ours) c.in_ok-copy.ensures.ok) ∙ i420_count c.args.picture.now ∙ ap (λ (m : ComparedPicture). sample_count m.shape) (sym c.compared_picture-about.ensures)

pub returns-in_err-tell_line : goal.returns-in_err-tell_line
returns-in_err-tell_line g c =
    let all : c.in_ok-read.field-0 ≡ true = search rules in
    let read = subst (λ b. ReadsBeside c.args.picture.now (g.O.Read.remaining c.args.other.now) (g.O.Read.remaining c.read.new.other) c.read.new.self.theirs (Ok b)) all c.in_ok-read.ensures.reads in
    not_told c.args.setting.how c.args.number c.args.picture.now _ _ _ _ c.compared_picture-about.result c.ours-ours.result.now c.theirs-theirs.result.now c.read.new.self.theirs
    c.in_err-tell_line.field-0.0 c.from_residual-in_err-tell_line.result c.args.digests.now c.add_theirs.new.self c.from_residual-in_err-tell_line.ensures.1 c.compared_picture-about.ensures
    (c.ours-ours.ensures ∙ c.read.ensures.ours ∙ ap (λ (s : Sampled). s.ours) c.in_ok-copy.ensures.ok) c.theirs-theirs.ensures read.0 c.in_err-tell_line.ensures

pub returns : goal.returns
returns g c =
    let all : c.in_ok-read.field-0 ≡ true = search rules in
    let read = subst (λ b. ReadsBeside c.args.picture.now (g.O.Read.remaining c.args.other.now) (g.O.Read.remaining c.read.new.other) c.read.new.self.theirs (Ok b)) all c.in_ok-read.ensures.reads in
    looked_at c.args.setting.how c.args.number c.args.picture.now _ _ _ _ c.compared_picture-about.result c.ours-ours.result.now c.theirs-theirs.result.now c.read.new.self.theirs
    c.digest_of.result c.digest_of-2.result c.args.digests.now c.add_ours.new.self c.add_theirs.new.self c.compared_picture-about.ensures
    (c.ours-ours.ensures ∙ c.read.ensures.ours ∙ ap (λ (s : Sampled). s.ours) c.in_ok-copy.ensures.ok) c.theirs-theirs.ensures read.0 read.1
    (sym c.other_size.ensures ∙ is_none c.other_size.result c.in_default.not-Some) c.in_ok-tell_line.ensures c.in_ok-add_ours.ensures.ok
    (c.digest_of.ensures ∙ ap md5 (c.ours.ensures ∙ ap (λ (s : Sampled). s.ours) c.in_ok-copy.ensures.ok)) c.in_ok-add_theirs.ensures.ok (c.digest_of-2.ensures ∙ ap md5 c.theirs-theirs.ensures)
