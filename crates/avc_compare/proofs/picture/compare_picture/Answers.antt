use Rattle.avc_compare.proofs.Comparisons.{◌≡◌, ap, is_none, refl, sym, subst, ◌∙◌, ComparedPicture, Err, Ok, false, length, rules, true, i420, i420_count, sample_count}
use Rattle.avc_compare.proofs.Comparisons.{judged, lacking, not_judged, not_met, not_read, passed, untold, ReadsBeside}
use Rattle.avc_compare.proofs.Meetings.{all_met, completed}
use Rattle.avc_compare.proofs.picture.compare_picture.Goals as goal

pub returns-in_err-met : goal.returns-in_err-met
returns-in_err-met g c =
    not_met c.args.setting.how c.args.number c.args.picture.now _ _ _ c.in_err-met.field-0.0 c.from_residual.result c.from_residual.ensures.1 c.in_err-met.ensures.fault c.in_err-met.ensures.err

pub returns-then-is_passed : goal.returns-then-is_passed
returns-then-is_passed g c =
    passed c.args.setting.how c.args.number c.args.picture.now _ _ _ (i420 c.args.picture.now) refl (c.is_passed.ensures.lineless c.if-is_passed.true)
    (all_met c.args.picture.now c.in_ok-met.met _ _ _ (c.is_passed.ensures.all c.if-is_passed.true) c.in_ok-met.ensures.ok) (sym c.other_size.ensures ∙ is_none c.other_size.result c.in_default.not-Some)

pub returns-in_err-complete : goal.returns-in_err-complete
returns-in_err-complete g c =
    not_read c.args.setting.how c.args.number c.args.picture.now _ _ _ c.complete.new.self.theirs c.in_err-complete.field-0.0 c.from_residual-in_err-complete.result c.from_residual-in_err-complete.ensures.1
    (completed c.args.picture.now c.in_ok-met.met c.meet.new.self.waiting c.complete.new.self.theirs _ _ _ (Err c.in_err-complete.field-0.0) c.in_ok-met.ensures.ok c.in_err-complete.ensures.reads c.in_err-complete.ensures.long)

pub returns-then-not-branch : goal.returns-then-not-branch
returns-then-not-branch g c =
    let less : c.in_ok-complete.field-0 ≡ false = search rules in
    let read = completed c.args.picture.now c.in_ok-met.met c.meet.new.self.waiting c.complete.new.self.theirs _ _ _ (Ok c.in_ok-complete.field-0) c.in_ok-met.ensures.ok c.in_ok-complete.ensures.reads c.in_ok-complete.ensures.long in
    lacking c.args.setting.how c.args.number c.args.picture.now _ _ _ c.complete.new.self.theirs (subst (λ b. ReadsBeside c.args.picture.now (g.O.Read.remaining c.args.other.now) (g.O.Read.remaining c.complete.new.other) c.complete.new.self.theirs (Ok b)) less read)
    (sym c.other_size.ensures ∙ is_none c.other_size.result c.in_default.not-Some)

pub judge-requires-clause-same : goal.judge-requires-clause-same
judge-requires-clause-same g c =
    ap length c.theirs-theirs.ensures ∙ c.in_ok-complete.ensures.long ∙ sym (ap length (c.ours-ours.ensures ∙ c.in_ok-complete.ensures.ours))

pub judge-requires-clause-whole : goal.judge-requires-clause-whole
judge-requires-clause-whole g c =
    ap length (c.ours-ours.ensures ∙ c.in_ok-complete.ensures.ours) ∙ i420_count c.args.picture.now ∙ ap (λ (m : ComparedPicture). sample_count m.shape) (sym c.compared_picture-compared.ensures)

pub returns-in_err-found : goal.returns-in_err-found
returns-in_err-found g c =
    let all : c.in_ok-complete.field-0 ≡ true = search rules in
    let read = subst (λ b. ReadsBeside c.args.picture.now (g.O.Read.remaining c.args.other.now) (g.O.Read.remaining c.complete.new.other) c.complete.new.self.theirs (Ok b)) all
    (completed c.args.picture.now c.in_ok-met.met c.meet.new.self.waiting c.complete.new.self.theirs _ _ _ (Ok c.in_ok-complete.field-0) c.in_ok-met.ensures.ok c.in_ok-complete.ensures.reads c.in_ok-complete.ensures.long) in
    not_judged c.args.setting.how c.args.number c.args.picture.now _ _ _ c.complete.new.self.theirs c.in_err-found.field-0.0 c.from_residual-in_err-found.result c.from_residual-in_err-found.ensures.1 c.in_err-found.ensures.err read.0

pub tell_line-requires-clause-whole : goal.tell_line-requires-clause-whole
tell_line-requires-clause-whole g c =
    ap length (c.ours-ours.ensures ∙ c.in_ok-complete.ensures.ours) ∙ i420_count c.args.picture.now ∙ ap (λ (m : ComparedPicture). sample_count m.shape) (sym c.compared_picture-compared.ensures)

pub returns-in_err-tell_line : goal.returns-in_err-tell_line
returns-in_err-tell_line g c =
    let all : c.in_ok-complete.field-0 ≡ true = search rules in
    let read = subst (λ b. ReadsBeside c.args.picture.now (g.O.Read.remaining c.args.other.now) (g.O.Read.remaining c.complete.new.other) c.complete.new.self.theirs (Ok b)) all
    (completed c.args.picture.now c.in_ok-met.met c.meet.new.self.waiting c.complete.new.self.theirs _ _ _ (Ok c.in_ok-complete.field-0) c.in_ok-met.ensures.ok c.in_ok-complete.ensures.reads c.in_ok-complete.ensures.long) in
    untold c.args.setting.how c.args.number c.args.picture.now _ _ _ _ c.compared_picture-compared.result c.ours-ours.result.now c.theirs-theirs.result.now c.complete.new.self.theirs
    c.in_err-tell_line.field-0.0 c.from_residual-in_err-tell_line.result c.from_residual-in_err-tell_line.ensures.1 c.compared_picture-compared.ensures
    (c.ours-ours.ensures ∙ c.in_ok-complete.ensures.ours) c.theirs-theirs.ensures read.0 c.in_err-tell_line.ensures

pub returns : goal.returns
returns g c =
    let all : c.in_ok-complete.field-0 ≡ true = search rules in
    let read = subst (λ b. ReadsBeside c.args.picture.now (g.O.Read.remaining c.args.other.now) (g.O.Read.remaining c.complete.new.other) c.complete.new.self.theirs (Ok b)) all
    (completed c.args.picture.now c.in_ok-met.met c.meet.new.self.waiting c.complete.new.self.theirs _ _ _ (Ok c.in_ok-complete.field-0) c.in_ok-met.ensures.ok c.in_ok-complete.ensures.reads c.in_ok-complete.ensures.long) in
    judged c.args.setting.how c.args.number c.args.picture.now _ _ _ _ c.compared_picture-compared.result c.ours-ours.result.now c.theirs-theirs.result.now c.complete.new.self.theirs c.in_ok-found.found
    c.compared_picture-compared.ensures (c.ours-ours.ensures ∙ c.in_ok-complete.ensures.ours) c.theirs-theirs.ensures read.0 read.1
    (sym c.other_size.ensures ∙ is_none c.other_size.result c.in_default.not-Some) c.in_ok-found.ensures.ok c.in_ok-tell_line.ensures
