use Rattle.avc_console.proofs.Texts.{subst, refl, Tallied, TellsOn, reported_by, tally_told}
use Rattle.avc_console.proofs.tally.TallyReporter.refuse.Goals as goal

pub returns-clause-told : goal.returns-clause-told
returns-clause-told g c =
    let was : Tallied = record { pictures = c.self.inside.counts.pictures; refusals = c.self.inside.refused.items; explained = c.self.inside.is_explained; told = c.self.inside.is_told } in
    let is : Tallied = record { pictures = c.self.inside.counts.pictures; refusals = c.with-self-inside.result.items; explained = c.self.inside.is_explained; told = c.tell_refusal-self-inside.result } in
    subst (λ (t : Tallied). TellsOn (reported_by t) (reported_by is) (g.E.Write.contents c.args.errors.now) (g.E.Write.contents c.tell_refusal-self-inside.new.errors)) c.self.view_is
    (tally_told was is (c.args.unit, c.args.fault) _ _ refl c.with-self-inside.ensures c.tell_refusal-self-inside.ensures)
