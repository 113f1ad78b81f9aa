use Rattle.avc_reading.proofs.Read.{◌≡◌, None, Some, Option, ap, sym, ◌∙◌, sets_after, sps_in_force, Pps, Sps, some_is, within_named}
use Rattle.avc_reading.proofs.units.sets_of.Goals as goal

pub unreachable-requires-in_default-sps : goal.unreachable-requires-in_default-sps
unreachable-requires-in_default-sps c =
    let p : c.requires.pps ≡ c.in-Some.pps.now = some_is _ _ (sym c.requires.pps_is ∙ sym c.in-Some.ensures.set) in
    let none : ◌≡◌ {A = Option Sps} None (sps_in_force c.args.table.now
    c.in-Some.pps.now.seq_parameter_set_id) = rw c.in_default-sps.is at c.sps.ensures.set in
    let wrong : ◌≡◌ {A = Option Sps} None (Some c.requires.sps) =
    none ∙ ap (λ (q : Pps). sps_in_force c.args.table.now q.seq_parameter_set_id) (sym p) ∙ c.requires.sps_is in
    cc

pub returns-clause-within : goal.returns-clause-within
returns-clause-within c =
    within_named (sets_after c.args.table.now) c.args.slice.now c.in-Some.pps.now c.in-Some-sps.sps.now c.requires
    (sym c.in-Some.ensures.set) (sym c.in-Some-sps.ensures.set)
