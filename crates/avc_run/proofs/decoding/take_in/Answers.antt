use Rattle.avc_run.proofs.Running.{◌-◌, arith, length, rules, length_left, all_fed, all_left, by_fault, drained_after, first_left, none_fed, one_part, part_broken}
use Rattle.avc_run.proofs.Running.{lent_then, stays_told, still_lent, told_then}
use Rattle.avc_run.proofs.decoding.take_in.Goals as goal

pub units-init : goal.units-init
units-init g c = record {
  within = omega arith;
  handled = none_fed (g.F.PictureFormat.format c.args.format.now) c.events_only_grow.ensures _ _ _ c.args.piece.now c.requires;
  told = stays_told (g.T.Reporter.reported c.args.reporting.now.report.now) _;
  lent = still_lent c.args.reporting.now;
}

pub take_unit-requires : goal.take_unit-requires
take_unit-requires g c =
    drained_after (g.F.PictureFormat.format c.args.format.now) c.events_only_grow.ensures _ c.units.decoder _ _ (g.T.Reporter.reported c.units.reporting.report.now).report _ _ c.requires c.units.invariant.handled

pub units-preserved : goal.units-preserved
units-preserved g c =
    record {
      within = omega (arith, c.in_ok-used.ensures.unit.within, length_left c.args.piece.now c.units.done c.units.invariant.within);
      handled = one_part (g.F.PictureFormat.format c.args.format.now) c.events_only_grow.ensures _ c.units.decoder c.take_unit.new.decoder c.args.piece.now _ c.units.done c.in_ok-used.used _
          (g.T.Reporter.reported c.units.reporting.report.now).report (g.T.Reporter.reported c.take_unit.new.reporting.report.now).report _ _ _ c.requires
          (first_left c.args.piece.now c.units.done c.in_ok-used.used) c.units.invariant.handled c.in_ok-used.ensures.ok;
      told = told_then _ (g.T.Reporter.reported c.units.reporting.report.now) (g.T.Reporter.reported c.take_unit.new.reporting.report.now) _ _ _ c.units.invariant.told c.take_unit.ensures.told;
      lent = lent_then c.args.reporting.now c.units.reporting c.take_unit.new.reporting c.units.invariant.lent c.take_unit.ensures.lent;
    }

pub units-smaller : goal.units-smaller
units-smaller g c =
    let left = length_left c.args.piece.now c.units.done c.units.invariant.within in
    omega (arith, left, c.units-test.true, c.in_ok-used.ensures.unit.some (omega (arith, left, c.units-test.true)))

pub returns-in_err-used-clause-err : goal.returns-in_err-used-clause-err
returns-in_err-used-clause-err g c =
    let fault = c.in_err-used.field-0.0 in
    by_fault c.from_residual.result fault _ c.from_residual.ensures.1
    (part_broken (g.F.PictureFormat.format c.args.format.now) c.events_only_grow.ensures _ c.units.decoder c.args.piece.now _ c.units.done (length c.args.piece.now - c.units.done) _
    (g.T.Reporter.reported c.units.reporting.report.now).report (g.T.Reporter.reported c.take_unit.new.reporting.report.now).report _ _ _ fault c.requires
    (all_left c.args.piece.now c.units.done c.units.invariant.within) c.units.invariant.handled c.in_err-used.ensures.err)

pub returns-in_err-used-clause-told : goal.returns-in_err-used-clause-told
returns-in_err-used-clause-told g c =
    told_then _ (g.T.Reporter.reported c.units.reporting.report.now) (g.T.Reporter.reported c.take_unit.new.reporting.report.now) _ _ _ c.units.invariant.told c.take_unit.ensures.told

pub returns-clause-ok : goal.returns-clause-ok
returns-clause-ok g c =
    all_fed (g.F.PictureFormat.format c.args.format.now) _ c.units.decoder c.args.piece.now c.units.done _ (g.T.Reporter.reported c.units.reporting.report.now).report _ _ (search rules) c.units.invariant.handled
