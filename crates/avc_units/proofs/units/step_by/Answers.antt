use Rattle.avc_units.proofs.SetUnits.{sym, ap, subst, meant, step_by, IfOk, ◌∙◌, ◌≡◌, refl, append-nil, false, Err, open_picture_in, sets_after, IsSliceUnder, set_step, slice_or_start-if, partition_step, always_brought, on-ok, on-err}
use Rattle.avc_types.specs.declared.fault.Fault.TheVariants as faults
use Rattle.avc_units.proofs.units.step_by.Goals as goal

pub returns-in-Sps-clause-slice : goal.returns-in-Sps-clause-slice
returns-in-Sps-clause-slice c = set_step c.put_sps.result _ _ c.put_sps.ensures.step

pub returns-in-Sps-clause-sets : goal.returns-in-Sps-clause-sets
returns-in-Sps-clause-sets c = set_step c.put_sps.result _ _ c.put_sps.ensures.step

pub returns-in-Pps-clause-slice : goal.returns-in-Pps-clause-slice
returns-in-Pps-clause-slice c = set_step c.put_pps.result _ _ c.put_pps.ensures.step

pub returns-in-Pps-clause-sets : goal.returns-in-Pps-clause-sets
returns-in-Pps-clause-sets c = set_step c.put_pps.result _ _ c.put_pps.ensures.step

pub returns-in-Partition : goal.returns-in-Partition
returns-in-Partition c =
    let table = c.args.table.now in
    let context = c.args.context in
    record {
      step =
          c.slice_or_start.ensures ∙ partition_step context.running (open_picture_in context) (sets_after table) c.args.unit.now
          ∙ ap (λ k. step_by context (sets_after table) c.args.unit.now (meant k)) (sym c.in-Partition.is);
      put = rw c.in-Partition.is (sym (append-nil table));
      slice = slice_or_start-if (IsSliceUnder (sets_after table)) c.slice_or_start.result context.running (open_picture_in context) false (Err faults.DataPartition) c.slice_or_start.ensures tt;
      sets = slice_or_start-if (λ _. table ≡ table) c.slice_or_start.result context.running (open_picture_in context) false (Err faults.DataPartition) c.slice_or_start.ensures tt;
      body = tt;
      read = tt;
    }

pub returns-in-Slice : goal.returns-in-Slice
returns-in-Slice c =
    let r = c.slice_unit.result in
    record {
      step = subst (λ k. IfOk r (λ s. s ≡ step_by c.args.context (sets_after c.args.table.now) c.args.unit.now (meant k))) (sym c.in-Slice.is) c.slice_unit.ensures.step;
      put = on-ok r _ (rw c.in-Slice.is (sym (append-nil c.args.table.now)));
      slice = c.slice_unit.ensures.slice;
      sets = always_brought r (c.args.table.now ≡ c.args.table.now) refl;
      body = c.slice_unit.ensures.memory;
      read = on-err r _ (rw c.in-Slice.is refl);
    }
