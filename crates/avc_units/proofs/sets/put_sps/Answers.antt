use Rattle.avc_units.proofs.SetUnits.{sym, ◌∙◌, ap, ◌++◌, append-nil, Some, sps_of, set_fault, set_of, list_of, refusal_of, ends_picture, sps, fault_told, has-body, on-err}
use Rattle.avc_units.proofs.sets.put_sps.Goals as goal

pub returns-in_ok-fault-in-Some : goal.returns-in_ok-fault-in-Some
returns-in_ok-fault-in-Some c =
    let has = ap Some c.as_slice.ensures ∙ rw c.in-Some.is at c.in_ok-rbsp.ensures.value in
    record {
      step = fault_told (sps_of c.as_slice.result.now) _ _ _ _ c.ends_picture.ensures c.refusal_of.ensures c.in_ok-fault-in-Some.ensures.fault (ap (set_fault sps) has);
      put = c.in_ok-fault-in-Some.ensures.put ∙ ap (λ read. c.args.table.now ++ list_of (set_of sps read)) has;
      memory = tt;
    }

pub returns-in_err-fault-in-Some-clause-memory : goal.returns-in_err-fault-in-Some-clause-memory
returns-in_err-fault-in-Some-clause-memory c =
    on-err c.from_residual-in_err-fault-in-Some.result _ (has-body c.args.unit.now c.in-Some.rbsp (sym c.in_ok-rbsp.ensures.value ∙ c.in-Some.is))

pub returns-in-None : goal.returns-in-None
returns-in-None c =
    let none = rw c.in-None.is at c.in_ok-rbsp.ensures.value in
    record {
      step = c.ends_picture-in-None.ensures ∙ ap (λ read. ends_picture (refusal_of (set_fault sps read))) none;
      put = sym (append-nil c.args.table.now) ∙ ap (λ read. c.args.table.now ++ list_of (set_of sps read)) none;
      memory = tt;
    }
