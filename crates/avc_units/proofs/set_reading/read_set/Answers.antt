use Rattle.avc_units.proofs.SetUnits.{◌∙◌, ap, Some, None, sps, pps, meant, option_map, parameter_set, sps_of, pps_of, OfPicture, OfSequence, no_set, set_read, none_read, refl}
use Rattle.avc_units.proofs.set_reading.read_set.Goals as goal

pub returns-then-unit-ge128 : goal.returns-then-unit-ge128
returns-then-unit-ge128 c = record { set = ap (option_map parameter_set) (no_set c.args.unit.now c.if-unit-ge128.true) }

pub returns-in-Some : goal.returns-in-Some
returns-in-Some c = record {
  set =
      set_read c.args.unit.now sps (Some c.in-Some.rbsp) _ c.if-unit-ge128.false (rw c.in-Sps.is at c.kind_of.ensures) (rw c.in-Some.is at c.in_ok-rbsp-in-Sps.ensures.value)
      (ap (λ s. Some (OfSequence s)) (c.read_sps.ensures ∙ ap sps_of c.as_slice.ensures));
}

pub returns-in-None : goal.returns-in-None
returns-in-None c = record {
  set = set_read c.args.unit.now sps None _ c.if-unit-ge128.false (rw c.in-Sps.is at c.kind_of.ensures) (rw c.in-None.is at c.in_ok-rbsp-in-Sps.ensures.value) refl;
}

pub returns-in-Some-2 : goal.returns-in-Some-2
returns-in-Some-2 c = record {
  set =
      set_read c.args.unit.now pps (Some c.in-Some-2.rbsp) _ c.if-unit-ge128.false (rw c.in-Pps.is at c.kind_of.ensures) (rw c.in-Some-2.is at c.in_ok-rbsp-in-Pps.ensures.value)
      (ap (λ s. Some (OfPicture s)) (c.read_pps.ensures ∙ ap pps_of c.as_slice-in-Some-2.ensures));
}

pub returns-in-None-2 : goal.returns-in-None-2
returns-in-None-2 c = record {
  set = set_read c.args.unit.now pps None _ c.if-unit-ge128.false (rw c.in-Pps.is at c.kind_of.ensures) (rw c.in-None-2.is at c.in_ok-rbsp-in-Pps.ensures.value) refl;
}

pub returns-in_default : goal.returns-in_default
returns-in_default c = record {
  set = set_read c.args.unit.now (meant c.kind_of.result) _ _ c.if-unit-ge128.false c.kind_of.ensures refl (ap (option_map parameter_set) (none_read c.kind_of.result _ c.in_default.not-Sps c.in_default.not-Pps));
}
