use Rattle.avc_units.proofs.SetUnits.{sym, ◌∙◌, ap, ◌++◌, ◌≡◌, sets_after, meant, rbsp_of, partition, None, more_sets, list_of, append-nil}
use Rattle.avc_units.proofs.SetUnits.{unread_set, unread_brought, is_read_by, forbidden_brought, forbidden_sets, read_brought, read_sets, has-body, subst, IfOk, OnErr, IfHeader, too_long, too_long_set, may_want, brought-by, on-err, refl}
use Rattle.avc_units.proofs.header_reader.HeaderReader.read.Goals as goal

pub returns-in-Partition : goal.returns-in-Partition
returns-in-Partition c =
    let u = c.args.unit.now in
    let sets = c.args.self.now in
    let is = rw c.in-Partition.is at c.kind_of.ensures in
    record {
      brought = brought-by (sets_after sets) u partition (rbsp_of u) c.if-unit-ge128.false is refl;
      sets = sym (append-nil sets) ∙ more_sets sets u partition (rbsp_of u) c.if-unit-ge128.false is refl;
      slice = tt;
      unchanged = tt;
      memory = tt;
    }

pub returns-in-Boundary : goal.returns-in-Boundary
returns-in-Boundary c =
    let u = c.args.unit.now in
    let sets = c.args.self.now in
    let k = c.kind_of.result in
    record {
      brought = unread_brought (sets_after sets) u.header k (rbsp_of u) c.in-Boundary.is ∙ brought-by (sets_after sets) u (meant k) (rbsp_of u) c.if-unit-ge128.false c.kind_of.ensures refl;
      sets =
          sym (append-nil sets) ∙ ap (λ s. sets ++ list_of s) (unread_set k (rbsp_of u) c.in-Boundary.is)
          ∙ more_sets sets u (meant k) (rbsp_of u) c.if-unit-ge128.false c.kind_of.ensures refl;
      slice = tt;
      unchanged = tt;
      memory = tt;
    }

pub returns-in-None : goal.returns-in-None
returns-in-None c =
    let u = c.args.unit.now in
    let sets = c.args.self.now in
    let k = c.kind_of.result in
    let read = is_read_by k c.in_default.not-Partition c.in_default.not-Boundary c.in_default.not-Other in
    let has = rw c.in-None.is at c.in_ok-rbsp-in_default.ensures.value in
    record {
      brought = too_long (sets_after sets) u.header (meant k) read ∙ brought-by (sets_after sets) u (meant k) None c.if-unit-ge128.false c.kind_of.ensures has;
      sets = sym (append-nil sets) ∙ ap (λ s. sets ++ list_of s) (too_long_set (meant k)) ∙ more_sets sets u (meant k) None c.if-unit-ge128.false c.kind_of.ensures has;
      slice = tt;
      unchanged = tt;
      memory = tt;
    }

pub returns-in_err-rbsp-in_default-clause-memory : goal.returns-in_err-rbsp-in_default-clause-memory
returns-in_err-rbsp-in_default-clause-memory c =
    let k = c.kind_of.result in
    let read = is_read_by k c.in_default.not-Partition c.in_default.not-Boundary c.in_default.not-Other in
    on-err c.from_residual.result _ (may_want c.args.unit.now (meant k) c.if-unit-ge128.false c.kind_of.ensures read c.in_err-rbsp-in_default.ensures.memory)

pub returns-then-unit-ge128 : goal.returns-then-unit-ge128
returns-then-unit-ge128 c = record {
  brought = forbidden_brought (sets_after c.args.self.now) c.args.unit.now c.if-unit-ge128.true;
  sets = forbidden_sets c.args.self.now c.args.unit.now c.if-unit-ge128.true;
  slice = tt;
  unchanged = tt;
  memory = tt;
}

pub returns-in-Some : goal.returns-in-Some
returns-in-Some c =
    let u = c.args.unit.now in
    let k = c.kind_of.result in
    let r = c.read_rbsp.result in
    let before : c.self.inside.table ≡ c.args.self.now = c.self.view_is in
    let has = rw c.in-Some.is at c.in_ok-rbsp-in_default.ensures.value in
    let read = is_read_by k c.in_default.not-Partition c.in_default.not-Boundary c.in_default.not-Other in
    record {
      brought = read_brought r c.self.inside.table c.args.self.now before u (meant k) c.in-Some.rbsp c.as_slice.result.now c.if-unit-ge128.false c.kind_of.ensures has c.as_slice.ensures c.read_rbsp.ensures.brought;
      sets =
          read_sets r c.self.inside.table c.args.self.now c.read_rbsp.new.table before u (meant k) c.in-Some.rbsp c.as_slice.result.now c.if-unit-ge128.false c.kind_of.ensures has c.as_slice.ensures
          c.read_rbsp.ensures.sets;
      slice = subst (λ sets. IfOk r (λ b. IfHeader b (λ _. c.read_rbsp.new.table ≡ sets))) before c.read_rbsp.ensures.slice;
      unchanged = subst (λ sets. OnErr r (c.read_rbsp.new.table ≡ sets)) before c.read_rbsp.ensures.unchanged;
      memory = on-err r _ (may_want u (meant k) c.if-unit-ge128.false c.kind_of.ensures read (has-body u c.in-Some.rbsp (sym has)));
    }
