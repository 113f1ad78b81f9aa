use Rattle.avc_units.proofs.SetUnits.{sym, ap, append-nil, slice_brought, refl}
use Rattle.avc_units.proofs.header_reader.read_rbsp.Goals as goal

pub returns-in-Ok : goal.returns-in-Ok
returns-in-Ok c = record {
  brought = rw c.in-Slice.is (ap slice_brought c.in-Ok.ensures.header);
  sets = rw c.in-Slice.is (sym (append-nil c.args.table.now));
  slice = refl;
  unchanged = tt;
}

pub returns-in-Err : goal.returns-in-Err
returns-in-Err c = record {
  brought = rw c.in-Slice.is (ap slice_brought c.in-Err.ensures.header);
  sets = rw c.in-Slice.is (sym (append-nil c.args.table.now));
  slice = tt;
  unchanged = tt;
}
