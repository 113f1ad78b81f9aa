use Rattle.avc_units.proofs.SetUnits.{◌∙◌, ap, with_header, slice_read}
use Rattle.avc_units.proofs.slices.read_slice.Goals as goal

pub returns-in-Ok : goal.returns-in-Ok
returns-in-Ok c =
    let header = rw c.in_ok-slice.ensures.rbsp at c.in-Ok.ensures.header in
    record {
      slice =
          slice_read c.args.unit.now c.args.rbsp c.read_header.new.self _ (c.in-Ok.ensures.unit ∙ c.in_ok-slice.ensures.unit) (c.in-Ok.ensures.rbsp ∙ c.in_ok-slice.ensures.rbsp) header;
      kept = rw c.in-Ok.ensures.rbsp c.in-Ok.ensures.kept;
    }

pub returns-in-Err : goal.returns-in-Err
returns-in-Err c = record {
  slice = ap (with_header c.args.unit.now c.args.rbsp) (rw c.in_ok-slice.ensures.rbsp at c.in-Err.ensures.header);
  kept = tt;
}
