use Rattle.avc_slice.proofs.ReadUnder.{sets_after, filled-idr, filled-kept}
use Rattle.avc_slice.proofs.reading.put_header.Goals as goal

pub returns-clause-kept : goal.returns-clause-kept
returns-clause-kept c = filled-kept c.args.header (sets_after c.args.table.now) c.args.rbsp.now c.put_fields.new.place c.put_fields.result c.put_fields.ensures

pub returns-clause-idr : goal.returns-clause-idr
returns-clause-idr c = filled-idr c.args.header (sets_after c.args.table.now) c.args.rbsp.now c.put_fields.new.place c.put_fields.result c.put_fields.ensures
