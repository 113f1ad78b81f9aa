use Rattle.avc_slice.proofs.ReadUnder.{◌/◌, ◌%◌, ◌==◌, ◌∙◌, refl, ap, sym, sets_after, front, back, header_in_rbsp, filled_by, filled_fault}
use Rattle.avc_slice.proofs.reading.put_fields.Goals as goal

pub returns : goal.returns
returns c =
    let read = ap (front (c.args.header / 32 % 4) (c.args.header % 32 == 5)) (sym c.new-reader.ensures.bits) ∙ c.in_ok-front.ensures.0 in
    filled_by c.put_back.result c.put_back.new.place (back (c.args.header / 32 % 4) (c.args.header % 32 == 5) c.in_ok-front.front c.in-Some.pps.now c.in-Some-sps.sps.now) c.read_front.new.reader c.put_back.new.reader
    (header_in_rbsp c.args.header (sets_after c.args.table.now) c.args.rbsp.now) c.put_back.ensures (rw (read, ← c.in-Some.ensures.set, ← c.in-Some-sps.ensures.set) refl)

pub returns-in_default : goal.returns-in_default
returns-in_default c =
    let read = ap (front (c.args.header / 32 % 4) (c.args.header % 32 == 5)) (sym c.new-reader.ensures.bits) ∙ c.in_ok-front.ensures.0 in
    rw (read, ← c.in_default.ensures.set) refl

pub returns-in_default-sps : goal.returns-in_default-sps
returns-in_default-sps c =
    let read = ap (front (c.args.header / 32 % 4) (c.args.header % 32 == 5)) (sym c.new-reader.ensures.bits) ∙ c.in_ok-front.ensures.0 in
    rw (read, ← c.in-Some.ensures.set, ← c.in_default-sps.ensures.set) refl

pub returns-in_err-front : goal.returns-in_err-front
returns-in_err-front c =
    let read = ap (front (c.args.header / 32 % 4) (c.args.header % 32 == 5)) (sym c.new-reader.ensures.bits) ∙ c.in_err-front.ensures in
    filled_fault c.from_residual.result c.args.place.now (header_in_rbsp c.args.header (sets_after c.args.table.now) c.args.rbsp.now) c.in_err-front.field-0.0 c.from_residual.ensures.1 (rw read refl)
