use Rattle.avc_make.proofs.Slices.{coded_slice_back, unit_put}
use Rattle.avc_make.proofs.slice_writing.slice_unit.Goals as goal

pub returns : goal.returns
returns c =
    let slice = c.args.slice.now in
    let unit = c.in_ok-unit.unit.items in
    let written =
    unit_put slice c.args.maker.now c.put_header.new.maker c.put_data.new.maker c.header_byte.result unit c.requires.none c.in_ok-put_header.ensures.1
    c.in_ok-put_data.ensures.1 c.header_byte.ensures c.in_ok-unit.ensures in
    record { unit = written; read = coded_slice_back slice unit c.requires.slice written }
