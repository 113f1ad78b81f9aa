use Rattle.std.proofs.Common.{◌%◌, ◌<◌, ap, ◌∙◌, arith}
use Rattle.std.specs.Prelude.{bit_xor}
use Rattle.avc_png.specs.Checksums.{after_byte}
use Rattle.avc_png.proofs.Register.{by_table}
use Rattle.avc_png.proofs.crc.after_byte.Goals as goal

pub returns : goal.returns
returns c =
    let place = bit_xor c.args.before c.from.result % 256 in
    let small : c.from.result < 256 = omega arith in
    let inside : place < 256 = omega arith in
    by_table c.args.before c.from.result _ small (c.requires place inside) ∙ ap (after_byte c.args.before) c.from.ensures
