use Rattle.avc_cavlc.proofs.Levels.{◌≡◌, arith, ints, ap, ◌∙◌, sym, to_z, of_z, w8, coeff_token, passed, reader_bits, reads_behind, token_fault}
use Rattle.avc_types.specs.declared.fault.Fault.TheVariants as faults
use Rattle.avc_cavlc.proofs.block.read_by_window.Goals as goal

pub returns-in-Some-clause-read : goal.returns-in-Some-clause-read
returns-in-Some-clause-read g c =
    let b = reader_bits c.args.reader.now in
    let nc : to_z w8 (of_z w8 c.args.nc) ≡ c.args.nc = omega (arith, ints) in
    reads_behind c.read_into.result c.read_into.new.levels g.row.MAXN c.args.nc c.in-Some.code.token (passed b c.in-Some.code.length) c.args.reader.now c.read_into.new.reader
    (ap (λ n. coeff_token n b) (sym nc) ∙ c.in-Some.ensures.read b c.window-window.ensures) c.read_into.ensures.read c.read_into.ensures.bytes

pub returns-in-None-clause-read : goal.returns-in-None-clause-read
returns-in-None-clause-read g c =
    let b = reader_bits c.args.reader.now in
    let nc : to_z w8 (of_z w8 c.args.nc) ≡ c.args.nc = omega (arith, ints) in
    token_fault g.row.MAXN c.args.nc faults.BadCode b (ap (λ n. coeff_token n b) (sym nc) ∙ c.in-None.ensures.read b c.window-window.ensures)
