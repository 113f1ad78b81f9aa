use Rattle.avc_cavlc.proofs.Levels.{arith, ◌==◌, ◌/◌, ◌%◌, ones_put, one_back}
use Rattle.avc_cavlc.proofs.level.put_ones.Goals as goal

pub returns : goal.returns
returns c = λ n few.
    let signs = c.args.signs in
    rw (one_back c.one_at.result (signs / 4 % 2 == 1) c.one_at.ensures, one_back c.one_at-2.result (signs / 2 % 2 == 1) c.one_at-2.ensures, one_back c.one_at-3.result (signs / 1 % 2 == 1) c.one_at-3.ensures)
    (ones_put n c.args.values.now _ _ _ few (omega (arith, c.told-values)))
