use Rattle.avc_annexb.proofs.Written.{arith, begun_so_far}
use Rattle.avc_annexb.proofs.scanner.Scanner.units_begun.Goals as goal

pub returns : goal.returns
returns g c = λ bytes h. omega (arith, c.saturating_add.ensures, begun_so_far g.row.MAX c.args.self.now bytes h c.begun_any.result (c.begun_any.ensures h.current h.unit))
