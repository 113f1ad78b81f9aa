use Rattle.avc_annexb.proofs.Written.{on_ok_weaker, with_bytes, keeps-append}
use Rattle.avc_annexb.proofs.open_unit.OpenUnit.append_after.Goals as goal

pub returns : goal.returns
returns g c = rw (← c.some_zeros.ensures) (on_ok_weaker c.append-3.result
    (λ f. λ unit k. keeps-append g.row.MAX _ unit c.some_zeros.result.now c.args.bytes.now (f (with_bytes unit c.some_zeros.result.now) (c.in_ok-append.ensures unit k)))
    c.append-3.ensures)
