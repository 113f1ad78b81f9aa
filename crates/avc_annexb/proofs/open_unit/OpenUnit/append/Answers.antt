use Rattle.avc_annexb.proofs.Written.{◌∷◌, [], get_or, take, drop, length, ◌-◌, on_ok_weaker, with_bytes, keeps-append, first_and_rest}
use Rattle.avc_annexb.proofs.open_unit.OpenUnit.append.Goals as goal

pub returns : goal.returns
returns g c =
    let bytes = c.args.bytes.now in
    let header = get_or bytes 0 0 ∷ [] in
    let others = take (length bytes - 1) (drop 1 bytes) in
    on_ok_weaker c.extend-2.result (λ extended. λ unit k.
    rw (first_and_rest bytes c.in-len1-up.len_at_least) at (keeps-append g.row.MAX c.extend-2.new.self unit header others (extended (with_bytes unit header) (c.begin.ensures.keeps unit k)))) c.extend-2.ensures
