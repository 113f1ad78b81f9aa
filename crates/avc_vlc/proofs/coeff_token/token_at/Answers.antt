use Rattle.avc_vlc.proofs.Entries.{◌≡◌, ◌<◌, ◌-◌, length, get_or, [], arith, nat_le, list_all, all_at, leb-true, subst, sym, indexed_place, IsPlaceOf}
use Rattle.avc_vlc.proofs.coeff_token.token_at.Goals as goal

pub returns-clause-decides : goal.returns-clause-decides
returns-clause-decides c = λ table ahead is there.
    let within : c.place-row.result.0 < length c.args.rows.now = omega arith in
    let long : length (get_or c.args.rows.now c.place-row.result.0 []) ≡ 8 = c.told-rows c.place-row.result.0 within in
    indexed_place table 3 c.args.rows.now c.place-row.result.0 c.place-row.result.1 ahead [] _ is within c.place-row.ensures.column (omega arith)
    (subst (λ n. IsPlaceOf ahead (n - 1) 3 c.place-row.result.0 c.place-row.result.1) (sym c.requires) (c.place-row.ensures.agrees ahead there))

pub returns-clause-short : goal.returns-clause-short
returns-clause-short c = λ most all.
    let row = c.place-row.result.0 in
    let within : row < length c.args.rows.now = omega arith in
    let long : length (get_or c.args.rows.now row []) ≡ 8 = c.told-rows row within in
    let there : c.place-row.result.1 < length (get_or c.args.rows.now row []) = omega (arith, long, c.place-row.ensures.column) in
    leb-true _ most (all_at (λ entry. nat_le entry.length most) (get_or c.args.rows.now row []) c.place-row.result.1 _ (all_at (λ r. list_all (λ entry. nat_le entry.length most) r) c.args.rows.now row [] all within) there)
