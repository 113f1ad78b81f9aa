use Rattle.avc_vlc.proofs.Entries.{◌≡◌, ◌<◌, length, get_or, take, Some, ap, ◌∙◌, sym, arith, list_any, take_all, holds, word_at, word_found, word_none}
use Rattle.avc_vlc.proofs.Entries.{all_at, leb-true, list_all, list_any_more, nat_le, or_from}
use Rattle.avc_vlc.proofs.codeword.Codeword.of.Goals as goal

pub returns-in-Some : goal.returns-in-Some
returns-in-Some g c = λ table written.
    let row = c.rows.row in
    let places = c.index-rows-row.result in
    let column = c.in-Some.column in
    let e = c.index-places-column.result in
    let within : row < length c.args.rows.now = omega arith in
    let line : places ≡ get_or c.args.rows.now row places = c.index-rows-row.is in
    let there : column < length places = omega (arith, c.in-Some.ensures.0) in
    let same = g.V.Coded.same in
    ap Some c.at.ensures
    ∙ ap (λ l. Some (word_at c.args.tail row column (get_or l column e).length)) line
    ∙ word_found same c.args.value table c.args.tail c.args.rows.now row column places e g.met.V.Coded.same_is written within (rw (← line) there) (rw (← line) (c.in-Some.ensures.1 e))

pub returns : goal.returns
returns g c = λ table written.
    let all : take c.rows.row c.args.rows.now ≡ c.args.rows.now = take_all c.rows.row c.args.rows.now (omega arith) in
    sym (word_none g.V.Coded.same c.args.value (λ v. list_any (λ row. list_any (holds g.V.Coded.same v) row) c.args.rows.now) table g.met.V.Coded.same_is written.whole
    (sym (ap (λ l. list_any (λ row. list_any (holds g.V.Coded.same c.args.value) row) l) all) ∙ c.rows.invariant))

pub at-requires-clause-short : goal.at-requires-clause-short
at-requires-clause-short g c =
    let places = c.index-rows-row.result in
    let e = c.index-places-column.result in
    let all =
    ap (list_all (λ e. nat_le e.length 16)) c.index-rows-row.is
    ∙ all_at (list_all (λ e. nat_le e.length 16)) c.args.rows.now c.rows.row places c.requires.short (omega arith) in
    leb-true (get_or places c.in-Some.column e).length 16 (all_at (λ e. nat_le e.length 16) places c.in-Some.column e all (omega (arith, c.in-Some.ensures.0)))

pub rows-preserved : goal.rows-preserved
rows-preserved g c = list_any_more (list_any (holds g.V.Coded.same c.args.value)) c.args.rows.now c.rows.row c.index-rows-row.result (omega arith)
    ∙ or_from _ _ c.rows.invariant (ap (list_any (holds g.V.Coded.same c.args.value)) (sym c.index-rows-row.is) ∙ c.in_default.ensures)
