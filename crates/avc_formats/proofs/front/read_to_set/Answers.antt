use Rattle.avc_formats.proofs.Fronts.{◌∙◌, ap, arith, length-take, refl, rules, unwrap_or, NoFront, front_ended, front_found, looking_more, no_memory, err_with, unread_on}
use Rattle.avc_console.specs.declared.fault.RunFault.TheVariants as faults
use Rattle.avc_formats.proofs.front.read_to_set.Goals as goal

pub returns-in_err-find_set-clause-err : goal.returns-in_err-find_set-clause-err
returns-in_err-find_set-clause-err g c =
    err_with c.from_residual-in_err-find_set.result faults.Memory (λ fault. NoFront fault (g.R.Read.remaining c.args.reader.now) (g.R.Read.remaining c.read_once.new.reader))
    c.from_residual-in_err-find_set.ensures.1 (no_memory _ _ _ _ _ _ _ faults.Memory (omega (arith, c.reads-test.true))
    (omega (arith, length-take c.in_ok-len.len c.read_once.new.piece, c.in_ok-len.ensures.within)) c.reads.invariant c.in_ok-len.ensures.bytes refl)

pub returns-then-len-eq0-clause-ok : goal.returns-then-len-eq0-clause-ok
returns-then-len-eq0-clause-ok g c =
    front_ended c.units_stay.ensures _ _ _ _ _ c.in_ok-len.len c.reads.splitter _ _ c.reads.headers _ c.in_ok-find_set.field-0 c.unwrap_or-said.result (omega (arith, c.reads-test.true)) c.reads.invariant
    (search rules) c.in_ok-len.ensures.bytes (search rules) c.in_ok-finish.ensures.ok c.in_ok-find_set.ensures
    (c.unwrap_or-said.ensures ∙ ap (λ p. unwrap_or c.in_ok-find_set.field-0 p) c.none.ensures)

pub returns-in_err-extend_from_slice-clause-err : goal.returns-in_err-extend_from_slice-clause-err
returns-in_err-extend_from_slice-clause-err g c =
    err_with c.from_residual-in_err-extend_from_slice.result faults.Memory (λ fault. NoFront fault (g.R.Read.remaining c.args.reader.now) (g.R.Read.remaining c.read_once.new.reader))
    c.from_residual-in_err-extend_from_slice.ensures.1 (no_memory _ _ _ _ _ _ _ faults.Memory (omega (arith, c.reads-test.true))
    (omega (arith, length-take c.in_ok-len.len c.read_once.new.piece, c.in_ok-len.ensures.within)) c.reads.invariant c.in_ok-len.ensures.bytes refl)

pub returns-in_err-feed-clause-err : goal.returns-in_err-feed-clause-err
returns-in_err-feed-clause-err g c =
    err_with c.from_residual-in_err-feed.result faults.Memory (λ fault. NoFront fault (g.R.Read.remaining c.args.reader.now) (g.R.Read.remaining c.read_once.new.reader))
    c.from_residual-in_err-feed.ensures.1 (no_memory _ _ _ _ _ _ _ faults.Memory (omega (arith, c.reads-test.true))
    (omega (arith, length-take c.in_ok-len.len c.read_once.new.piece, c.in_ok-len.ensures.within)) c.reads.invariant c.in_ok-len.ensures.bytes refl)

pub returns-in_err-said-clause-err : goal.returns-in_err-said-clause-err
returns-in_err-said-clause-err g c =
    err_with c.from_residual-in_err-said.result faults.Memory (λ fault. NoFront fault (g.R.Read.remaining c.args.reader.now) (g.R.Read.remaining c.read_once.new.reader))
    c.from_residual-in_err-said.ensures.1 (no_memory _ _ _ _ _ _ _ faults.Memory (omega (arith, c.reads-test.true))
    (omega (arith, length-take c.in_ok-len.len c.read_once.new.piece, c.in_ok-len.ensures.within)) c.reads.invariant c.in_ok-len.ensures.bytes refl)

pub returns-in-Some-clause-ok : goal.returns-in-Some-clause-ok
returns-in-Some-clause-ok g c =
    front_found c.units_stay.ensures _ _ _ _ _ _ c.reads.splitter _ _ c.reads.headers _ c.in_ok-said.field-0 c.in-Some.said (omega (arith, c.reads-test.true))
    (omega (arith, length-take c.in_ok-len.len c.read_once.new.piece, c.in_ok-len.ensures.within)) c.reads.invariant
    c.in_ok-len.ensures.bytes c.in_ok-extend_from_slice.ensures.items c.in_ok-feed.ensures.ok c.in_ok-said.ensures c.in-Some.is

pub reads-preserved : goal.reads-preserved
reads-preserved g c =
    looking_more c.units_stay.ensures _ _ _ _ _ _ c.reads.splitter _ _ c.reads.headers _ c.in_ok-said.field-0 (omega (arith, c.reads-test.true))
    (omega (arith, length-take c.in_ok-len.len c.read_once.new.piece, c.in_ok-len.ensures.within)) c.reads.invariant
    c.in_ok-len.ensures.bytes c.in_ok-extend_from_slice.ensures.items c.in_ok-feed.ensures.ok c.in_ok-said.ensures c.in_default.is

pub returns-in_err-len-clause-err : goal.returns-in_err-len-clause-err
returns-in_err-len-clause-err g c =
    err_with c.from_residual.result c.in_err-len.field-0.0 (λ fault. NoFront fault (g.R.Read.remaining c.args.reader.now) (g.R.Read.remaining c.read_once.new.reader))
    c.from_residual.ensures.1 (unread_on _ _ _ _ _ _ c.in_err-len.field-0.0 (omega (arith, c.reads-test.true)) c.reads.invariant c.in_err-len.ensures.err c.in_err-len.ensures.fault)

pub returns-in_err-finish-clause-err : goal.returns-in_err-finish-clause-err
returns-in_err-finish-clause-err g c =
    err_with c.from_residual-in_err-finish.result faults.Memory (λ fault. NoFront fault (g.R.Read.remaining c.args.reader.now) (g.R.Read.remaining c.read_once.new.reader))
    c.from_residual-in_err-finish.ensures.1 (no_memory _ _ _ _ _ _ _ faults.Memory (omega (arith, c.reads-test.true))
    (omega (arith, length-take c.in_ok-len.len c.read_once.new.piece, c.in_ok-len.ensures.within)) c.reads.invariant c.in_ok-len.ensures.bytes refl)
