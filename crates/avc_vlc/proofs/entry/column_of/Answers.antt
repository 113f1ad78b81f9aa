use Rattle.avc_vlc.proofs.Entries.{arith, ap, sym, ◌∙◌, list_any, take_all, holds, or_from, get_or_read, list_any_more}
use Rattle.avc_vlc.proofs.entry.column_of.Goals as goal

pub returns-then-holds : goal.returns-then-holds
returns-then-holds g c = (
  c.columns-test.true,
  λ e. let read = get_or_read c.args.row.now c.columns.column c.index-row-column.result (omega arith) c.index-row-column.is e in
      ap (holds g.V.Coded.same c.args.value) (sym read ∙ c.index-row-column.is) ∙ sym c.holds.ensures ∙ c.if-holds.true,
)

pub columns-preserved : goal.columns-preserved
columns-preserved g c = list_any_more (holds g.V.Coded.same c.args.value) c.args.row.now c.columns.column c.index-row-column.result (omega arith)
    ∙ or_from _ _ c.columns.invariant (sym c.holds.ensures ∙ c.if-holds.false)

pub returns : goal.returns
returns g c = sym (ap (list_any (holds g.V.Coded.same c.args.value)) (take_all c.columns.column c.args.row.now (omega arith))) ∙ c.columns.invariant
