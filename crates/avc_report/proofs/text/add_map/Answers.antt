use Rattle.std.proofs.Common.{ℕ, List, ◌+◌, ◌*◌}
use Rattle.std.specs.Prelude.{slice_range}
use Rattle.avc_report.specs.Text.{row_line}
use Rattle.avc_report.proofs.Lines.{row_more}
use Rattle.avc_report.proofs.text.add_map.Goals as goal

pub rows-preserved : goal.rows-preserved
rows-preserved c =
    let line : ℕ → List ℕ = λ row. row_line (slice_range c.args.marks.now (row * c.args.columns) (row * c.args.columns + c.args.columns)) in
    record { told = row_more line _ _ _ c.rows.row c.rows.invariant.told c.in_ok-add_row.ensures }
