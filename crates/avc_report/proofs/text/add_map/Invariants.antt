use Rattle.std.proofs.Common.{◌≡◌, ◌++◌, ◌+◌, ◌*◌, string_bytes}
use Rattle.std.specs.List.{flat_map, range_with_len}
use Rattle.std.specs.Prelude.{slice_range}
use Rattle.avc_report.specs.Text.{row_line}
use Rattle.avc_report.proofs.text.add_map.Given as goal

abbrev pub invariant-rows : goal.invariant-rows
invariant-rows l = record {
  told : string_bytes l.text ≡ string_bytes l.initial.text ++ flat_map (λ row. row_line (slice_range l.marks (row * l.columns) (row * l.columns + l.columns))) (range_with_len 0 l.row);
}
