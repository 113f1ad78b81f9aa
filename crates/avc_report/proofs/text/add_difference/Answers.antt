use Rattle.std.proofs.Common.{◌++◌, ◌∙◌, ap, append_assoc, string_bytes}
use Rattle.avc_difference.specs.Places.{macroblock_columns, macroblock_rows, macroblocks}
use Rattle.avc_report.specs.Text.{counts_line, difference_text, first_line, map_lines}
use Rattle.avc_report.proofs.Lines.{joined_three}
use Rattle.avc_report.proofs.text.add_difference.Goals as goal

pub returns : goal.returns
returns c =
    let d = c.args.difference.now in
    let s = c.args.shape in
    joined_three (difference_text c.args.number s d) _ _ _ _ (counts_line c.args.number d (macroblocks s)) (first_line d) (map_lines (macroblock_columns s) (macroblock_rows s) d.marks.items)
    (c.in_ok-add_counts.ensures ∙ ap (λ n. string_bytes c.args.text.now ++ counts_line c.args.number d n) c.macroblocks.ensures) c.in_ok-add_first.ensures
    (c.in_ok-add_map.ensures ∙ ap (λ l. string_bytes c.add_first.new.text ++ map_lines c.macroblock_columns-columns.result c.macroblock_rows-rows.result l) c.deref.ensures.value
    ∙ ap (λ n. string_bytes c.add_first.new.text ++ map_lines n c.macroblock_rows-rows.result d.marks.items) c.macroblock_columns-columns.ensures.is
    ∙ ap (λ n. string_bytes c.add_first.new.text ++ map_lines (macroblock_columns s) n d.marks.items) c.macroblock_rows-rows.ensures.is)
    (append_assoc (counts_line c.args.number d (macroblocks s)) (first_line d) (map_lines (macroblock_columns s) (macroblock_rows s) d.marks.items))
