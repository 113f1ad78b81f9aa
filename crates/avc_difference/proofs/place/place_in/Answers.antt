use Rattle.avc_difference.proofs.Counting.{row_low}
use Rattle.avc_difference.proofs.place.place_in.Goals as goal

pub place_at-requires-clause-low : goal.place_at-requires-clause-low
place_at-requires-clause-low c = row_low c.args.number c.shown_rows-rows.result c.shown_columns-columns.result _ _ c.shown_rows-rows.ensures.is c.shown_columns-columns.ensures.is c.requires c.shown_rows-rows.ensures.low
