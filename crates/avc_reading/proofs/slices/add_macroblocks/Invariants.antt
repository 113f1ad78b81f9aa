use Rattle.avc_reading.proofs.Read.{asked_in, form_in, string_bytes, ReadsSoFar}
use Rattle.avc_reading.proofs.slices.add_macroblocks.Given as goal

abbrev pub invariant-macroblocks : goal.invariant-macroblocks
invariant-macroblocks g l = record {
  so_far : ReadsSoFar (form_in (asked_in g.F.MacroblockForm.form l.telling.selection) l.width) l.place l.constrained_intra_pred l.fn.unread l.unread l.fn.row l.row l.turn (string_bytes l.fn.text) (string_bytes l.text);
}
