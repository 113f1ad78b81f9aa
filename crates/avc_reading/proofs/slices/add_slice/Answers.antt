use Rattle.avc_reading.proofs.Read.{◌<◌, asked_in, refl, rules, string_bytes, slice_told_in}
use Rattle.avc_reading.proofs.slices.add_slice.Goals as goal

pub returns-in_ok-count-in-Ok-clause-told : goal.returns-in_ok-count-in-Ok-clause-told
returns-in_ok-count-in-Ok-clause-told g c = λ p h.
    let fits : c.args.picture.now.size < 4294967296 = search rules in
    slice_told_in (asked_in g.F.MacroblockForm.form c.args.telling.now.selection) p c.args.pps.now c.args.slice.now c.args.picture.now _ c.slice_data-unread.result c.saturating_sub-remaining.result c.in_ok-count-in-Ok.count
    c.from.result (string_bytes c.args.text.now) (string_bytes c.add_macroblocks.new.text) h fits c.from.ensures c.saturating_sub-remaining.ensures c.in-Ok.ensures
    c.slice_data-unread.ensures c.in_ok-count-in-Ok.ensures.few c.in_ok-count-in-Ok.ensures.read refl refl c.one_more-picture.ensures.none c.one_more-picture.ensures.some
    c.saturating_add-picture.ensures
