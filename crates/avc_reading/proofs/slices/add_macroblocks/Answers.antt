use Rattle.avc_reading.proofs.Read.{widened, asked_in, form_in, ◌++◌, ◌∙◌, ap, refl, arith, string_bytes, all_read, fault_read, one_read, too_many}
use Rattle.avc_reading.proofs.slices.add_macroblocks.Goals as goal

pub returns-in-Ok-false-clause-read : goal.returns-in-Ok-false-clause-read
returns-in-Ok-false-clause-read g c = λ s before known size stands follows.
    widened (asked_in g.F.MacroblockForm.form c.args.telling.now.selection) c.width-width.result c.args.row.now.width c.width-width.ensures
    (all_read (form_in (asked_in g.F.MacroblockForm.form c.args.telling.now.selection) c.width-width.result) c.args.place c.args.constrained_intra_pred c.args.unread c.macroblocks.unread c.next_macroblock.new.unread c.args.row.now c.macroblocks.row c.macroblocks.turn c.macroblocks.turn
    (string_bytes c.args.text.now) (string_bytes c.macroblocks.text) refl c.macroblocks.invariant.so_far (rw (c.in-Ok-false.field-0-test) at c.in-Ok-false.ensures) s before known stands follows)

pub returns-in-Err-clause-read : goal.returns-in-Err-clause-read
returns-in-Err-clause-read g c = λ s before known size stands follows.
    widened (asked_in g.F.MacroblockForm.form c.args.telling.now.selection) c.width-width.result c.args.row.now.width c.width-width.ensures
    (fault_read (form_in (asked_in g.F.MacroblockForm.form c.args.telling.now.selection) c.width-width.result) c.args.place c.args.constrained_intra_pred c.args.unread c.macroblocks.unread c.next_macroblock.new.unread c.args.row.now c.macroblocks.row c.macroblocks.turn c.macroblocks.turn
    (string_bytes c.args.text.now) (string_bytes c.macroblocks.text) (string_bytes c.add_fault.new.text) c.in-Err.fault refl c.macroblocks.invariant.so_far c.in-Err.ensures
    (c.in_ok-add_fault-in-Err.ensures ∙ ap (λ p. string_bytes c.macroblocks.text ++ (form_in (asked_in g.F.MacroblockForm.form c.args.telling.now.selection) c.width-width.result).of_fault p c.in-Err.fault) c.behind-here.ensures) s before known stands follows)

pub macroblocks-preserved : goal.macroblocks-preserved
macroblocks-preserved g c = record {
  so_far =
      one_read (form_in (asked_in g.F.MacroblockForm.form c.args.telling.now.selection) c.width-width.result) c.args.place c.args.constrained_intra_pred c.args.unread c.macroblocks.unread c.next_macroblock.new.unread c.args.row.now c.macroblocks.row c.put.new.self c.macroblocks.turn
      (string_bytes c.args.text.now) (string_bytes c.macroblocks.text) (string_bytes c.add_macroblock.new.text) c.next_macroblock.new.mb c.derived_next-derived.result c.info_of.result c.macroblocks.invariant.so_far
      (rw (c.in-Ok-true.field-0-test) at c.in-Ok-true.ensures) c.derived_next-derived.ensures c.put.ensures c.info_of.ensures.slice c.info_of.ensures.total_coeffs c.info_of.ensures.modes c.info_of.ensures.motion
      (c.in_ok-add_macroblock-in-Ok-true.ensures ∙ ap (λ p. string_bytes c.macroblocks.text ++ (form_in (asked_in g.F.MacroblockForm.form c.args.telling.now.selection) c.width-width.result).of_macroblock p c.next_macroblock.new.mb c.derived_next-derived.result) c.behind-here.ensures);
}

pub returns-clause-read : goal.returns-clause-read
returns-clause-read g c = λ s before known size stands follows.
    absurd (too_many (form_in (asked_in g.F.MacroblockForm.form c.args.telling.now.selection) c.width-width.result) c.args.place c.args.constrained_intra_pred c.args.unread c.macroblocks.unread c.args.row.now c.macroblocks.row c.macroblocks.turn c.args.remaining
    (string_bytes c.args.text.now) (string_bytes c.macroblocks.text) c.macroblocks.invariant.so_far (omega (arith, c.macroblocks-test.false, c.from-turns.ensures)) s before known size stands follows)
