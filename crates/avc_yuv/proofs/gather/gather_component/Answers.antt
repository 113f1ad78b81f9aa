use Rattle.avc_yuv.proofs.Windows.{◌+◌, ◌∙◌, arith, refl, rules, next_counted, next_failed, next_gathered, none_yet, rows_gathered, rows_put}
use Rattle.avc_yuv.proofs.gather.gather_component.Goals as goal

pub rows-init : goal.rows-init
rows-init g c = record {
  same_length = refl;
  shown = omega arith;
  rows = none_yet (g.P.PictureRows.picture c.args.picture.now) c.args.component c.window_of-of.result c.args.before c.args.room.now _ c.requires.within;
}

pub gather-requires-clause-counted : goal.gather-requires-clause-counted
gather-requires-clause-counted g c =
    next_counted (g.P.PictureRows.picture c.args.picture.now) c.args.component c.window_of-of.result c.args.before c.rows.number c.shown_row-row.result.now c.args.room.now c.rows.room _ _ c.rows.gathered
    c.window_of-of.ensures.window c.rows.invariant.rows c.requires.within c.requires.counted c.shown_row-row.ensures.length c.rows-test.true

pub returns-in_err-one-clause-rows : goal.returns-in_err-one-clause-rows
returns-in_err-one-clause-rows g c =
    next_failed (g.P.PictureRows.picture c.args.picture.now) c.args.component c.window_of-of.result c.args.before c.rows.number c.shown_row-row.result.now c.args.room.now c.rows.room _ _ _ _ c.rows.gathered
    c.in_err-one.field-0.0 c.from_residual.result c.window_of-of.ensures.window (search rules) c.rows-test.true c.rows.invariant.rows c.shown_row-row.ensures.row c.in_err-one.ensures.rows

pub rows-preserved : goal.rows-preserved
rows-preserved g c =
    let p = g.P.PictureRows.picture c.args.picture.now in
    let of = c.window_of-of.result in
    let first = c.args.room.now in
    record {
      same_length = c.put_rows.ensures.same_length ∙ c.gather.ensures.same_length ∙ c.rows.invariant.same_length;
      shown = omega (arith, c.rows_that_fit-count.ensures.few, c.rows-test.true);
      rows =
          rows_put p c.args.component of c.args.before (c.rows.number + 1) c.rows_that_fit-count.result first c.gather.new.room c.put_rows.new.room _ _ c.in_ok-one.one
          (next_gathered p c.args.component of c.args.before c.rows.number c.shown_row-row.result.now first c.rows.room c.gather.new.room _ _ _
          c.rows.gathered c.in_ok-one.one c.window_of-of.ensures.window c.rows.invariant.rows c.shown_row-row.ensures.row c.in_ok-one.ensures.rows)
          c.rows_that_fit-count.ensures.fit c.put_rows.ensures.same_length c.put_rows.ensures.rows;
    }

pub returns-clause-rows : goal.returns-clause-rows
returns-clause-rows g c =
    rows_gathered (g.P.PictureRows.picture c.args.picture.now) c.args.component c.window_of-of.result c.args.before c.rows.number c.args.room.now c.rows.room _ _ c.rows.gathered
    c.window_of-of.ensures.window (omega (arith, c.rows-test.false, c.rows.invariant.shown)) c.rows.invariant.rows
