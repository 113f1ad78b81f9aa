use Rattle.avc_inter.proofs.SixRows.{◌+◌, ◌*◌, arith, refl, strided_to, rows_done, five_words}
use Rattle.avc_inter.proofs.BothRows.{line_more, between_rows}
use Rattle.avc_inter.proofs.eighths.lay_rows.Goals as goal

pub along_row-row-requires-clause-cb : goal.along_row-row-requires-clause-cb
along_row-row-requires-clause-cb g c = c.requires.cb 0 (omega arith)

pub along_row-row-requires-clause-cr : goal.along_row-row-requires-clause-cr
along_row-row-requires-clause-cr g c = c.requires.cr 0 (omega arith)

pub along_row-middle-requires-clause-cb : goal.along_row-middle-requires-clause-cb
along_row-middle-requires-clause-cb g c = c.requires.cb (2 * c.loop-y.y + 1) (omega arith)

pub along_row-middle-requires-clause-cr : goal.along_row-middle-requires-clause-cr
along_row-middle-requires-clause-cr g c = c.requires.cr (2 * c.loop-y.y + 1) (omega arith)

pub along_row-last-requires-clause-cb : goal.along_row-last-requires-clause-cb
along_row-last-requires-clause-cb g c = c.requires.cb (2 * (c.loop-y.y + 1)) (omega arith)

pub along_row-last-requires-clause-cr : goal.along_row-last-requires-clause-cr
along_row-last-requires-clause-cr g c = c.requires.cr (2 * (c.loop-y.y + 1)) (omega arith)

pub lay_line-requires : goal.lay_line-requires
lay_line-requires g c =
    let r = c.requires in
    let y = c.loop-y.y in
    let set = c.loop-y.invariant in (
      five_words,
      (
        set.along.small,
        (
          c.along_row-middle.ensures.small,
          (
            omega (arith, r.room_cb (2 * y) (omega arith), set.cb.long),
            omega (arith, r.room_cr (2 * y) (omega arith), set.cr.long),
          ),
        ),
      ),
    )

pub lay_line-requires-in-loop-y : goal.lay_line-requires-in-loop-y
lay_line-requires-in-loop-y g c =
    let r = c.requires in
    let y = c.loop-y.y in
    let set = c.loop-y.invariant in
    let put = c.lay_line.ensures in (
      five_words,
      (
        c.along_row-middle.ensures.small,
        (
          c.along_row-last.ensures.small,
          (
            omega (arith, r.room_cb (2 * y + 1) (omega arith), put.cb.long, set.cb.long),
            omega (arith, r.room_cr (2 * y + 1) (omega arith), put.cr.long, set.cr.long),
          ),
        ),
      ),
    )

pub loop-y-preserved : goal.loop-y-preserved
loop-y-preserved g c =
    let a = c.args in
    let y = c.loop-y.y in
    let now = c.loop-y.invariant in
    let middle = c.along_row-middle.ensures in
    let last = c.along_row-last.ensures in
    record {
      cb = strided_to (omega arith) (line_more (2 * y + 1) a.to.apart_cb
          (line_more (2 * y) a.to.apart_cb now.cb c.lay_line.ensures.cb (λ x column.
          between_rows a.beyond.right a.beyond.down a.from.cb.stride a.from.cb.first (2 * y) (2 * y + 1) x a.cb.now _ _ refl (now.along.first x (omega (arith, a.to.columns))) (middle.first x (omega (arith, a.to.columns)))))
          c.lay_line-in-loop-y.ensures.cb (λ x column.
          between_rows a.beyond.right a.beyond.down a.from.cb.stride a.from.cb.first (2 * y + 1) (2 * (y + 1)) x a.cb.now _ _ (omega arith) (middle.first x (omega (arith, a.to.columns))) (last.first x (omega (arith, a.to.columns)))));
      cr = strided_to (omega arith) (line_more (2 * y + 1) a.to.apart_cr
          (line_more (2 * y) a.to.apart_cr now.cr c.lay_line.ensures.cr (λ x column.
          between_rows a.beyond.right a.beyond.down a.from.cr.stride a.from.cr.first (2 * y) (2 * y + 1) x a.cr.now _ _ refl (now.along.second x (omega (arith, a.to.columns))) (middle.second x (omega (arith, a.to.columns)))))
          c.lay_line-in-loop-y.ensures.cr (λ x column.
          between_rows a.beyond.right a.beyond.down a.from.cr.stride a.from.cr.first (2 * y + 1) (2 * (y + 1)) x a.cr.now _ _ (omega arith) (middle.second x (omega (arith, a.to.columns))) (last.second x (omega (arith, a.to.columns)))));
      along = last;
    }

pub returns-clause-cb : goal.returns-clause-cb
returns-clause-cb g c = rows_done 2 _ _ c.loop-y.invariant.cb c.loop-y-test.false c.loop-y.auto.y-end

pub returns-clause-cr : goal.returns-clause-cr
returns-clause-cr g c = rows_done 2 _ _ c.loop-y.invariant.cr c.loop-y-test.false c.loop-y.auto.y-end
