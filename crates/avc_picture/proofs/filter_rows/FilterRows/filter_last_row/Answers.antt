use Rattle.avc_picture.proofs.Slices.{◌≡◌, ◌∙◌, ◌-◌, ◌/◌, length, ap, sym, arith, rules, w8, to_z, of_z, planes_of, filtered_rows, rows_filtered}
use Rattle.avc_picture.proofs.Slices.{row_filtered, row_sized, row_of_last}
use Rattle.avc_picture.proofs.filter_rows.FilterRows.filter_last_row.Goals as goal

pub returns-then-self-gt0-clause-sized : goal.returns-then-self-gt0-clause-sized
returns-then-self-gt0-clause-sized g c = λ w h sized.
    let s = c.self.inside in
    let k = c.self.invariant.0 in
    let last : length c.deref-then-self-gt0.result.now ≡ s.width = ap length c.deref-then-self-gt0.ensures.value ∙ k.last_long in
    let room = rw (← c.self.view_is, row_of_last k) at c.requires.room in
    rw c.filter_row.ensures.lines (row_sized (to_z w8 (of_z w8 c.args.chroma_qp_index_offset)) (s.row - 1) c.deref.result.now c.deref-then-self-gt0.result.now (planes_of c.args.planes.now)
    (λ column low. room column (omega (arith, low, last))) w h sized)

pub returns-then-self-gt0-clause-lines : goal.returns-then-self-gt0-clause-lines
returns-then-self-gt0-clause-lines g c = rw (← c.self.view_is) (λ coded names of.
    let back : to_z w8 (of_z w8 c.args.chroma_qp_index_offset) ≡ c.args.chroma_qp_index_offset = search rules in
    let lines = rw (c.deref.ensures.value, c.deref-then-self-gt0.ensures.value) at c.filter_row.ensures.lines in
    row_filtered c.self.invariant.0 coded names (to_z w8 (of_z w8 c.args.chroma_qp_index_offset)) (rw back of) (omega (arith, c.if-self-gt0.true))
    (planes_of c.args.planes.now) (planes_of c.filter_row.new.planes) lines)

pub filter_row-requires : goal.filter_row-requires
filter_row-requires g c =
    let k = c.self.invariant.0 in
    let still = c.self.invariant.1 in
    let above : length c.deref.result.now ≡ c.self.inside.width = ap length c.deref.ensures.value ∙ k.above_long in
    let last : length c.deref-then-self-gt0.result.now ≡ c.self.inside.width = ap length c.deref-then-self-gt0.ensures.value ∙ k.last_long in
    let room = rw (← c.self.view_is, row_of_last k) at c.requires.room in (
      omega arith,
      (
        above ∙ sym last,
        (
          λ column low. room column (omega (arith, low, last)),
          λ alike.
              let frame = c.stand_still_alike.ensures alike in (
                frame.0,
                λ n other low. rw c.deref.ensures.value (still.above_is frame.0 frame.1 n other (omega (arith, low, above))),
                λ n other low. rw c.deref-then-self-gt0.ensures.value (still.last_is frame.0 frame.2 n other (omega (arith, low, last))),
              ),
        ),
      ),
    )

pub returns-else-self-gt0-clause-lines : goal.returns-else-self-gt0-clause-lines
returns-else-self-gt0-clause-lines g c = rw (← c.self.view_is) (λ coded names of s old.
    let i = c.self.inside in
    let none : filtered_rows i.width (length i.info.items) ≡ length i.info.items / i.width = omega (arith, row_of_last c.self.invariant.0, c.if-self-gt0.false) in
    old ∙ ap (λ n. rows_filtered coded n s) none)
