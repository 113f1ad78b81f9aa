use Rattle.avc_picture.proofs.Slices.{◌≡◌, ◌∙◌, ◌/◌, ap, refl, sym, arith, rules, w8, to_z, of_z, planes_of, AreInfoOf, FiltersUpTo, filtered_rows, filtered_is}
use Rattle.avc_picture.proofs.Slices.{late_room, state_of}
use Rattle.avc_picture.specs.Memory.{with_info}
use Rattle.avc_picture.proofs.macroblocks.Macroblocks.deblocked.Goals as goal

pub returns : goal.returns
returns g c =
    let i = c.self.inside in
    let w = c.self.invariant in
    let s = c.filter_last_row.ensures.sized i.canvas.width i.canvas.height w.sized in
    record {
      luma = record { some_column = omega (arith, s.luma_width, w.kept.wide); some_row = omega (arith, s.luma_height, w.kept.high) };
      cb = record { some_column = omega (arith, s.cb_width, w.kept.wide); some_row = omega (arith, s.cb_height, w.kept.high) };
      cr = record { some_column = omega (arith, s.cr_width, w.kept.wide); some_row = omega (arith, s.cr_height, w.kept.high) };
      samples = rw (← c.self.view_is) (λ coded names holds last all.
          let back : to_z w8 (of_z w8 i.canvas.chroma_qp_index_offset) ≡ i.canvas.chroma_qp_index_offset = search rules in
          let width : i.filter_rows.width ≡ coded.width = w.filter_width ∙ holds.width in
          let of : AreInfoOf coded names (to_z w8 (of_z w8 i.canvas.chroma_qp_index_offset)) i.filter_rows =
          record { width_is = sym width; offset_is = sym holds.offset ∙ sym back; info_are = holds.filter } in
          let before = planes_of i.planes in
          let after = planes_of c.filter_last_row.new.planes in
          let lines : FiltersUpTo coded (filtered_rows coded.width i.next) (i.next / coded.width) before after =
          rw (width, w.kept.filter_count) at (c.filter_last_row.ensures.lines coded names of) in
          filtered_is holds w.kept last all before after refl lines);
      memory = rw (← c.self.view_is) (c.keep_info.ensures ∙ ap (λ n. with_info n c.args.memory.now) w.kept.row_width);
    }

pub filter_last_row-requires : goal.filter_last_row-requires
filter_last_row-requires g c =
    let i = c.self.inside in
    let w = c.self.invariant in
    (omega arith, λ column low. late_room (state_of i) w.kept i.filter_rows.width w.filter_width (planes_of i.planes) w.sized column low)

pub invariant_of-keep_info : goal.invariant_of-keep_info
invariant_of-keep_info g c =
    let w = c.self.invariant in
    record { same = w.kept.row_width ∙ sym w.filter_width }
