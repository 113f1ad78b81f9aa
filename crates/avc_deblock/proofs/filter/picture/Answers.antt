use Rattle.avc_deblock.proofs.FilteredPictures.{◌≡◌, ◌∙◌, ℕ, ◌+◌, ◌-◌, ◌*◌, length, w8, to_z, of_z, arith, refl, sym, ap, subst, range_with_len}
use Rattle.avc_deblock.proofs.FilteredPictures.{flat_map, to_z-of_z, planes_of, HaveInfo, all_filtered, mb_lines, row_lines, one_row_more, part_info}
use Rattle.avc_deblock.proofs.FilteredPictures.{rows_are_all, row_lines_filtered}
use Rattle.avc_deblock.proofs.filter.picture.Goals as goal

pub row-requires : goal.row-requires
row-requires g c =
    let y = c.loop-y.y in (
      omega arith,
      (
        c.row_of-above.ensures.long ∙ sym c.row_of.ensures.long,
        λ column low. c.loop-y.invariant.room column y (c.requires.room column y (omega (arith, low, c.row_of.ensures.long)) c.loop-y-test.true),
      ),
    )

pub loop-y-preserved : goal.loop-y-preserved
loop-y-preserved g c = record {
  room = λ column row h. c.row.ensures.room column row (c.loop-y.invariant.room column row h);
  lines = λ coded motion names width offset have.
      let y = c.loop-y.y in
      let info = c.args.info.now in
      let w = c.args.width in
      one_row_more coded motion y (y + 1) (planes_of c.args.planes.now) (planes_of c.loop-y.planes) (planes_of c.row.new.planes) refl
      (c.loop-y.invariant.lines coded motion names width offset have)
      (c.row.ensures.lines
      ∙ row_lines_filtered coded motion names y (to_z w8 (of_z w8 c.args.chroma_qp_index_offset)) c.row_of-above.result.now c.row_of.result.now (planes_of c.loop-y.planes)
      (record {
        width_is = width ∙ sym c.row_of.ensures.long;
        same = c.row_of-above.ensures.long ∙ sym c.row_of.ensures.long;
        offset_is = offset;
        info_are =
            (part_info coded motion names info c.row_of.result.now w y c.args.height width c.requires.all c.loop-y-test.true c.row_of.ensures.long c.row_of.ensures.value have);
        above_are = (λ some.
            let before : c.max.result - 1 ≡ y - 1 = omega (arith, c.max.ensures, some) in
            subst (λ (r : ℕ). HaveInfo coded motion names (r * coded.width) c.row_of-above.result.now) before
            (part_info coded motion names info c.row_of-above.result.now w (c.max.result - 1) c.args.height width c.requires.all (omega (arith, before, c.loop-y-test.true)) c.row_of-above.ensures.long c.row_of-above.ensures.value have));
      }));
}

pub returns-clause-lines : goal.returns-clause-lines
returns-clause-lines g c coded motion names width all offset have =
    let s = planes_of c.args.planes.now in
    let done : c.loop-y.y ≡ c.args.height = omega arith in
    let many : c.args.height * coded.width ≡ length coded.mbs = ap (λ (n : ℕ). c.args.height * n) width ∙ sym all in
    c.loop-y.invariant.lines coded motion names width (offset ∙ sym (to_z-of_z w8 c.args.chroma_qp_index_offset c.ranges.chroma_qp_index_offset)) have
    ∙ ap (λ (k : ℕ). all_filtered coded motion s (flat_map (row_lines coded) (range_with_len 0 k))) done
    ∙ ap (all_filtered coded motion s) (rows_are_all coded c.args.height ∙ ap (λ (n : ℕ). flat_map (mb_lines coded) (range_with_len 0 n)) many)
