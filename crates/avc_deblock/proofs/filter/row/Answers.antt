use Rattle.avc_deblock.proofs.FilteredPictures.{◌≡◌, ◌∙◌, ℕ, suc, ◌+◌, ℤ, w8, to_z, of_z, to_z-of_z, length, arith, refl, ap, slice_index_or, get_or_default}
use Rattle.avc_deblock.proofs.FilteredPictures.{planes_of, Planes, MbInfo, mb_by_info, row_by_info, no_info}
use Rattle.avc_deblock.proofs.filter.row.Goals as goal

pub macroblock-requires : goal.macroblock-requires
macroblock-requires g c =
    let h = c.requires.room c.loop-column.column c.loop-column-test.true in
    (omega arith, (c.loop-column.invariant.room c.loop-column.column c.args.row h, c.loop-column.invariant.kept))

-- the same info, by any number for the place and any default
same_mb : (offset other : ℤ) (column row : ℕ) (l l' u u' f f' : MbInfo) (s t r : Planes) → other ≡ offset → l ≡ l' → u ≡ u' → f ≡ f' → t ≡ r →
    s ≡ mb_by_info other column row l u f t → s ≡ mb_by_info offset column row l' u' f' r
same_mb offset other column row l l' u u' f f' s t r e el eu ef et is = is ∙ rw (e, el, eu, ef, et)

pub loop-column-preserved : goal.loop-column-preserved
loop-column-preserved g c = record {
  room = λ column row h. c.macroblock.ensures.room column row (c.loop-column.invariant.room column row h);
  kept = c.macroblock.ensures.kept;
  left = ap (λ b. b.now) c.of-mb.ensures ∙ get_or_default c.args.info.now c.loop-column.column _ no_info (omega arith) ∙ ap (λ (k : ℕ). slice_index_or c.args.info.now k no_info) (omega arith);
  lines =
      let n = c.loop-column.column in
      let above = c.args.above.now in
      let info = c.args.info.now in
      let next : suc n ≡ n + 1 = omega arith in
      same_mb (to_z w8 (of_z w8 c.args.chroma_qp_index_offset)) (to_z w8 (of_z w8 c.args.chroma_qp_index_offset)) n c.args.row _ _ _ _ _ _ (planes_of c.macroblock.new.planes) _ _ refl
      c.loop-column.invariant.left
      (get_or_default above n _ no_info (omega (arith, c.requires.same))) (ap (λ b. b.now) c.of-mb.ensures ∙ get_or_default info n _ no_info (omega arith)) c.loop-column.invariant.lines c.macroblock.ensures.lines
      ∙ ap (λ (k : ℕ). row_by_info (to_z w8 (of_z w8 c.args.chroma_qp_index_offset)) c.args.row above info k (planes_of c.args.planes.now)) next;
}

pub returns-clause-lines : goal.returns-clause-lines
returns-clause-lines g c =
    let s : Planes = planes_of c.args.planes.now in
    let above = c.args.above.now in
    let info = c.args.info.now in
    let done : c.loop-column.column ≡ length info = omega arith in
    c.loop-column.invariant.lines
    ∙ ap (λ (n : ℕ). row_by_info (to_z w8 (of_z w8 c.args.chroma_qp_index_offset)) c.args.row above info n s) done
    ∙ ap (λ (z : ℤ). row_by_info z c.args.row above info (length info) s) (to_z-of_z w8 c.args.chroma_qp_index_offset c.ranges.chroma_qp_index_offset)
