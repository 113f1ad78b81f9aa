use Rattle.avc_tools.proofs.Taking.{◌≡◌, ◌+◌, ◌-◌, ◌<◌, ◌∷◌, [], ◌++◌, ap, sym, ◌∙◌, arith, length, take, take_more, through_slices, through_other}
use Rattle.avc_tools.proofs.piece.count_through_slices.Goals as goal

pub slices-preserved : goal.slices-preserved
slices-preserved c =
    let units = c.args.units.now in
    let before : c.slices.count - 1 + 1 ≡ c.slices.count = omega (arith, c.slices-test.true) in
    let low : c.slices.count - 1 < length units = omega (arith, c.slices-test.true, c.slices.invariant.within) in
    let front = take_more units (c.slices.count - 1) c.index-units-count.result low ∙ ap (λ u. take (c.slices.count - 1) units ++ u ∷ []) (sym c.index-units-count.is) in
    record {
      within = omega (arith, low);
      same =
          sym (through_other (take (c.slices.count - 1) units) c.index-units-count.result (sym c.is_slice.ensures ∙ c.if-is_slice.false))
          ∙ ap through_slices (sym front)
          ∙ ap (λ n. through_slices (take n units)) before
          ∙ c.slices.invariant.same;
    }
