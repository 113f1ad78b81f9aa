use Rattle.avc_make.proofs.Slices.{◌∷◌, [], ◌++◌, ap, arith, get_or, length-set, map, map-append, sym, take, take_more, take_more_set, total_coeff, ◌∙◌}
use Rattle.avc_make.proofs.slice_context.total_coeffs.Goals as goal

pub blocks-2-preserved : goal.blocks-2-preserved
blocks-2-preserved g c =
    let k = c.blocks-2.k in
    let n = c.total_coeff.result in
    let d = c.index-blocks-k.result in
    let blocks = c.args.blocks.now in
    let taken = take_more blocks k d (omega (arith, c.blocks-2-test.true, c.told-blocks)) in
    let front = map total_coeff (take k blocks) in
    record {
      long = length-set c.blocks-2.counts k n ∙ c.blocks-2.invariant.long;
      counts = take_more_set c.blocks-2.counts k n (omega (arith, c.blocks-2-test.true, c.blocks-2.invariant.long)) ∙ ap (λ l. l ++ n ∷ []) c.blocks-2.invariant.counts
          ∙ ap (λ x. front ++ x ∷ []) c.total_coeff.ensures ∙ sym (ap (map total_coeff) taken ∙ map-append total_coeff (take k blocks) (get_or blocks k d ∷ []));
    }
