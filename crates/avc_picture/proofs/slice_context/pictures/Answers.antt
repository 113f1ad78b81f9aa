use Rattle.avc_picture.proofs.Slices.{◌∙◌, None, arith, length-set, slice_index_or, entry-more, IsPictureAt}
use Rattle.avc_picture.proofs.slice_context.pictures.Goals as goal

pub loop-r-preserved : goal.loop-r-preserved
loop-r-preserved g c =
    let l = c.loop-r in
    record {
      long = length-set l.pictures l.r c.picture_at.result ∙ l.invariant.long;
      done = entry-more (λ r picture. IsPictureAt c.args.frames.now c.args.header.now r (slice_index_or c.args.places.now r None) picture) l.pictures l.r c.picture_at.result None
          (omega (arith, c.loop-r-test.true, l.invariant.long)) l.invariant.done c.picture_at.ensures;
    }
