use Rattle.avc_transform.proofs.Residuals.{ℤ, ◌^◌, ◌>>ℤ◌, ◌∙◌, ap, arith, w32, to_z-of_z, IsBelow-more, cast_small, small_cast, dc_product, chroma_scaled}
use Rattle.avc_transform.proofs.dc.chroma_dc_scaled.Goals as goal

pub half_of-requires : goal.half_of-requires
half_of-requires c =
    small_cast (omega arith) (IsBelow-more _ _ _ (omega arith) (dc_product (omega arith) c.requires.small c.dc_scale.ensures.small c.times.ensures.small))

pub returns : goal.returns
returns c =
    let product = dc_product (omega arith) c.requires.small c.dc_scale.ensures.small c.times.ensures.small in
    let half = c.half_of.ensures.half (2 ^ 26) (small_cast (omega arith) (IsBelow-more _ _ _ (omega arith) product)) in
    let value = rw (to_z-of_z w32 c.args.f c.ranges.f, c.dc_scale.ensures.value) at c.times.ensures.value in
    record {
      value = cast_small (omega arith) half ∙ c.half_of.ensures.value ∙ ap (λ (z : ℤ). z >>ℤ 1) (cast_small (omega arith) product ∙ value) ∙ chroma_scaled c.args.qp c.args.f;
      small = small_cast (omega arith) (IsBelow-more _ _ _ (omega arith) half);
    }
