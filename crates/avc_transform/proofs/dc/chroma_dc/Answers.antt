use Rattle.avc_transform.proofs.Residuals.{◌+◌, ◌*◌, arith, rules, ap, ◌∙◌, chroma_dc_scaled, scaled_more}
use Rattle.avc_transform.proofs.dc.chroma_dc.Goals as goal

pub loop-i-preserved : goal.loop-i-preserved
loop-i-preserved c = record {
  long = search rules;
  scaled = scaled_more _ _ c.loop-i.out c.loop-i.i _ c.loop-i.invariant.scaled (omega arith) (c.chroma_dc_product-out.ensures.small c.loop-i.i (omega arith))
      c.chroma_dc_scaled.result (omega arith) c.chroma_dc_scaled.ensures.value c.chroma_dc_scaled.ensures.small;
}

pub returns-clause-values : goal.returns-clause-values
returns-clause-values c x y column row =
    c.loop-i.invariant.scaled.done (2 * y + x) (omega arith)
    ∙ ap (chroma_dc_scaled c.args.qp) (c.chroma_dc_product-out.ensures.values x y column row)
