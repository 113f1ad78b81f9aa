use Rattle.avc_transform.proofs.Residuals.{arith, small_cast, dc_product, quarter_stored, quarter_small}
use Rattle.avc_transform.proofs.dc.quarter_scaled.Goals as goal

pub times-requires : goal.times-requires
times-requires c = record { value = small_cast (omega arith) c.requires.small; scale = omega (arith, c.requires.scale) }

pub returns : goal.returns
returns c =
    let product = dc_product (omega arith) c.requires.small c.requires.scale c.times.ensures.small in
    record {
      value = quarter_stored _ _ c.args.scale c.requires.small product c.times.ensures.value;
      small = quarter_small _ _ c.args.scale c.requires.small product c.times.ensures.value;
    }
