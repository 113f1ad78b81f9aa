use Rattle.avc_picture_core.proofs.InterTiles.{rules, four_parts}
use Rattle.avc_picture_core.proofs.inter.predict_quarters.Goals as goal

pub returns : goal.returns
returns g c = search (rules, four_parts)
