use Rattle.avc_edges.proofs.EdgesOnPlane.{four_riffles}
use Rattle.avc_edges.proofs.block.transposed.Goals as goal

pub returns : goal.returns
returns g c = four_riffles _ _ _ _ _ _ _ c.requires.half c.riffled-once.ensures c.riffled-twice.ensures c.riffled-thrice.ensures c.riffled.ensures
