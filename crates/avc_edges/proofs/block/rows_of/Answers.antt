use Rattle.avc_edges.proofs.EdgesOnPlane.{three_riffles}
use Rattle.avc_edges.proofs.block.rows_of.Goals as goal

pub returns : goal.returns
returns c = three_riffles _ _ _ _ c.riffled-once.ensures c.riffled-twice.ensures c.riffled.ensures
