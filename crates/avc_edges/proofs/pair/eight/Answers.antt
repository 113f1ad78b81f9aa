use Rattle.std.proofs.lemmas.Simd.{length-chunk, get_or-chunk}
use Rattle.avc_edges.proofs.pair.eight.Goals as goal

pub returns-clause-long : goal.returns-clause-long
returns-clause-long c = length-chunk c.args.at 8 c.args.src.now c.requires

pub returns-clause-value : goal.returns-clause-value
returns-clause-value c k low = get_or-chunk c.args.at 8 c.args.src.now k 0 low
