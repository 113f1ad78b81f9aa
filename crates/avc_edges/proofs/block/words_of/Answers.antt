use Rattle.avc_edges.proofs.EdgesOnPlane.{◌+◌, ◌*◌, arith, word_is}
use Rattle.avc_edges.proofs.block.words_of.Goals as goal

pub returns-clause-first : goal.returns-clause-first
returns-clause-first c k low = grind (arith, word_is)

pub returns-clause-second : goal.returns-clause-second
returns-clause-second c k low =
    omega (arith, word_is c.args.t.now (omega arith) c.requires k low, c.requires (4 * k) (omega arith), c.requires (4 * k + 1) (omega arith))

pub returns-clause-third : goal.returns-clause-third
returns-clause-third c k low =
    omega (arith, word_is c.args.t.now (omega arith) c.requires k low, c.requires (4 * k) (omega arith), c.requires (4 * k + 1) (omega arith), c.requires (4 * k + 2) (omega arith))

pub returns-clause-fourth : goal.returns-clause-fourth
returns-clause-fourth c k low =
    omega (arith, word_is c.args.t.now (omega arith) c.requires k low, c.requires (4 * k) (omega arith), c.requires (4 * k + 1) (omega arith), c.requires (4 * k + 2) (omega arith), c.requires (4 * k + 3) (omega arith))
