use Rattle.avc_cavlc.proofs.Levels.{arith, level_code_most, short_suffix}
use Rattle.avc_cavlc.proofs.level.read_level_code.Goals as goal

pub returns-in-Some-clause-most : goal.returns-in-Some-clause-most
returns-in-Some-clause-most c =
    let s = c.in-Some.ensures.read in
    rw c.level_code.ensures (level_code_most c.in-Some.prefix c.args.suffix_length c.in-Some.suffix c.args.above_one (omega (arith, s.few)) c.requires.length (rw (← short_suffix c.in-Some.prefix c.args.suffix_length s.few) at s.below) c.requires.first)
