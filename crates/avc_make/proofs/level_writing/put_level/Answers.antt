use Rattle.avc_make.proofs.Slices.{append_assoc, arith, level_word, prefix_is}
use Rattle.avc_make.proofs.level_writing.put_level.Goals as goal

pub level_code-requires-clause-prefix : goal.level_code-requires-clause-prefix
level_code-requires-clause-prefix c = omega (arith, c.prefix_of-prefix.ensures, (prefix_is c.args.suffix_length c.args.code c.requires.code).few)

pub returns : goal.returns
returns c = grind (arith, level_word, append_assoc)
