use Rattle.avc_make.proofs.Slices.{append_assoc, length-append, syntax_of, ranges_of}
use Rattle.avc_make.proofs.slice_writing.put_coded.Goals as goal

pub write_macroblock-requires-clause-ranges : goal.write_macroblock-requires-clause-ranges
write_macroblock-requires-clause-ranges c = ranges_of c.args.context.now (syntax_of c.args.syntax.now) c.requires.coded c.requires.stands

pub returns : goal.returns
returns c = (c.requires.going, rw (c.in_ok-write_macroblock.ensures.1, c.in_ok-put_run.ensures.1, length-append) (simp append_assoc))
