use Rattle.avc_syntax_tests.proofs.macroblock_types.all_coded.Goals as goal

pub returns : goal.returns
returns g c = let b = c.requires in (b, (b, (b, (b, (b, (b, (b, (b, (b, (b, (b, (b, (b, (b, (b, (b, tt))))))))))))))))
