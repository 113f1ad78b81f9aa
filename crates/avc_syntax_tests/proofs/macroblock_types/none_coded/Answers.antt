use Rattle.avc_syntax_tests.proofs.macroblock_types.none_coded.Goals as goal

pub returns : goal.returns
returns g c = let z = c.zero.ensures in (z, (z, (z, (z, (z, (z, (z, (z, (z, (z, (z, (z, (z, (z, (z, (z, tt))))))))))))))))
