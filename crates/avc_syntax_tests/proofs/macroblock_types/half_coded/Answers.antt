use Rattle.avc_syntax_tests.proofs.macroblock_types.half_coded.Goals as goal

pub returns : goal.returns
returns g c =
    let b = c.requires in
    let z = c.zero-a.ensures in
    (z, (z, (z, (z, (b, (b, (b, (b, (b, (b, (b, (b, (z, (z, (z, (z, tt))))))))))))))))
