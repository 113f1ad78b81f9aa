use Rattle.avc_picture.proofs.Slices.{arith}
use Rattle.avc_picture.proofs.StillRuns.{one_in_place, others_copied}
use Rattle.avc_picture.proofs.still_run.StillRun.build_copied.Goals as goal

pub build_in_place-requires : goal.build_in_place-requires
build_in_place-requires g c =
    let r = c.requires in
    let still = rw (← c.info.ensures) at r.still in
    (omega arith, (omega arith, (r.column, (r.row, (r.sized, (r.references, (r.skipped, (still, one_in_place (r.copied r.some) r.some))))))))

pub returns-clause-copied : goal.returns-clause-copied
returns-clause-copied g c = others_copied (c.requires.copied c.requires.some) _ (omega (arith, c.requires.some))

pub returns-clause-built : goal.returns-clause-built
returns-clause-built g c = rw (c.info.ensures) at c.build_in_place.ensures
