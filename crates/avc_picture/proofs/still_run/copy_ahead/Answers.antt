use Rattle.avc_picture.proofs.Slices.{◌+◌, ◌*◌, sym, subst, Planes, planes_of, padded_planes_of}
use Rattle.avc_picture_core.specs.Still.{AreSameIn}
use Rattle.avc_picture.specs.StillRuns.{KeepsEarlier}
use Rattle.avc_picture.proofs.StillRuns.{run_keeps, run_there}
use Rattle.avc_picture.proofs.still_run.copy_ahead.Goals as goal

pub returns-in-Some-clause-copied : goal.returns-in-Some-clause-copied
returns-in-Some-clause-copied g c = λ some.
    let a = c.args in
    let picture = c.in-Some.picture.now in
    let from = padded_planes_of picture.planes.now in
    let there = run_there a.canvas.now.width a.canvas.now.height a.place.column a.place.row a.count from (planes_of a.planes.now) c.requires.sized c.requires.columns c.requires.row in
    record {
      within = c.requires.columns;
      in_place = record {
        picture = picture;
        named = c.in-Some.ensures.0;
        unweighted = c.in-Some.ensures.1;
        same = subst (λ (s : Planes). AreSameIn a.place.column a.place.row a.count from s) (sym c.copy_run.ensures) there;
      };
    }

pub returns-in-Some-clause-earlier : goal.returns-in-Some-clause-earlier
returns-in-Some-clause-earlier g c =
    let a = c.args in
    let w = a.canvas.now.width in
    let from = padded_planes_of c.in-Some.picture.now.planes.now in
    subst (λ (s : Planes). KeepsEarlier w a.canvas.now.height (a.place.row * w + a.place.column) (planes_of a.planes.now) s) (sym c.copy_run.ensures)
    (run_keeps w a.canvas.now.height a.place.column a.place.row a.count from (planes_of a.planes.now) c.requires.sized c.requires.columns c.requires.row)
