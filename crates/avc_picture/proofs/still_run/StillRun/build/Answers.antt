use Rattle.avc_picture.proofs.Slices.{arith, ap, planes_of, AreSized, NeighbourInfo}
use Rattle.avc_picture_core.specs.Canvas.{address_of}
use Rattle.avc_picture.proofs.StillRuns.{keeps_all}
use Rattle.avc_picture.proofs.still_run.StillRun.build.Goals.{then-is_still+then-is_skipped+else-self-gt0, else-is_still}
use Rattle.avc_picture.proofs.still_run.StillRun.build.Goals as goal

pub returns-clause-built : goal.returns-clause-built
returns-clause-built g c =
    let a = c.args in
    let w = a.canvas.now.width in
    let h = a.canvas.now.height in
    let address = address_of w a.place in
    record {
      between = planes_of c.if-is_still.planes;
      earlier = elim c.if-is_still.branch [
        | then-is_still+then-is_skipped+else-self-gt0 s ↦ rw s.planes-is s.go_on.ensures.earlier
        | else-is_still s ↦ rw s.planes-is (keeps_all w h address (planes_of a.planes.now))
      ];
      built = rw (c.info.ensures) at c.build.ensures.built;
    }

pub go_on-requires : goal.go_on-requires
go_on-requires g c =
    let r = c.requires in
    (omega arith, (omega arith, (r.column, (r.row, (r.sized, (r.references, r.copied))))))

pub build-requires : goal.build-requires
build-requires g c =
    let r = c.requires in
    let sized : AreSized c.args.canvas.now.width c.args.canvas.now.height (planes_of c.if-is_still.planes) = elim c.if-is_still.branch [
      | then-is_still+then-is_skipped+else-self-gt0 s ↦ rw s.planes-is s.go_on.ensures.sized
      | else-is_still s ↦ rw s.planes-is r.sized
    ] in
    let modes = rw (← c.info.ensures) at r.modes in
    let one = rw (← c.info.ensures) at r.one in
    (omega arith, (omega arith, (r.column, (r.row, (sized, (r.syntax, (r.quantiser, (modes, (one, r.references)))))))))

pub build_copied-requires : goal.build_copied-requires
build_copied-requires g c =
    let r = c.requires in
    let still = c.is_still.ensures c.if-is_still.true in
    let some = c.if-self-gt0.true in
    let ahead = c.go_on.ensures in
    (omega arith, (omega arith, (r.column, (r.row, (ahead.sized, (r.references, (some, (ahead.copied, (c.is_skipped.ensures c.if-is_skipped.true, ap (λ (f : NeighbourInfo). f.motion) still)))))))))

pub returns-then-self-gt0-clause-built : goal.returns-then-self-gt0-clause-built
returns-then-self-gt0-clause-built g c = record {
  between = planes_of c.go_on.new.planes;
  earlier = c.go_on.ensures.earlier;
  built = c.build_copied.ensures.built;
}
