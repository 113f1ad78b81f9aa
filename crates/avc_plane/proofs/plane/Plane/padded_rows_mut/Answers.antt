use Rattle.avc_plane.proofs.PlaneMaps.{refl, ap, ◌∙◌, Plane, with_rows, rows_written, have_samples}
use Rattle.avc_plane.proofs.plane.Plane.padded_rows_mut.Goals as goal

pub returns : goal.returns
returns g c =
    let a = c.self.inside in
    let pad = g.row.PAD in
    let items = a.stored.items in
    let wide = c.self.invariant.wide in
    let long = c.self.invariant.long in (
      (refl, λ w. rows_written pad a.stride a.width a.height a.stored.len items w a.stored.ok.0 c.self.invariant.distance wide long ∙ ap (λ (p : Plane). with_rows pad p w) c.self.view_is),
      record {
        writes_back = tt;
        rows = rw (c.as_mut_slice.ensures.value, ← c.self.view_is) (have_samples pad a.stride a.width a.height items c.self.invariant.distance wide long);
      },
    )
