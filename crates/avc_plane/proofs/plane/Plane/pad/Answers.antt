use Rattle.avc_plane.proofs.PlaneMaps.{◌≡◌, ◌+◌, ◌*◌, ◌∙◌, length, arith, ap, sym, with_items_is, inner_plane, same_plane, surrounded, sizes}
use Rattle.avc_plane.proofs.plane.Plane.pad.Goals as goal

pub from_rows-requires : goal.from_rows-requires
from_rows-requires g c =
    let pad = g.row.PAD in
    let a = c.self.inside in
    let new = c.extend.new.stored in
    let size = sizes pad a.stride a.width a.height a.stored.items c.self.invariant.wide c.self.invariant.long _ c.self.view_is in
    let all_of : length c.as_mut_slice.result.now ≡ a.stored.len = ap length c.as_mut_slice.ensures.value ∙ sym a.stored.ok.0 in
    let rows : length new ≡ (a.height + 2 * pad) * a.stride = omega (arith, ap length c.as_mut_slice.ensures.value, c.self.invariant.long) in (
      omega arith,
      rw (with_items_is a.stored new (omega arith)) (record {
        rows = record {
          distance = c.self.invariant.distance;
          wide = c.self.invariant.wide;
          apart = c.self.invariant.apart;
          long = rows;
          narrow = c.self.invariant.narrow;
          low = c.self.invariant.low;
        };
        some_column = omega arith;
        some_row = omega arith;
        surrounded = surrounded pad a.stride a.width a.height c.as_mut_slice.result.now new c.self.invariant.wide (omega arith) (omega arith) c.extend.ensures c.self.invariant.distance rows;
      }),
    )

pub returns : goal.returns
returns g c =
    let pad = g.row.PAD in
    let a = c.self.inside in
    let new = c.extend.new.stored in
    let size = sizes pad a.stride a.width a.height a.stored.items c.self.invariant.wide c.self.invariant.long _ c.self.view_is in
    let all_of : length c.as_mut_slice.result.now ≡ a.stored.len = ap length c.as_mut_slice.ensures.value ∙ sym a.stored.ok.0 in
    c.from_rows.ensures
    ∙ ap (inner_plane pad a.stride a.width a.height) (with_items_is a.stored new (omega arith))
    ∙ same_plane pad a.stride a.width a.height c.as_mut_slice.result.now new c.self.invariant.wide (omega arith) (omega arith) c.extend.ensures
    ∙ ap (inner_plane pad a.stride a.width a.height) c.as_mut_slice.ensures.value
    ∙ c.self.view_is
