use Rattle.avc_samples.proofs.Places.{stride_of, ◌≡◌, ◌+◌, ◌*◌, ◌≤◌, arith, row_is_there, sample_there, still_place}
use Rattle.avc_samples.proofs.patch.find_within.Goals as goal

pub behind_edge-column-requires-clause-place : goal.behind_edge-column-requires-clause-place
behind_edge-column-requires-clause-place g c = still_place _ c.requires.left

pub behind_edge-row-requires-clause-place : goal.behind_edge-row-requires-clause-place
behind_edge-row-requires-clause-place g c = still_place _ c.requires.top

pub returns : goal.returns
returns g c rows all =
    let p = c.args.plane.now in
    let height : c.height.result ≡ p.height = c.height.ensures.value in
    let column = c.behind_edge-column in
    let row = c.behind_edge-row in
    let apart = c.stride-stride.ensures.value in
    let fits : column.result + c.args.columns ≤ stride_of g.row.PAD p.width = omega arith in
    let below : row.result + c.args.count ≤ p.height + 2 * g.row.PAD = omega arith in
    rw apart (record {
      row = row_is_there g.row.PAD p rows all c.args.left c.args.top _ _ _ _ c.requires.left c.requires.top column.ensures row.ensures fits below;
      at = sample_there g.row.PAD p rows all c.args.left c.args.top _ _ _ _ c.requires.left c.requires.top column.ensures row.ensures fits below;
    })
