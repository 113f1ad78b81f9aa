use Rattle.avc_edges.proofs.EdgesOnPlane.{◌/◌, ◌%◌, false, slice_index, weak_row}
use Rattle.avc_edges.proofs.settings.WeakSettings.of_chroma.Goals as goal

pub returns : goal.returns
returns c s i low fits =
    let e = c.of_lines.ensures in
    let w = c.args.self in
    weak_row false w.limits.now s (slice_index w.strengths.now (i % 8 / 2)) _ _ _ _ (slice_index c.chroma_tc1s.result i)
    (e.alpha i low) (e.beta i low) (e.dead i low) (e.tc0 i low) w.spread.low (c.chroma_tc1s.ensures.value i low) fits
