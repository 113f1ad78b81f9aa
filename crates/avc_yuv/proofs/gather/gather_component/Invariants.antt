use Rattle.avc_yuv.proofs.Windows.{◌≡◌, ◌-◌, ◌≤◌, length, IsRowsGathered}
use Rattle.avc_yuv.proofs.gather.gather_component.Given as goal

abbrev pub invariant-rows : goal.invariant-rows
invariant-rows g l = record {
  same_length : length l.room ≡ length (l.fn).room;
  shown : l.number ≤ (l.of).height;
  rows : IsRowsGathered (g.P.PictureRows.picture l.picture) l.component l.of (l.fn).before (l.fn).room l.room
      (g.W.Write.contents (l.fn).writer) (g.W.Write.contents l.writer) l.number l.gathered;
}

abbrev pub decreases-rows : goal.decreases-rows
decreases-rows g l = (l.of).height - l.number
