use Rattle.avc_picture.proofs.Slices.{◌≡◌, ◌-◌, ◌*◌, ◌≤◌, SliceStart, Coded, Names, GoesOn, GoesOnFrom, HasSameSize}
use Rattle.avc_picture.specs.StillRuns.{AreCopiedFrom, GoesOnStill}
use Rattle.avc_picture.proofs.slice_decoding.decode_data.Given as goal

abbrev pub invariant-macroblocks : goal.invariant-macroblocks
invariant-macroblocks g l = record {
  size : HasSameSize l.fn.macroblocks l.macroblocks;
  reached : l.macroblocks.next ≡ l.read;
  copied : AreCopiedFrom l.context.references l.macroblocks.canvas.width l.macroblocks.next l.run.copied l.macroblocks.canvas.planes;
  still : GoesOnStill l.run.copied l.context.number l.macroblocks.row l.info;
  within : l.read ≤ l.macroblocks.canvas.width * l.macroblocks.canvas.height;
  goes_on : (c : Coded) (names : Names) (s : SliceStart) → GoesOn c names s l.fn.macroblocks l.fn.unread l.context
      → GoesOnFrom c names s l.context l.fn.macroblocks l.fn.unread l.macroblocks l.unread;
}

abbrev pub decreases-macroblocks : goal.decreases-macroblocks
decreases-macroblocks g l = l.macroblocks.canvas.width * l.macroblocks.canvas.height - l.macroblocks.next
