use Rattle.avc_types.proofs.Frames.{◌≡◌, take}
use Rattle.avc_types.proofs.up_to.UpTo.copied.Given as goal

abbrev pub invariant-loop-item : goal.invariant-loop-item
invariant-loop-item g l = l.copy ≡ take l.item-index l.items
