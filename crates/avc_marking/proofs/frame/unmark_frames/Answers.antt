use Rattle.avc_marking.proofs.KeptFrames.{◌≡◌, ℕ, arith, refl, MarkedFrame, reference_of, Index, From, Every, is_to_unmark, FramesToUnmark}
use Rattle.avc_marking.proofs.KeptFrames.{references-unmarked_if}
use Rattle.avc_marking.proofs.frame.unmark_frames.Goals as goal

whichever_index : (l : FramesToUnmark) (e : ℕ) (f : MarkedFrame) → is_to_unmark l (reference_of e f) ≡ is_to_unmark l (reference_of 0 f)
whichever_index (Index index) e f = refl
whichever_index (From index) e f = refl
whichever_index Every e f = refl

pub returns-clause-references : goal.returns-clause-references
returns-clause-references c = λ indices stand.
    references-unmarked_if (is_to_unmark c.args.to_unmark) (whichever_index c.args.to_unmark) indices c.args.frames.now c.loop-place.frames stand.each c.loop-place.auto.frames
    (λ k h. c.loop-place.invariant.done k (omega arith))
