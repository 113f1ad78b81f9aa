use Rattle.avc_decoder.proofs.Events.{◌≡◌, None, Some, refl, sym, subst, current_in, phase_of, ComesTo, CurrentPicture}
use Rattle.avc_decoder.specs.States.{closed_in}
use Rattle.avc_decoder.specs.declared.phase.Phase.{Phase}
use Rattle.avc_decoder.specs.declared.phase.Phase.TheVariants.{Waiting, Running}
use Rattle.avc_decoder.proofs.close.close.Goals as goal

-- the phase with this open picture
with_open : (p : Phase) (c : CurrentPicture) → current_in p ≡ Some c → Running (Some c) ≡ p
with_open Waiting c e = cc
with_open (Running None) c e = cc
with_open (Running (Some it)) c e = rw e refl

pub returns-clause-state : goal.returns-clause-state
returns-clause-state c =
    let t = c.args.stream.now in
    let t' = c.close_picture.new.stream in
    subst (λ (p : Phase). ComesTo t.sequence.output t.queue t.read t.table (closed_in t.sequence.output (phase_of t.sequence p))
    t'.sequence t'.phase t'.queue t'.read t'.table)
    (with_open t.phase c.in-Some.current (sym c.in-Some.ensures.picture)) c.in_ok-close_picture.ensures.state
