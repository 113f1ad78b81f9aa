use Rattle.avc_plane.proofs.PlaneMaps.{ℕ, ◌≡◌, ◌+◌, ◌-◌, ◌*◌, ◌≤◌, ◌++◌, ◌∙◌, List, replicate, take, length, arith, ap, take_all, length-replicate}
use Rattle.avc_plane.proofs.PlaneMaps.{replicate-append-replicate}
use Rattle.avc_plane.proofs.plane.zeros.Goals as goal

-- zeros that are made longer
lengthened : (zeros : List ℕ) (len m n : ℕ) → zeros ≡ replicate m 0 → len ≡ length zeros → m ≤ n → take n zeros ++ replicate (n - len) 0 ≡ replicate n 0
lengthened zeros len m n so_far counted longer =
    let long : length zeros ≡ m = ap length so_far ∙ length-replicate m 0 in
    rw (take_all n zeros (omega arith), so_far, replicate-append-replicate {A = ℕ} m (n - len) 0) (ap (λ k. replicate k 0) (omega arith))

pub loop-piece-init : goal.loop-piece-init
loop-piece-init c = c.in_ok-zeros.ensures.items

pub loop-piece-preserved : goal.loop-piece-preserved
loop-piece-preserved c =
    c.in_ok-resize.ensures.items
    ∙ lengthened c.loop-piece.zeros.items c.loop-piece.zeros.len (1024 * c.loop-piece.piece) (1024 * c.loop-piece.piece + 1024) c.loop-piece.invariant c.loop-piece.zeros.ok.0 (omega arith)
    ∙ ap (λ n. replicate n 0) (omega arith)

pub returns : goal.returns
returns c =
    c.in_ok-resize-2.ensures.items
    ∙ lengthened c.loop-piece.zeros.items c.loop-piece.zeros.len (1024 * c.loop-piece.piece) c.args.count c.loop-piece.invariant c.loop-piece.zeros.ok.0 (omega (arith, c.loop-piece.auto.piece-end))
