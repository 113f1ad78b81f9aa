use Rattle.avc_edges.proofs.EdgesOnPlane.{◌≡◌, ℕ, ◌+◌, ◌*◌, ◌/◌, ◌%◌, false, arith, subst, slice_index, strength_along, chroma_setting, AreStrengths}
use Rattle.avc_edges.proofs.EdgesOnPlane.{FitsWeak, fits_weak, fits_strong}
use Rattle.avc_edges.proofs.chroma_edge.filter_chroma.Goals as goal

pub returns-in-Four-clause-lines : goal.returns-in-Four-clause-lines
returns-in-Four-clause-lines c qp are p3 p2 q2 q3 b i bit low =
    let s = c.args.settings in
    let e = c.of_lines.ensures in
    let n : ℕ = 8 * b + i in
    c.strong_chroma.ensures.lines p3 p2 q2 q3 (chroma_setting (strength_along s.strengths.now) qp i) n (omega arith)
    (rw (e.alpha n (omega arith), e.beta n (omega arith)) (fits_strong s.limits.now qp are c.requires false s.strengths.now c.in-Four.is (i / 2)))

pub returns-in-BelowFour-clause-lines : goal.returns-in-BelowFour-clause-lines
returns-in-BelowFour-clause-lines c qp are p3 p2 q2 q3 b i bit low =
    let s = c.args.settings in
    let below = c.in-BelowFour.is in
    let setting = chroma_setting (strength_along s.strengths.now) qp i in
    let n : ℕ = 8 * b + i in
    c.weak_chroma.ensures.lines p3 p2 q2 q3 setting n (omega arith)
    (c.of_chroma.ensures setting n (omega arith)
    (subst (λ (m : ℕ). FitsWeak false s.limits.now (slice_index c.in-BelowFour.strengths (m / 2)) setting) (let e : i ≡ n % 8 = omega arith in e)
    (fits_weak s.limits.now qp are c.requires false s.strengths.now _ below (subst AreStrengths below s.low) (i / 2) (omega arith))))
