use Rattle.avc_edges.proofs.EdgesOnPlane.{ℕ, ℤ, ◌+◌, pos, ◌+ℤ◌, ◌-ℤ◌, ◌==◌, if◌then◌else◌, arith, ap, ◌∙◌, clip1, Line, line, slope, held, weak_chroma_is}
use Rattle.avc_edges.proofs.line.weak_chroma_line.Goals as goal

pub returns : goal.returns
returns c p3 p2 q2 q3 s w =
    let a = c.args.l in
    let t = c.args.thresholds in
    let l : Line = line p3 p2 a.p1 a.p0 a.q0 a.q1 q2 q3 in
    let z : ℤ = slope a.p1 a.p0 a.q0 a.q1 in
    let step = c.biased_step-step.ensures in
    weak_chroma_is s (if t.dead == 0 then t.alpha1 + 1 else 0) (t.beta1 + 1) t.tc0 l c.is_zero-on.result c.raised.result c.lowered.result (omega arith) (omega arith) w
    (c.is_zero-on.ensures ∙ c.excess.ensures)
    (record {
      p0_is = c.raised.ensures z step.biased ∙ ap (λ (m : ℕ). clip1 (pos a.p0 +ℤ held m z)) c.pick-tc.ensures;
      q0_is = c.lowered.ensures z step.biased ∙ ap (λ (m : ℕ). clip1 (pos a.q0 -ℤ held m z)) c.pick-tc.ensures;
    })
