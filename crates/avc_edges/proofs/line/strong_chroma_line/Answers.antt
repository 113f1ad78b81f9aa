use Rattle.avc_edges.proofs.EdgesOnPlane.{ℕ, ◌+◌, if◌then◌else◌, ap, ◌∙◌, Line, line, strong_chroma_is}
use Rattle.avc_edges.proofs.line.strong_chroma_line.Goals as goal

pub returns : goal.returns
returns c p3 p2 q2 q3 s w =
    let a = c.args.l in
    let on = c.is_zero-on.result in
    let l : Line = line p3 p2 a.p1 a.p0 a.q0 a.q1 q2 q3 in
    strong_chroma_is s (c.args.alpha1 + 1) (c.args.beta1 + 1) l on _ _ w (c.is_zero-on.ensures ∙ c.excess.ensures)
    (c.pick.ensures ∙ ap (λ (n : ℕ). if on then n else a.p0) c.rough_mean.ensures)
    (c.pick-2.ensures ∙ ap (λ (n : ℕ). if on then n else a.q0) c.rough_mean-2.ensures)
