use Rattle.avc_edges.proofs.EdgesOnPlane.{◌≡◌, ℕ, ℤ, ◌+◌, pos, ◌+ℤ◌, ◌-ℤ◌, Bool, nat_lt, ◌&&◌, ◌==◌, if◌then◌else◌, arith, sym, ap, ◌∙◌, clip1}
use Rattle.avc_edges.proofs.EdgesOnPlane.{distance, Line, line, slope, held, weak_is, second_is}
use Rattle.avc_edges.proofs.line.weak_line.Goals as goal

pub returns : goal.returns
returns c p3 q3 s w =
    let a = c.args.l in
    let t = c.args.thresholds in
    let alpha : ℕ = if t.dead == 0 then t.alpha1 + 1 else 0 in
    let beta : ℕ = t.beta1 + 1 in
    let l : Line = line p3 a.p2 a.p1 a.p0 a.q0 a.q1 a.q2 q3 in
    let up : Bool = nat_lt (distance a.p2 a.p0) beta in
    let uq : Bool = nat_lt (distance a.q2 a.q0) beta in
    let on : Bool = c.is_zero-on.result in
    let zero_on : on ≡ (c.excess-beyond.result == 0) = c.is_zero-on.ensures in
    let sp : c.is_smooth-smooth_p.result ≡ (on && up) = c.is_smooth-smooth_p.ensures ∙ ap (λ (b : Bool). b && up) (sym zero_on) in
    let sq : c.is_smooth-smooth_q.result ≡ (on && uq) = c.is_smooth-smooth_q.ensures ∙ ap (λ (b : Bool). b && uq) (sym zero_on) in
    let z : ℤ = slope a.p1 a.p0 a.q0 a.q1 in
    let tc_is = c.limit-tc.ensures.value up uq sp sq in
    let step = c.biased_step-step.ensures in
    weak_is s alpha beta t.tc0 l on c.second.result c.raised.result c.lowered.result c.second-2.result
    (omega arith) (omega arith) w
    (zero_on ∙ c.excess-beyond.ensures)
    (record {
      p0_is = c.raised.ensures z step.biased ∙ ap (λ (m : ℕ). clip1 (pos a.p0 +ℤ held m z)) tc_is;
      q0_is = c.lowered.ensures z step.biased ∙ ap (λ (m : ℕ). clip1 (pos a.q0 -ℤ held m z)) tc_is;
      p1_is = second_is on up t.tc0 _ _ a.p1 _ (c.pick.ensures ∙ ap (λ (b : Bool). if b then t.tc0 else 0) sp) c.second.ensures;
      q1_is = second_is on uq t.tc0 _ _ a.q1 _ (c.pick-2.ensures ∙ ap (λ (b : Bool). if b then t.tc0 else 0) sq) c.second-2.ensures;
    })
