use Rattle.avc_edges.proofs.EdgesOnPlane.{◌≡◌, ℕ, ◌+◌, ◌/◌, Bool, nat_lt, ◌&&◌, ◌==◌, arith, sym, ap, ◌∙◌, distance, Line, line, strong_is}
use Rattle.avc_edges.proofs.EdgesOnPlane.{either_nearest, either_other, turned}
use Rattle.avc_edges.proofs.line.strong_line.Goals as goal

pub returns : goal.returns
returns c s w =
    let a = c.args.l in
    let t = c.args.thresholds in
    let alpha : ℕ = t.alpha1 + 1 in
    let beta : ℕ = t.beta1 + 1 in
    let l : Line = line c.args.p3 a.p2 a.p1 a.p0 a.q0 a.q1 a.q2 c.args.q3 in
    let on : Bool = c.is_zero-on.result in
    let zero_on : on ≡ (c.excess-beyond.result == 0) = c.is_zero-on.ensures in
    let near : Bool = nat_lt (distance a.p0 a.q0) (alpha / 4 + 2) in
    let two : t.small1 + 1 ≡ alpha / 4 + 2 = omega (arith, t.quarter) in
    let small : (c.excess_of_step-small.result == 0) ≡ (on && near) =
    c.excess_of_step-small.ensures ∙ ap (λ (b : Bool). b && nat_lt (distance a.p0 a.q0) (t.small1 + 1)) (sym zero_on) ∙ ap (λ (n : ℕ). on && nat_lt (distance a.p0 a.q0) n) two in
    let up : Bool = nat_lt (distance a.p2 a.p0) beta in
    let uq : Bool = nat_lt (distance a.q2 a.q0) beta in
    let sp : c.is_smooth-smooth_p.result ≡ (on && near && up) = c.is_smooth-smooth_p.ensures ∙ ap (λ (b : Bool). b && up) small in
    let sq : c.is_smooth-smooth_q.result ≡ (on && near && uq) = c.is_smooth-smooth_q.ensures ∙ ap (λ (b : Bool). b && uq) small in
    let far : Bool = nat_lt (distance a.q0 a.p0) (alpha / 4 + 2) in
    let tq : c.is_smooth-smooth_q.result ≡ (on && far && uq) = sq ∙ ap (λ (n : ℕ). on && nat_lt n (alpha / 4 + 2) && uq) (turned a.p0 a.q0) in
    strong_is s alpha beta l on _ _ _ _ _ _ w (zero_on ∙ c.excess-beyond.ensures)
    (record {
      p0_is = c.strong_nearest.ensures ∙ either_nearest on near up _ _ _ _ sp;
      p1_is = c.pick-2.ensures ∙ rw (c.mean_of_four.ensures) (either_other on near up _ _ _ sp);
      p2_is = c.pick.ensures ∙ rw (c.far_mean.ensures) (either_other on near up _ _ _ sp);
      q0_is = c.strong_nearest-2.ensures ∙ either_nearest on far uq _ _ _ _ tq;
      q1_is = c.pick-3.ensures ∙ rw (c.mean_of_four-2.ensures) (either_other on far uq _ _ _ tq);
      q2_is = c.pick-4.ensures ∙ rw (c.far_mean-2.ensures) (either_other on far uq _ _ _ tq);
    })
