use Rattle.avc_picture_core.proofs.InterTiles.{◌≡◌, ◌+◌, ◌*◌, ℕ, suc, Place, Plane, with_block4x4, with_blocks4x4, arith, ap, sym, ◌∙◌}
use Rattle.avc_picture_core.proofs.luma4x4.build_luma4x4.Goals as goal

-- four blocks more
four_blocks : (p : Place) (q : ℕ) (s s0 s1 s2 s3 s4 : Plane) → s0 ≡ with_blocks4x4 p (4 * q) s → s1 ≡ with_block4x4 p (4 * q) s0
    → s2 ≡ with_block4x4 p (4 * q + 1) s1 → s3 ≡ with_block4x4 p (4 * q + 2) s2 → s4 ≡ with_block4x4 p (4 * q + 3) s3
    → s4 ≡ with_blocks4x4 p (4 * (q + 1)) s
four_blocks p q s s0 s1 s2 s3 s4 e0 e1 e2 e3 e4 =
    let a = 4 * q in
    let n1 : a + 1 ≡ suc a = omega arith in
    let n2 : a + 2 ≡ suc (suc a) = omega arith in
    let n3 : a + 3 ≡ suc (suc (suc a)) = omega arith in
    let n4 : 4 * (q + 1) ≡ suc (suc (suc (suc a))) = omega arith in
    let f1 : s1 ≡ with_blocks4x4 p (suc a) s = e1 ∙ ap (with_block4x4 p a) e0 in
    let f2 : s2 ≡ with_blocks4x4 p (suc (suc a)) s = e2 ∙ ap (λ n. with_block4x4 p n s1) n1 ∙ ap (with_block4x4 p (suc a)) f1 in
    let f3 : s3 ≡ with_blocks4x4 p (suc (suc (suc a))) s = e3 ∙ ap (λ n. with_block4x4 p n s2) n2 ∙ ap (with_block4x4 p (suc (suc a))) f2 in
    e4 ∙ ap (λ n. with_block4x4 p n s3) n3 ∙ ap (with_block4x4 p (suc (suc (suc a)))) f3 ∙ sym (ap (λ n. with_blocks4x4 p n s) n4)

pub loop-quarter-preserved : goal.loop-quarter-preserved
loop-quarter-preserved g c =
    let inv = c.loop-quarter.invariant in
    let b = c.build_numbered.ensures in
    let b2 = c.build_numbered-in-loop-quarter.ensures in
    let b3 = c.build_numbered-in-loop-quarter-2.ensures in
    let b4 = c.build_numbered-in-loop-quarter-3.ensures in
    let wide = b.size.0 ∙ inv.wide in
    let wide2 = b2.size.0 ∙ wide in
    let wide3 = b3.size.0 ∙ wide2 in
    record {
      wide = b4.size.0 ∙ wide3;
      high = b4.size.1 ∙ b3.size.1 ∙ b2.size.1 ∙ b.size.1 ∙ inv.high;
      done = λ p at.
          four_blocks p c.loop-quarter.quarter c.args.plane.now c.loop-quarter.plane c.build_numbered.new.plane c.build_numbered-in-loop-quarter.new.plane c.build_numbered-in-loop-quarter-2.new.plane c.build_numbered-in-loop-quarter-3.new.plane
          (inv.done p at) (b.block p (rw inv.wide at)) (b2.block p (rw wide at)) (b3.block p (rw wide2 at)) (b4.block p (rw wide3 at));
    }
