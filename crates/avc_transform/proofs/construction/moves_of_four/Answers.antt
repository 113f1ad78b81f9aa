use Rattle.avc_transform.proofs.Residuals.{ℤ, arith, pos, ◌-ℤ◌, clip1, ap, ◌∙◌, cast_small}
use Rattle.avc_transform.proofs.construction.moves_of_four.Goals as goal

pub returns : goal.returns
returns c f a b d e =
    let fallen = λ (z : ℤ). clip1 (pos 0 -ℤ z) in
    let p = cast_small (omega arith) c.requires.first ∙ a in
    let q = cast_small (omega arith) c.requires.second ∙ b in
    let r = cast_small (omega arith) c.requires.third ∙ d in
    let s = cast_small (omega arith) c.requires.fourth ∙ e in
    record {
      rises = c.spread.ensures (λ k. clip1 (f k)) (c.rise.ensures ∙ ap clip1 p) (c.rise-2.ensures ∙ ap clip1 q) (c.rise-3.ensures ∙ ap clip1 r) (c.rise-4.ensures ∙ ap clip1 s);
      falls = c.spread-2.ensures (λ k. clip1 (pos 0 -ℤ f k)) (c.fall.ensures ∙ ap fallen p) (c.fall-2.ensures ∙ ap fallen q) (c.fall-3.ensures ∙ ap fallen r) (c.fall-4.ensures ∙ ap fallen s);
    }
