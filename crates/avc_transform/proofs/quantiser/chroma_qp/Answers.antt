use Rattle.avc_transform.proofs.Residuals.{◌≡◌, ◌+ℤ◌, ◌∙◌, ℤ, ap, pos, nat_abs, of_z, to_z, w16, arith, ints, clip3, chroma_qp_at}
use Rattle.avc_transform.proofs.Residuals.{int_max, int_min, chroma_table, chroma_qp_small}
use Rattle.avc_transform.proofs.quantiser.chroma_qp.Goals as goal

held : (s : ℤ) → int_max (pos 0) (int_min s (pos 51)) ≡ clip3 (pos 0) (pos 51) s
held s = grind (arith, ints)

pub returns-clause-value : goal.returns-clause-value
returns-clause-value c =
    let sum : to_z w16 (of_z w16 (to_z w16 (of_z w16 c.from.result) +ℤ to_z w16 (of_z w16 c.from-2.result))) ≡ pos c.args.qp +ℤ c.args.offset = omega (arith, ints) in
    let index = c.clamp-index.result in
    let same : to_z w16 (of_z w16 index) ≡ clip3 (pos 0) (pos 51) (pos c.args.qp +ℤ c.args.offset) =
    omega (arith, ints) ∙ c.clamp-index.ensures.value ∙ ap (λ s. int_max (pos 0) (int_min s (pos 51))) sum ∙ held (pos c.args.qp +ℤ c.args.offset) in
    chroma_table (nat_abs (to_z w16 (of_z w16 index))) (omega (arith, ints))
    ∙ ap (λ (z : ℤ). chroma_qp_at (nat_abs z)) same

pub returns-clause-range : goal.returns-clause-range
returns-clause-range c =
    let small = chroma_qp_small (nat_abs (to_z w16 (of_z w16 c.clamp-index.result))) (omega (arith, ints)) in
    omega arith
