use Rattle.avc_transform.proofs.Residuals.{◌≡◌, ℕ, ◌*◌, ◌+◌, ◌^◌, ◌<◌, [], ◌∷◌, pos, slice_index_or, to_z, of_z, w32, arith, ◌∙◌, IsBelow}
use Rattle.avc_transform.proofs.Residuals.{level, hadamard_row, chroma_dc_product, below_two, below_four, cast_small, small_cast, level_read, level_below, same_hadamard_row, square_is_row}
use Rattle.avc_transform.proofs.dc.chroma_dc_product.Goals as goal

read : (c : goal.After-across-1) (k : ℕ) → k < 4
    → slice_index_or
    (to_z w32 (of_z w32 c.from.result) ∷ to_z w32 (of_z w32 c.from-2.result) ∷ to_z w32 (of_z w32 c.from-3.result) ∷ to_z w32 (of_z w32 c.from-4.result) ∷ [])
    k (pos 0) ≡ level c.args.levels.now k
read c =
    below_four _
    (level_read _ _ (c.requires 0 (omega arith)) c.from.ensures) (level_read _ _ (c.requires 1 (omega arith)) c.from-2.ensures)
    (level_read _ _ (c.requires 2 (omega arith)) c.from-3.ensures) (level_read _ _ (c.requires 3 (omega arith)) c.from-4.ensures)

small : (c : goal.After-across-1) (k : ℕ) → k < 4 → IsBelow (2 ^ 14) (slice_index_or c.hadamard_row.result k (pos 0))
small c k h =
    c.hadamard_row.ensures.small k (2 ^ 12) h
    (rw (read c 0 (omega arith)) (c.requires 0 (omega arith))) (rw (read c 1 (omega arith)) (c.requires 1 (omega arith)))
    (rw (read c 2 (omega arith)) (c.requires 2 (omega arith))) (rw (read c 3 (omega arith)) (c.requires 3 (omega arith)))

value : (c : goal.After-across-1) (k : ℕ) → k < 4 → to_z w32 (of_z w32 (slice_index_or c.hadamard_row.result k (pos 0))) ≡ hadamard_row (level c.args.levels.now) k
value c k h = cast_small (omega arith) (small c k h) ∙ c.hadamard_row.ensures.values k h ∙ same_hadamard_row _ (level c.args.levels.now) k (read c)

pub hadamard_row-requires : goal.hadamard_row-requires
hadamard_row-requires c = record {
  small0 = level_below _ _ (omega arith) (c.requires 0 (omega arith)) c.from.ensures;
  small1 = level_below _ _ (omega arith) (c.requires 1 (omega arith)) c.from-2.ensures;
  small2 = level_below _ _ (omega arith) (c.requires 2 (omega arith)) c.from-3.ensures;
  small3 = level_below _ _ (omega arith) (c.requires 3 (omega arith)) c.from-4.ensures;
}

pub returns-clause-small : goal.returns-clause-small
returns-clause-small c =
    below_four _
    (small_cast (omega arith) (small c 0 (omega arith))) (small_cast (omega arith) (small c 3 (omega arith)))
    (small_cast (omega arith) (small c 1 (omega arith))) (small_cast (omega arith) (small c 2 (omega arith)))

-- the four products are those of a row of four
pub returns-clause-values : goal.returns-clause-values
returns-clause-values c x y column =
    let r = λ (k : ℕ). to_z w32 (of_z w32 (slice_index_or c.hadamard_row.result k (pos 0))) in
    let P = λ (x y : ℕ). slice_index_or (r 0 ∷ r 3 ∷ r 1 ∷ r 2 ∷ []) (2 * y + x) (pos 0) ≡ chroma_dc_product c.args.levels.now x y in
    let square = square_is_row c.args.levels.now in
    below_two (P x)
    (below_two (λ x. P x 0) (value c 0 (omega arith) ∙ square.0) (value c 3 (omega arith) ∙ square.1) x column)
    (below_two (λ x. P x 1) (value c 1 (omega arith) ∙ square.2) (value c 2 (omega arith) ∙ square.3) x column)
    y
