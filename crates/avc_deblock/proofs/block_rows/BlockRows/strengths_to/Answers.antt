use Rattle.avc_deblock.proofs.FilteredPictures.{◌≡◌, ◌∙◌, ◌∷◌, [], ◌*◌, ◌+◌, ◌==◌, ℕ, List, slice_index_or, length, arith, rules, refl, ap, same_below, nat_le, nat_abs, ◌-ℤ◌}
use Rattle.avc_deblock.specs.FilterInfo.{vector_at}
use Rattle.avc_deblock.proofs.BlocksInRows.{far_is, strength_by, picked}
use Rattle.avc_deblock.proofs.block_rows.BlockRows.strengths_to.Goals as goal

abbrev x_lanes : List ℕ
x_lanes = 0 ∷ 2 ∷ 4 ∷ 6 ∷ 8 ∷ 10 ∷ 12 ∷ 14 ∷ 16 ∷ 18 ∷ 20 ∷ 22 ∷ 24 ∷ 26 ∷ 28 ∷ 30 ∷ []

abbrev y_lanes : List ℕ
y_lanes = 1 ∷ 3 ∷ 5 ∷ 7 ∷ 9 ∷ 11 ∷ 13 ∷ 15 ∷ 17 ∷ 19 ∷ 21 ∷ 23 ∷ 25 ∷ 27 ∷ 29 ∷ 31 ∷ []

pub returns : goal.returns
returns c place f g j k low p q =
    let over = c.excesses-over.result in
    let long : length over ≡ 32 = search rules in
    let x = picked over x_lanes place (2 * place) low (same_below 16 (λ i. slice_index_or x_lanes i 0) (λ i. 2 * i) refl place low) (omega (arith, low, long))
    ∙ c.excesses-over.ensures (2 * place) (omega (arith, low)) in
    let y = picked over y_lanes place (2 * place + 1) low (same_below 16 (λ i. slice_index_or y_lanes i 0) (λ i. 2 * i + 1) refl place low) (omega (arith, low, long))
    ∙ c.excesses-over.ensures (2 * place + 1) (omega (arith, low)) in
    let u = vector_at f j in
    let v = vector_at g k in
    rw (← p.picture, ← q.picture)
    (strength_by _ _ _ _ (slice_index_or c.args.self.pictures place 0) (slice_index_or c.args.q.pictures place 0) _ _ (nat_le 4 (nat_abs (u.x -ℤ v.x))) (nat_le 4 (nat_abs (u.y -ℤ v.y)))
    _ _ _ _ _ (c.strengths_by.ensures place low) (c.greater.ensures place low) (c.greater-moves.ensures place low) (c.greater-far.ensures place low) (c.distances.ensures place low)
    p.coded q.coded (ap (λ n. n == 0) x ∙ far_is _ _ u.x v.x p.x q.x) (ap (λ n. n == 0) y ∙ far_is _ _ u.y v.y p.y q.y))
