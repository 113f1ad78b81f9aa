use Rattle.avc_transform.proofs.Residuals.{ℕ, ℤ, ◌≡◌, ◌+◌, ◌*◌, ◌/◌, ◌%◌, ◌<◌, arith, ◌∙◌, to_z, of_z, w32, List, [], ◌∷◌, pos}
use Rattle.avc_transform.proofs.Residuals.{slice_index_or, IsBelow, below_four, place_of_four, cast_small, still_small}
use Rattle.avc_transform.proofs.lines.in_rows.Goals as goal

-- a number of a list, as it is put into another
abbrev at : List ℤ → ℕ → ℤ
at l k = to_z w32 (of_z w32 (slice_index_or l k (pos 0)))

-- four lists of four one after another
abbrev joined : (a b c d : List ℤ) → List ℤ
joined a b c d =
    at a 0 ∷ at a 1 ∷ at a 2 ∷ at a 3 ∷ at b 0 ∷ at b 1 ∷ at b 2 ∷ at b 3 ∷ at c 0 ∷ at c 1 ∷ at c 2 ∷ at c 3 ∷ at d 0 ∷ at d 1 ∷ at d 2 ∷ at d 3 ∷ []

-- what holds of each number of the four holds by column and row
by_rows : (P : ℕ → ℕ → ℤ → Type 0) (a b c d : List ℤ)
    → ((x : ℕ) → x < 4 → P x 0 (at a x)) → ((x : ℕ) → x < 4 → P x 1 (at b x)) → ((x : ℕ) → x < 4 → P x 2 (at c x)) → ((x : ℕ) → x < 4 → P x 3 (at d x))
    → (x y : ℕ) → x < 4 → y < 4 → P x y (slice_index_or (joined a b c d) (4 * y + x) (pos 0))
by_rows P a b c d pa pb pc pd x y column =
    let Q : ℕ → ℕ → Type 0 = λ x y. P x y (slice_index_or (joined a b c d) (4 * y + x) (pos 0)) in
    below_four (Q x)
    (below_four (λ x. Q x 0) (pa 0 (omega arith)) (pa 1 (omega arith)) (pa 2 (omega arith)) (pa 3 (omega arith)) x column)
    (below_four (λ x. Q x 1) (pb 0 (omega arith)) (pb 1 (omega arith)) (pb 2 (omega arith)) (pb 3 (omega arith)) x column)
    (below_four (λ x. Q x 2) (pc 0 (omega arith)) (pc 1 (omega arith)) (pc 2 (omega arith)) (pc 3 (omega arith)) x column)
    (below_four (λ x. Q x 3) (pd 0 (omega arith)) (pd 1 (omega arith)) (pd 2 (omega arith)) (pd 3 (omega arith)) x column) y

pub returns : goal.returns
returns c =
    let r = c.requires in
    record {
      values = λ f l.
          by_rows (λ x y v. v ≡ f y x) _ _ _ _
          (λ x h. cast_small (omega arith) (r.zeroth x h) ∙ l.zeroth x h) (λ x h. cast_small (omega arith) (r.first x h) ∙ l.first x h)
          (λ x h. cast_small (omega arith) (r.second x h) ∙ l.second x h) (λ x h. cast_small (omega arith) (r.third x h) ∙ l.third x h);
      small = λ n l i h.
          rw (place_of_four i) (by_rows (λ x y v. IsBelow n v) _ _ _ _
          (λ x h. still_small (omega arith) (r.zeroth x h) (l.zeroth x h)) (λ x h. still_small (omega arith) (r.first x h) (l.first x h))
          (λ x h. still_small (omega arith) (r.second x h) (l.second x h)) (λ x h. still_small (omega arith) (r.third x h) (l.third x h))
          (i % 4) (i / 4) (omega arith) (omega arith));
    }
