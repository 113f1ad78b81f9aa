use Rattle.avc_transform.proofs.Residuals.{ℕ, ◌<◌, ◌+◌, ◌*◌, ◌/◌, ◌%◌, arith, rules, pos, slice_index_or, ap, small_cast, moves_same}
use Rattle.avc_transform.proofs.construction.add_to_square.Goals as goal

pub moves_of_four-upper-requires : goal.moves_of_four-upper-requires
moves_of_four-upper-requires c =
    let small = λ (k : ℕ) (h : k < 4). small_cast (omega arith) (c.requires k h) in
    record { first = small 0 (omega arith); second = small 1 (omega arith); third = small 0 (omega arith); fourth = small 1 (omega arith) }

pub moves_of_four-lower-requires : goal.moves_of_four-lower-requires
moves_of_four-lower-requires c =
    let small = λ (k : ℕ) (h : k < 4). small_cast (omega arith) (c.requires k h) in
    record { first = small 2 (omega arith); second = small 3 (omega arith); third = small 2 (omega arith); fourth = small 3 (omega arith) }

pub returns : goal.returns
returns c =
    let four = λ (k : ℕ). slice_index_or c.args.residuals k (pos 0) in
    let f = λ (i : ℕ). four (2 * (i / 32) + i % 8 / 4) in
    let upper = c.moves_of_four-upper.ensures (λ k. four (k % 2)) (search rules) (search rules) (search rules) (search rules) in
    let lower = c.moves_of_four-lower.ensures (λ k. four (2 + k % 2)) (search rules) (search rules) (search rules) (search rules) in
    let u = c.moves_of_four-upper.result in
    let l = c.moves_of_four-lower.result in
    c.moved_halves.ensures f
    (moves_same u (λ i. four (i / 4 % 2)) (λ i. f (0 + i)) upper (λ i low. ap four (omega arith)))
    (moves_same u (λ i. four (i / 4 % 2)) (λ i. f (16 + i)) upper (λ i low. ap four (omega arith)))
    (moves_same l (λ i. four (2 + i / 4 % 2)) (λ i. f (32 + i)) lower (λ i low. ap four (omega arith)))
    (moves_same l (λ i. four (2 + i / 4 % 2)) (λ i. f (48 + i)) lower (λ i low. ap four (omega arith)))
