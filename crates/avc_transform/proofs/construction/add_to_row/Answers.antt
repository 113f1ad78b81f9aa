use Rattle.avc_transform.proofs.Residuals.{ℕ, ◌<◌, ◌+◌, ◌/◌, ◌%◌, arith, rules, pos, slice_index_or, ap, small_cast, moves_same}
use Rattle.avc_transform.proofs.construction.add_to_row.Goals as goal

pub moves_of_four-moves-requires : goal.moves_of_four-moves-requires
moves_of_four-moves-requires c =
    let small = λ (k : ℕ) (h : k < 4). small_cast (omega arith) (c.requires k h) in
    record { first = small 0 (omega arith); second = small 1 (omega arith); third = small 2 (omega arith); fourth = small 3 (omega arith) }

pub returns : goal.returns
returns c =
    let four = λ (k : ℕ). slice_index_or c.args.residuals k (pos 0) in
    let f = λ (i : ℕ). four (i % 16 / 4) in
    let all = c.moves_of_four-moves.ensures four (search rules) (search rules) (search rules) (search rules) in
    let by = λ (i : ℕ). four (i / 4) in
    let m = c.moves_of_four-moves.result in
    c.moved_halves.ensures f
    (moves_same m by (λ i. f (0 + i)) all (λ i low. ap four (omega arith)))
    (moves_same m by (λ i. f (16 + i)) all (λ i low. ap four (omega arith)))
    (moves_same m by (λ i. f (32 + i)) all (λ i low. ap four (omega arith)))
    (moves_same m by (λ i. f (48 + i)) all (λ i low. ap four (omega arith)))
