use Rattle.std.proofs.Common.{ℕ, ◌≡◌, ◌++◌, ◌+◌, List, length, slice_index, arith, ap, ◌∙◌}
use Rattle.std.specs.List.{range_with_len}
use lib.Lanes.{pick_l}
use Rattle.std.proofs.lemmas.Simd.{pick_l_whole}
use Rattle.std.proofs.lemmas.List.{length-append, get_or_append_left, get_or-append_right}
use Rattle.avc_edges.proofs.pair.sixteen.Goals as goal

-- all of two lists of eight
whole : (xs ys : List ℕ) → length xs ≡ 8 → length ys ≡ 8 → pick_l 0 (xs ++ ys) (range_with_len 0 16) ≡ xs ++ ys
whole xs ys lx ly = pick_l_whole 0 (xs ++ ys) 16 (grind (arith, length-append, lx, ly))

pub returns-clause-first : goal.returns-clause-first
returns-clause-first c k low =
    ap (λ (v : List ℕ). slice_index v k) (whole c.args.first c.args.second c.requires.first c.requires.second)
    ∙ get_or_append_left c.args.first c.args.second 0 k (omega (arith, c.requires.first))

pub returns-clause-second : goal.returns-clause-second
returns-clause-second c k low =
    ap (λ (v : List ℕ). slice_index v (8 + k)) (whole c.args.first c.args.second c.requires.first c.requires.second)
    ∙ get_or-append_right c.args.first c.args.second 8 (8 + k) 0 c.requires.first (omega arith)
    ∙ ap (λ (i : ℕ). slice_index c.args.second i) (omega arith)
