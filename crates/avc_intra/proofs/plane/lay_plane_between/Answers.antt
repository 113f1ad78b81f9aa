use Rattle.avc_intra.proofs.Predictions.{ℕ, ℤ, List, ◌≡◌, ◌<◌, pos, negsuc, ◌+◌, ◌-◌, ◌*◌, ◌/◌, ◌+ℤ◌, ◌*ℤ◌, ◌>>ℤ◌, to_z, of_z, w32, arith, ap, refl, sym, ◌∙◌, slice_index, IsWithin, cast_within, still_within}
use Rattle.avc_intra.proofs.Predictions.{strided_same, predict_plane, slope-same, gradient, top, left_of, side_of, same_plane, corner_sides}
use Rattle.avc_intra.proofs.plane.lay_plane_between.Goals as goal

pub gradient-across-requires : goal.gradient-across-requires
gradient-across-requires g c =
    let size : g.row.W * 1 < 9223372036854775808 = omega (arith, c.requires.narrow.1) in
    (size, (c.requires.narrow.1, c.requires.weight))

pub gradient-down-requires : goal.gradient-down-requires
gradient-down-requires g c =
    let size : g.row.W * 1 < 9223372036854775808 = omega (arith, c.requires.narrow.1) in
    (size, (c.requires.narrow.1, c.requires.weight))

pub lay_plane-requires : goal.lay_plane-requires
lay_plane-requires g c = record {
  narrow = c.requires.narrow;
  height = still_within (omega arith) c.height_between-height.ensures.small;
  across = still_within (omega arith) c.gradient-across.ensures.small;
  down = still_within (omega arith) c.gradient-down.ensures.small;
  apart = c.requires.apart;
  room = c.requires.room;
}

-- the gradient of a side as it stands in a list is that of the side
of_side : (weight w : ℕ) (f : ℤ → ℕ) (side : List ℕ) (corner : ℕ) (found : ℤ) → ((i : ℕ) → i < w → f (pos i) ≡ slice_index side i) → f (negsuc 0) ≡ corner
    → found ≡ gradient weight (w / 2) (side_of side corner) → IsWithin 5000 found → to_z w32 (of_z w32 found) ≡ gradient weight (w / 2) f
of_side weight w f side corner found samples at_corner value small =
    cast_within (omega arith) small ∙ value
    ∙ ap (λ (s : ℤ). pos weight *ℤ s +ℤ pos 32 >>ℤ 6) (sym (slope-same (w / 2) f (side_of side corner) (λ i low. samples i (omega arith)) at_corner))

ends : {a b d e : ℕ} → a ≡ d → b ≡ e → pos (16 * (a + b)) ≡ pos (16 * (d + e))
ends p q = rw (p, q) refl

pub returns : goal.returns
returns g c p sides shows there =
    let w = g.row.W in
    let has = corner_sides sides there in
    let above = shows.tops has.0 in
    let left = shows.lefts has.1 in
    let corner = shows.at_corner has.2 in
    let a = c.gradient-across.ensures in
    let d = c.gradient-down.ensures in
    let across = of_side g.row.WEIGHT w (top p) _ _ _ above corner a.value a.small in
    let down = of_side g.row.WEIGHT w (left_of p) _ _ _ left corner d.value d.small in
    let last : w - 1 < w = omega (arith, c.requires.narrow.0) in
    let between = c.height_between-height.ensures in
    let height = cast_within (omega arith) between.small ∙ between.value ∙ ends (sym (left (w - 1) last)) (sym (above (w - 1) last)) in
    strided_same w w _ _ _ (predict_plane w g.row.WEIGHT p) _ _ c.lay_plane.ensures (λ x y column row. same_plane (w / 2 - 1) x y _ _ _ _ _ _ height across down)
