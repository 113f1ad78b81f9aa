use Rattle.avc_picture_core.proofs.InterTiles.{rules, ◌≡◌, ◌+◌, ◌*◌, ◌<◌, ◌≤◌, [], ℕ, ℤ, List, refl, slice_index_or, arith, Plane, block_at, block_x, block_y, residual4x4, luma_tile}
use Rattle.avc_picture_core.proofs.InterTiles.{residual_by_levels, added_all, added_more, added_none, AddedBefore}
use Rattle.avc_picture_core.specs.Residuals.{with_residual}
use Rattle.avc_picture_core.proofs.residual.add_luma_residual.Goals as goal

counted : (P : ℕ → Type 0) (m n : ℕ) → m ≡ n → P m → P n
counted P m n e p = rw (← e) p

module _ (s : Plane) (column row left top qp : ℕ) (blocks : List (List ℤ)) (columns : 16 * column + 16 ≤ s.width) (rows : 16 * row + 16 ≤ s.height) where
  abbrev before : Plane → ℕ → Type 0
  before p k = AddedBefore s p 16 column row left top block_at (residual_by_levels qp blocks) k

  one_more : (cur new : Plane) (k : ℕ) → k < 16 → before cur k → new ≡ with_residual cur (left + block_x k) (top + block_y k) 4 4 (residual4x4 qp (slice_index_or blocks k []))
      → before new (k + 1)
  one_more cur new k few b added =
      added_more s 16 column row left top block_at (residual_by_levels qp blocks) columns rows cur new k (block_x k) (block_y k) (residual4x4 qp (slice_index_or blocks k []))
      b (luma_tile k (block_x k) (block_y k) few refl refl) (λ i j. refl) added

  four_more : (q : ℕ) → q < 4 → (p0 p1 p2 p3 p4 : Plane) → before p0 (4 * q)
      → p1 ≡ with_residual p0 (left + block_x (4 * q)) (top + block_y (4 * q)) 4 4 (residual4x4 qp (slice_index_or blocks (4 * q) []))
      → p2 ≡ with_residual p1 (left + block_x (4 * q + 1)) (top + block_y (4 * q + 1)) 4 4 (residual4x4 qp (slice_index_or blocks (4 * q + 1) []))
      → p3 ≡ with_residual p2 (left + block_x (4 * q + 2)) (top + block_y (4 * q + 2)) 4 4 (residual4x4 qp (slice_index_or blocks (4 * q + 2) []))
      → p4 ≡ with_residual p3 (left + block_x (4 * q + 3)) (top + block_y (4 * q + 3)) 4 4 (residual4x4 qp (slice_index_or blocks (4 * q + 3) []))
      → before p4 (4 * (q + 1))
  four_more q few p0 p1 p2 p3 p4 b e1 e2 e3 e4 =
      let b1 = one_more p0 p1 (4 * q) (omega (arith, few)) b e1 in
      let b2 = counted (before p2) (4 * q + 1 + 1) (4 * q + 2) (omega arith) (one_more p1 p2 (4 * q + 1) (omega (arith, few)) b1 e2) in
      let b3 = counted (before p3) (4 * q + 2 + 1) (4 * q + 3) (omega arith) (one_more p2 p3 (4 * q + 2) (omega (arith, few)) b2 e3) in
      counted (before p4) (4 * q + 3 + 1) (4 * (q + 1)) (omega arith) (one_more p3 p4 (4 * q + 3) (omega (arith, few)) b3 e4)

pub loop-quarter-init : goal.loop-quarter-init
loop-quarter-init g c = search (rules, added_none)

pub loop-quarter-preserved : goal.loop-quarter-preserved
loop-quarter-preserved g c =
    let a = c.args in
    let q = c.loop-quarter.quarter in
    four_more a.plane.now a.place.column a.place.row (16 * a.place.column) (16 * a.place.row) a.qp.value a.levels.blocks.now.luma c.requires.macroblock.columns c.requires.macroblock.rows q c.loop-quarter-test.true
    c.loop-quarter.plane c.add_numbered.new.plane c.add_numbered-in-loop-quarter.new.plane c.add_numbered-in-loop-quarter-2.new.plane c.add_numbered-in-loop-quarter-3.new.plane
    c.loop-quarter.invariant c.add_numbered.ensures.block c.add_numbered-in-loop-quarter.ensures.block c.add_numbered-in-loop-quarter-2.ensures.block c.add_numbered-in-loop-quarter-3.ensures.block

pub returns : goal.returns
returns g c =
    added_all c.args.plane.now 16 c.args.place.column c.args.place.row (16 * c.args.place.column) (16 * c.args.place.row) block_at (residual_by_levels c.args.qp.value c.args.levels.blocks.now.luma) c.loop-quarter.plane (4 * c.loop-quarter.quarter) c.loop-quarter.invariant
    (λ x y column row. omega (arith, c.loop-quarter-test.false))
