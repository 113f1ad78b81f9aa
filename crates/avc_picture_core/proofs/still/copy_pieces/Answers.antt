use Rattle.std.specs.Prelude.{◌≡◌, ◌*◌, ◌+◌, ◌-◌, ◌/◌}
use Rattle.avc_picture_core.proofs.InterTiles.{arith, subst}
use Rattle.avc_picture_core.specs.Still.{IsPieceOf}
use Rattle.avc_picture_core.proofs.StillMacroblocks.{piece_more}
use Rattle.avc_picture_core.proofs.still.copy_pieces.Goals as goal

pub loop-piece-preserved : goal.loop-piece-preserved
loop-piece-preserved c =
    let a = c.args in
    let n = c.loop-piece.piece * 256 in
    let more : n + 256 ≡ (c.loop-piece.piece + 1) * 256 = omega arith in
    subst (λ m. IsPieceOf a.from.now a.start m a.rows.now c.copy_piece.new.rows) more
    (piece_more a.from.now a.start n 256 a.rows.now c.loop-piece.rows c.copy_piece.new.rows c.loop-piece.invariant c.copy_piece.ensures)

pub returns : goal.returns
returns c =
    let a = c.args in
    let n = a.count / 256 * 256 in
    let all : n + (a.count - n) ≡ a.count = omega arith in
    let done : c.loop-piece.piece * 256 ≡ n = omega (arith, c.loop-piece-test.false, c.loop-piece.auto.piece-end) in
    let so_far = subst (λ m. IsPieceOf a.from.now a.start m a.rows.now c.loop-piece.rows) done c.loop-piece.invariant in
    subst (λ m. IsPieceOf a.from.now a.start m a.rows.now c.copy_piece-2.new.rows) all
    (piece_more a.from.now a.start n (a.count - n) a.rows.now c.loop-piece.rows c.copy_piece-2.new.rows so_far c.copy_piece-2.ensures)
