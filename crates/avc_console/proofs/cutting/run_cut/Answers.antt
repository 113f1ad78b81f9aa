use Rattle.avc_console.proofs.Texts.{cuts, no_piece_begun}
use Rattle.avc_console.proofs.cutting.run_cut.Goals as goal

pub returns : goal.returns
returns g c =
    cuts c.args.number c.in_ok-piece.piece c.write_stream.new.text _ _ _ _ c.has_begun.result c.pieces_come_whole.ensures.whole c.pieces_come_whole.ensures.stay
    c.in_ok-piece.ensures c.in_ok-write_stream.ensures.number c.in_ok-write_stream.ensures.ok c.has_begun.ensures

pub returns-in_err-piece : goal.returns-in_err-piece
returns-in_err-piece g c = no_piece_begun c.args.number _ _ c.from_residual.result c.from_residual.ensures.1
