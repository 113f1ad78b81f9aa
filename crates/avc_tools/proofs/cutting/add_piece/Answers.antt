use Rattle.avc_tools.proofs.Taking.{◌++◌, ◌∷◌, [], ap, sym, ◌∙◌, append-nil, true, false, piece_if}
use Rattle.avc_tools.proofs.cutting.add_piece.Goals as goal

pub returns-in_ok-push : goal.returns-in_ok-push
returns-in_ok-push c =
    c.in_ok-push.ensures.items ∙ ap (λ piece. c.args.all.now.items ++ piece ∷ []) (c.from_vec.ensures ∙ c.in_ok-piece.ensures)
    ∙ ap (λ pieces. c.args.all.now.items ++ pieces) (sym (piece_if c.args.units.now c.args.place c.args.starts.now true c.requires.place (sym c.if-starts-place.true) c.requires.starts))

pub returns-else-starts-place : goal.returns-else-starts-place
returns-else-starts-place c =
    sym (append-nil c.args.all.now.items)
    ∙ ap (λ pieces. c.args.all.now.items ++ pieces) (sym (piece_if c.args.units.now c.args.place c.args.starts.now false c.requires.place (sym c.if-starts-place.false) c.requires.starts))
