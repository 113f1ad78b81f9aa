use Rattle.avc_intra.proofs.Predictions.{pos, negsuc, refl, top, left_of, mean_of_three-swap}
use Rattle.avc_intra.proofs.directional.diagonal_down_right.Goals as goal

pub returns : goal.returns
returns c p e =
    let corner = p (negsuc 0) (negsuc 0) in
    rw (
      c.triples-t.ensures,
      e,
      mean_of_three-swap (left_of p (pos 3)) (left_of p (pos 2)) (left_of p (pos 1)),
      mean_of_three-swap (left_of p (pos 2)) (left_of p (pos 1)) (left_of p (pos 0)),
      mean_of_three-swap (left_of p (pos 1)) (left_of p (pos 0)) corner,
      mean_of_three-swap (left_of p (pos 0)) corner (top p (pos 0)),
    ) refl
