use Rattle.avc_neigh.proofs.Found.{◌≡◌, ◌∙◌, Option, None, get_or, set, take, refl, ap, ℕ, info_of, chosen_mode, prediction_near}
use Rattle.avc_neigh.specs.declared.neighbour_info.NearMode.TheVariants.{Mode as mode}
use Rattle.avc_neigh.proofs.modes.set_mode.Goals as goal

pub returns : goal.returns
returns c =
    let a = c.args in
    let x : Option ℕ = get_or a.coded.now a.k None in
    let predicted : c.predicted.result ≡ prediction_near (info_of a.neighbours.now) a.constrained_intra_pred (take a.k a.modes.now) a.k =
    rw (c.predicted.ensures, c.brought-left.ensures, c.mode_at_left.ensures, c.brought-above.ensures, c.mode_above.ensures) refl in
    ap (λ v. set a.modes.now a.k (mode v)) (c.chosen.ensures ∙ ap (λ p. chosen_mode p x) predicted)
