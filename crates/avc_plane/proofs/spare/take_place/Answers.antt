use Rattle.avc_plane.proofs.PlaneMaps.{sym}
use Rattle.avc_plane.proofs.SparePlaces.{taken_away}
use Rattle.avc_plane.proofs.spare.take_place.Goals as goal

pub returns-clause-count : goal.returns-clause-count
returns-clause-count g c = λ width height.
    sym (taken_away width height c.args.closed.now.items c.swap_pop.new.self.items c.args.place c.in_ok-swap_pop.field-0
    (sym c.in_ok-swap_pop.ensures.value) c.in_ok-swap_pop.ensures.items)
