use Rattle.avc_laws.proofs.Resuming.{starts_anew}
use Rattle.avc_laws.proofs.resumed_streams_decode_alike.Goals as goal

pub returns : goal.returns
returns c =
    starts_anew
    c.units_stay.ensures
    c.written_units_stand.ensures
    c.units_are_numbered.ensures
    c.sets_are_in_force_again.ensures
    c.sets_in_force_are_units.ensures
    c.sets_in_force_are_few.ensures
    c.sets_come_alike.ensures
