use Rattle.avc_info.proofs.telling.tell_in.Goals as goal

pub returns-in-Units : goal.returns-in-Units
returns-in-Units g c = rw c.in-Units.is c.units.ensures

pub returns-in-Headers : goal.returns-in-Headers
returns-in-Headers g c = rw c.in-Headers.is c.headers.ensures

pub returns-in-Pieces : goal.returns-in-Pieces
returns-in-Pieces g c = rw c.in-Pieces.is c.pieces.ensures

pub returns-in-Info : goal.returns-in-Info
returns-in-Info g c = rw c.in-Info.is c.info.ensures
