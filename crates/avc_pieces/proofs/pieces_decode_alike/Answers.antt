use Rattle.avc_pieces.proofs.Pieces.{pieces_decode_alike_so}
use Rattle.avc_pieces.proofs.pieces_decode_alike.Goals as goal

pub returns : goal.returns
returns c =
    pieces_decode_alike_so c.sets_are_in_force_again.ensures c.sets_in_force_are_units.ensures c.events_keep_but_numbers.ensures c.start_units_begin_anew.ensures
    c.written_units_stand_alone.ensures c.units_are_within.ensures c.units_are_whole.ensures
