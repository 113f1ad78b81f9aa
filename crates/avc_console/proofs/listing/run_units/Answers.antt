use Rattle.avc_console.proofs.Texts.{lists}
use Rattle.avc_console.proofs.listing.run_units.Goals as goal

pub returns : goal.returns
returns g c = lists _ _ _ _ _ _ _ c.write_stream.ensures.ok c.write_stream.ensures.err
