use Rattle.avc_inter.proofs.SixRows.{rows_room}
use Rattle.avc_inter.proofs.luma_prediction.count_of.Goals as goal

pub returns-clause-room : goal.returns-clause-room
returns-clause-room c long enough = rows_room c.args.columns c.requires.lanes _ long enough
