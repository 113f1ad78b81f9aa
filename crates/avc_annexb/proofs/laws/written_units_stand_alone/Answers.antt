use Rattle.avc_annexb.proofs.Written.{written_units_stand_alone_so}
use Rattle.avc_annexb.proofs.laws.written_units_stand_alone.Goals as goal

pub returns : goal.returns
returns c = written_units_stand_alone_so
