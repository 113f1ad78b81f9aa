use Rattle.avc_vlc.proofs.Entries.{arith, agree_number, front_below}
use Rattle.avc_vlc.proofs.code.Code.front.Goals as goal

pub returns-clause-below : goal.returns-clause-below
returns-clause-below g c = front_below c.args.self.word c.args.n (omega arith) (omega arith)

pub returns-clause-agrees : goal.returns-clause-agrees
returns-clause-agrees g c = λ ahead is. record { agrees = agree_number c.args.self.word c.args.n ahead (omega arith) is }
