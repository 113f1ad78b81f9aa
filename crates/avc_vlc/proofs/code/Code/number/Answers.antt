use Rattle.avc_vlc.proofs.Entries.{arith, number_is}
use Rattle.avc_vlc.proofs.code.Code.number.Goals as goal

pub returns : goal.returns
returns g c = number_is c.args.self.word c.args.self.count (omega (arith, c.args.self.few, c.args.self.narrow)) (omega arith)
