use Rattle.avc_rbsp.proofs.Reading.{arith, no_start, removed}
use Rattle.avc_rbsp.proofs.laws.escapes_are_removed.Goals as goal

pub returns : goal.returns
returns c = record { rbsp = λ bytes. removed 0 bytes (omega arith); start = no_start }
