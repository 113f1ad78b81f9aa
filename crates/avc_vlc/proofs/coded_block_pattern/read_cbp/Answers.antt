use Rattle.avc_vlc.proofs.Entries.{arith, reader_bits, pattern_refused}
use Rattle.avc_vlc.proofs.coded_block_pattern.read_cbp.Goals as goal

pub returns-then-number-gt47-clause-read : goal.returns-then-number-gt47-clause-read
returns-then-number-gt47-clause-read c = pattern_refused c.args.intra c.in_ok-number.number (reader_bits c.args.reader.now) (reader_bits c.ue.new.self) c.in_ok-number.ensures.read.0 (omega arith)
