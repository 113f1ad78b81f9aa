use Rattle.avc_vlc.proofs.Entries.{arith, refl, reader_bits, run_table, reads_word, reads_cut, run_read}
use Rattle.avc_vlc.proofs.run_before.read_coded.Goals as goal

pub returns-in-Ok-clause-read : goal.returns-in-Ok-clause-read
returns-in-Ok-clause-read c =
    let b = reader_bits c.args.reader.now in
    (run_read c.args.zeros_left _ b (reader_bits c.skip.new.self) (reads_word (run_table c.args.zeros_left) c.args.entry c.from.result b (reader_bits c.skip.new.self) _ c.requires c.from.ensures c.in-Ok.ensures.read.0 c.in-Some.is) (omega arith), c.in-Ok.ensures.read.1)

pub returns-in-Err-clause-read : goal.returns-in-Err-clause-read
returns-in-Err-clause-read c =
    let b = reader_bits c.args.reader.now in
    rw (reads_cut (run_table c.args.zeros_left) c.args.entry c.from.result b c.in-Err.fault c.requires c.from.ensures c.in-Err.ensures.read) refl
