use Rattle.avc_vlc.proofs.Entries.{reader_bits, reads_word, reads_cut}
use Rattle.avc_vlc.proofs.entry.Entry.read.Goals as goal

pub returns-in-Ok-clause-read : goal.returns-in-Ok-clause-read
returns-in-Ok-clause-read g c = λ table d.
    (reads_word table c.args.self c.from.result (reader_bits c.args.reader.now) (reader_bits c.skip.new.self) c.in-Some.value d c.from.ensures c.in-Ok.ensures.read.0 c.in-Some.is, c.in-Ok.ensures.read.1)

pub returns-in-Err-clause-read : goal.returns-in-Err-clause-read
returns-in-Err-clause-read g c = λ table d.
    reads_cut table c.args.self c.from.result (reader_bits c.args.reader.now) c.in-Err.fault d c.from.ensures c.in-Err.ensures.read
