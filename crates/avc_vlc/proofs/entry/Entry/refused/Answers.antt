use Rattle.avc_vlc.proofs.Entries.{reader_bits, reads_none, reads_cut}
use Rattle.avc_vlc.proofs.entry.Entry.refused.Goals as goal

pub returns-in-Ok : goal.returns-in-Ok
returns-in-Ok g c = λ table d.
    reads_none table c.args.self c.from.result (reader_bits c.args.reader) (reader_bits c.skip.new.self) d c.from.ensures c.in-Ok.ensures.read.0 c.requires

pub returns-in-Err : goal.returns-in-Err
returns-in-Err g c = λ table d.
    reads_cut table c.args.self c.from.result (reader_bits c.args.reader) c.in-Err.fault d c.from.ensures c.in-Err.ensures.read
