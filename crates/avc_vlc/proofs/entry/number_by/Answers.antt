use Rattle.avc_vlc.proofs.Entries.{reader_bits}
use Rattle.avc_vlc.proofs.entry.number_by.Goals as goal

pub returns-then-has_many-clause-read : goal.returns-then-has_many-clause-read
returns-then-has_many-clause-read c = λ table indexed.
    c.read.ensures.read table (c.number_at.ensures.decides table (reader_bits c.args.reader.now).ahead indexed c.look-code.ensures)
