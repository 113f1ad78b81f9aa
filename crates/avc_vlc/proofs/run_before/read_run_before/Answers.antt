use Rattle.avc_vlc.proofs.Entries.{reader_bits}
use Rattle.avc_vlc.proofs.run_before.read_run_before.Goals as goal

pub read_coded-requires : goal.read_coded-requires
read_coded-requires c = c.run_entry.ensures (reader_bits c.args.reader.now).ahead c.look-code.ensures
