use Rattle.avc_vlc.proofs.Entries.{reader_bits}
use Rattle.avc_vlc.proofs.coeff_token.read_coeff_token.Goals as goal

pub read_coded-requires : goal.read_coded-requires
read_coded-requires c = c.token_entry.ensures.decides (reader_bits c.args.reader.now).ahead c.look-code.ensures
