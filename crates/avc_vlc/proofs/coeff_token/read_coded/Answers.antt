use Rattle.avc_vlc.proofs.Entries.{token_table, if_token}
use Rattle.avc_vlc.proofs.coeff_token.read_coded.Goals as goal

pub returns-clause-range : goal.returns-clause-range
returns-clause-range c =
    if_token c.args.nc c.read.result c.args.reader.now c.read.new.reader (c.read.ensures.read (token_table c.args.nc) c.requires)
