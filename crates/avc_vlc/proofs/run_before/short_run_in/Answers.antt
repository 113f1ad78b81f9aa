use Rattle.avc_vlc.proofs.Entries.{short_there}
use Rattle.avc_vlc.proofs.run_before.short_run_in.Goals as goal

pub returns : goal.returns
returns c = λ are. short_there c.args.tables.now c.args.zeros_left c.args.bits _ are c.requires.few c.requires.three
