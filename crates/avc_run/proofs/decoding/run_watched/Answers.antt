use Rattle.avc_run.proofs.Running.{without_front}
use Rattle.avc_run.proofs.decoding.run_watched.Goals as goal

pub returns-clause-decodes : goal.returns-clause-decodes
returns-clause-decodes g c = without_front (g.F.PictureFormat.format c.args.format.now) c.args.output _ _ _ _ _ c.run_behind.result c.run_behind.ensures.decodes
