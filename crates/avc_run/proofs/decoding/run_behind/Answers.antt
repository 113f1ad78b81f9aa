use Rattle.avc_run.proofs.Running.{by_new}
use Rattle.avc_run.proofs.decoding.run_behind.Goals as goal

pub returns-clause-decodes : goal.returns-clause-decodes
returns-clause-decodes g c = by_new (g.F.PictureFormat.format c.args.format.now) c.args.output c.args.front.now _ _ _ _ _ c.decode_by-run.result c.sharing-decoder.result c.sharing-decoder.ensures c.decode_by-run.ensures.decodes
