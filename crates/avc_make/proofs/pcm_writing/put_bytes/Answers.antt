use Rattle.avc_make.proofs.Slices.{any_each}
use Rattle.avc_make.proofs.pcm_writing.put_bytes.Goals as goal

pub put_each-requires-clause-fits : goal.put_each-requires-clause-fits
put_each-requires-clause-fits c = any_each c.args.bytes.now
