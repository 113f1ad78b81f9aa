use Rattle.avc_run.proofs.program.decode.Goals as goal

pub returns : goal.returns
returns g c = c.decode_as.ensures
