use Rattle.std.proofs.Common.{Err}
use Rattle.avc_console.specs.declared.fault.RunFault.TheVariants.{Memory}
use Rattle.avc_macroblocks.proofs.Listed.{untold}
use Rattle.avc_macroblocks.specs.Listed.{asked_by}
use Rattle.avc_macroblocks.proofs.program.macroblocks.Goals as goal

pub returns-in-Err-absence_text : goal.returns-in-Err-absence_text
returns-in-Err-absence_text g c = record {
  run = Err Memory;
  lists = untold (asked_by c.args.listing) _ _ _ _ c.in-Ok.found c.in-Ok.ensures;
  status_is = c.fail.ensures.status;
  told = c.fail.ensures.told;
}
