use Rattle.avc_console.proofs.Texts.{codes, ap, name_text, stopped_last}
use Rattle.avc_console.proofs.messages.write_name.Goals as goal

pub returns-in_ok-write_text-in-Some-clause-err : goal.returns-in_ok-write_text-in-Some-clause-err
returns-in_ok-write_text-in-Some-clause-err g c =
    stopped_last c.write_text-in-Some.result _ _ _ (codes ": ") c.in-Some.name.now _ (ap name_text c.in-Some.is) c.in_ok-write_text-in-Some.ensures.ok c.write_text-in-Some.ensures.err
