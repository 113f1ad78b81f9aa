use Rattle.avc_vlc.proofs.Entries.{◌<◌, length, arith, rules, reader_bits, skip-ok, skip-err}
use Rattle.avc_vlc.proofs.code.has.Goals as goal

pub returns-in-Ok : goal.returns-in-Ok
returns-in-Ok c = ((λ yes. skip-ok c.args.count (reader_bits c.args.reader.now) _ c.in-Ok.ensures.read.0), (λ long. search rules))

pub returns-in-Err : goal.returns-in-Err
returns-in-Err c =
    let short : length (reader_bits c.args.reader.now).ahead < c.args.count = skip-err c.args.count (reader_bits c.args.reader.now) _ c.in-Err.ensures.read in
    ((λ no. absurd (search rules)), (λ long. absurd (omega arith)))
