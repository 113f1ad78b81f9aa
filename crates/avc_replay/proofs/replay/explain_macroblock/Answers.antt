use Rattle.avc_decoder.specs.Machine.{Machine}
use Rattle.avc_replay.specs.Replaying.{IsCutFrom}
use Rattle.avc_replay.specs.Tracing.{IsExplained}
use Rattle.avc_stages.specs.declared.text.Explained.{Explained}
use Rattle.avc_replay.proofs.Opened.{if_some, opened, some_of}
use Rattle.avc_replay.proofs.replay.explain_macroblock.Goals as goal

pub returns : goal.returns
returns g c =
    let lent = c.in-Some-open_picture.open in
    let o = opened c.in-Some.decoder c.open_picture.result lent c.open_picture.ensures c.in-Some-open_picture.is in
    let cut = some_of (λ (m : Machine). IsCutFrom c.args.at (g.R.Read.remaining c.args.reader.now) (g.R.Read.remaining c.decode_up_to.new.reader) m) c.in_ok-decoder.field-0 c.in-Some.decoder c.in-Some.is c.in_ok-decoder.ensures in
    if_some (λ (e : Explained). IsExplained c.args.address c.args.pairs.now lent.decoder.now lent.frames.now e) _ c.in_ok-explain.field-0
    (λ e told. record { machine = c.in-Some.decoder; picture = o.picture; decoding = lent.decoder.now; frames = lent.frames.now; cut = cut; opened = o.is; decoded = o.decoded; explained = told })
    c.in_ok-explain.ensures
