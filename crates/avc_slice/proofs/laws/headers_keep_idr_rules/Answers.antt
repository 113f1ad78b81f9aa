use Rattle.avc_slice.proofs.ReadUnder.{header-read}
use Rattle.avc_slice.proofs.laws.headers_keep_idr_rules.Goals as goal

pub returns : goal.returns
returns c = λ header sets rbsp h e.
    let within = (header-read header sets rbsp h e).kept.within in
    record { intra = within.intra; reference = within.reference; marking = within.marking }
