use Rattle.avc_tools.proofs.Taking.{◌++◌, ◌∙◌, ap₂, string_bytes, codes, and_number}
use Rattle.avc_tools.proofs.headers.add_pps_flags.Goals as goal

pub returns : goal.returns
returns c =
    c.in_ok-write.ensures.bytes
    ∙ ap₂ (λ m n. string_bytes c.args.text.now ++ ((codes " control" ++ and_number m) ++ (codes " constrained" ++ and_number n)))
    c.flag_number-control.ensures c.flag_number-constrained.ensures
