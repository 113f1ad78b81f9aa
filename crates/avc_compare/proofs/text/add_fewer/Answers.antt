use Rattle.std.proofs.Common.{◌++◌, ap, ◌∙◌, append_assoc, string_bytes}
use Rattle.avc_compare.proofs.text.add_fewer.Goals as goal

pub returns : goal.returns
returns c = c.in_ok-writeln.ensures.bytes ∙ ap (λ l. string_bytes c.args.text.now ++ l) (simp append_assoc)
