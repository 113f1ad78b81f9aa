use Rattle.std.proofs.Common.{◌≡◌, ◌++◌, take, string_bytes}
use Rattle.std.specs.List.{flat_map}
use Rattle.avc_info.specs.Text.{kind_line}
use Rattle.avc_info.proofs.text.add_kind_lines.Given as goal

abbrev pub invariant-loop-kind : goal.invariant-loop-kind
invariant-loop-kind l = record { told : string_bytes l.text ≡ string_bytes l.initial.text ++ flat_map kind_line (take l.kind-index l.kinds) }
