use Rattle.std.proofs.Common.{◌≡◌, ◌++◌, string_bytes}
use Rattle.std.specs.Prelude.{replicate}
use Rattle.avc_request.proofs.numbered.add_zeros.Given as goal

abbrev pub invariant-zeros : goal.invariant-zeros
invariant-zeros l = record { added : string_bytes l.name ≡ string_bytes l.initial.name ++ replicate l.zero 48 }
