use Rattle.std.proofs.Common.{ℕ, ◌<◌, None, slice_index_or}
use Rattle.avc_neigh.specs.Modes.{IsRem}
use Rattle.avc_reading.proofs.derived.are_rems.Given as goal

abbrev pub invariant-modes : goal.invariant-modes
invariant-modes l = record { so_far : (k : ℕ) → k < l.mode-index → IsRem (slice_index_or l.coded k None) }
