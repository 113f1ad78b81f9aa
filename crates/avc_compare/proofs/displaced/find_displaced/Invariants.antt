use Rattle.std.specs.Prelude.{◌≡◌, [], slice_index_or}
use Rattle.std.specs.List.{filter_map, range_with_len}
use Rattle.avc_compare.specs.Displaced.{displaced_at}
use Rattle.avc_compare.proofs.displaced.find_displaced.Given as goal

abbrev pub invariant-places : goal.invariant-places
invariant-places l = record { displaced : l.displaced ≡ filter_map (λ place. displaced_at l.first l.ours (slice_index_or l.theirs place []) place) (range_with_len 0 l.place) }
