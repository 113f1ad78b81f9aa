use Rattle.std.specs.Prelude.{[], ◌++◌, slice_index_or}
use Rattle.std.specs.List.{cons_option}
use Rattle.std.proofs.Common.{◌∙◌, ap}
use Rattle.avc_compare.specs.Displaced.{displaced_at}
use Rattle.avc_compare.proofs.Seeking.{found_more}
use Rattle.avc_compare.proofs.displaced.find_displaced.Goals as goal

pub places-preserved : goal.places-preserved
places-preserved c =
    record { displaced = found_more (λ place. displaced_at c.args.first c.ours-ours.result.now (slice_index_or c.theirs-theirs.result.now place []) place) c.places.displaced c.push_any.new.self c.places.place c.places.invariant.displaced (c.in_ok-push_any.ensures ∙ ap (λ o. c.places.displaced ++ cons_option o []) c.displaced_at.ensures) }
