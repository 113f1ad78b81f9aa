use Rattle.std.proofs.Common.{w32, SFits, rules}
use Rattle.std.proofs.lemmas.Int.{to_z-of_z}
use Rattle.std.specs.Prelude.{slice_index}
use Rattle.avc_replay.specs.Tracing.{HasOrderCount}
use Rattle.avc_replay.proofs.Traced.{counted, each_count}
use Rattle.avc_replay.proofs.tracing.order_counts.Goals as goal

pub returns : goal.returns
returns c = λ inter.
    let p = c.args.info.now.pictures in
    let frames = c.args.frames.now in
    let first : SFits w32 c.in_ok-order_count.field-0 = search rules in
    let second : SFits w32 c.in_ok-order_count-2.field-0 = search rules in
    let third : SFits w32 c.in_ok-order_count-3.field-0 = search rules in
    let fourth : SFits w32 c.in_ok-order_count-4.field-0 = search rules in
    each_count (λ q n. HasOrderCount frames (slice_index p q) n) _ _ _ _
    (counted frames (slice_index p 0) _ _ (to_z-of_z w32 _ first) c.in_ok-order_count.ensures) (counted frames (slice_index p 1) _ _ (to_z-of_z w32 _ second) c.in_ok-order_count-2.ensures)
    (counted frames (slice_index p 2) _ _ (to_z-of_z w32 _ third) c.in_ok-order_count-3.ensures) (counted frames (slice_index p 3) _ _ (to_z-of_z w32 _ fourth) c.in_ok-order_count-4.ensures)
