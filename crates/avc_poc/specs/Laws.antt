-- What the order counts take from the history.
use Rattle.std.specs.Prelude.{◌≡◌, ℕ, suc, ◌<◌, List}
use Rattle.avc_params.specs.declared.sps.Sps.{Sps}
use Rattle.avc_params.specs.Limits.{max_frame_num}
use Rattle.avc_poc.specs.OrderCounts.{Past}
use Rattle.avc_poc.specs.OrderCountState.{after_missing_from, order_count_state, with_missing_from}

-- What a gap in frame_num leaves needs no count from number to number (8.2.1, 8.2.5.2).
abbrev pub GapsCountAtOnce : Type 0
GapsCountAtOnce =
    (sps : Sps) (first n : ℕ) (older : List Past) → first < max_frame_num sps →
    1 < max_frame_num sps →
    order_count_state (with_missing_from sps first (suc n) older)
    ≡ after_missing_from (max_frame_num sps) first n (order_count_state older)
