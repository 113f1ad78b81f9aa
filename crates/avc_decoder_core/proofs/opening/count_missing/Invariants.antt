use Rattle.avc_decoder_core.proofs.Sequences.{◌≡◌, List, length, order_count_state, with_all_missing, Entry, pasts}
use Rattle.avc_decoder_core.proofs.opening.count_missing.Given as goal

-- the rest of the numbers gives what all of them give
abbrev pub invariant-loop-frame_num : goal.invariant-loop-frame_num
invariant-loop-frame_num l = (history : List Entry) → l.initial.poc ≡ order_count_state (pasts history)
    → (reached : List Entry) × (l.poc ≡ order_count_state (pasts reached)) × (with_all_missing l.sps l.numbers reached ≡ with_all_missing l.sps l.initial.numbers history)

abbrev pub decreases-loop-frame_num : goal.decreases-loop-frame_num
decreases-loop-frame_num l = length l.numbers
