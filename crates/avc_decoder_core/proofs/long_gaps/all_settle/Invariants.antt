use Rattle.avc_decoder_core.proofs.Sequences.{◌≡◌, ℕ, ◌<◌, true, settles_at}
use Rattle.avc_decoder_core.proofs.long_gaps.all_settle.Given as goal

abbrev pub invariant-loop-place : goal.invariant-loop-place
invariant-loop-place l = (p : ℕ) → p < l.place → settles_at l.dpb l.first l.low l.max p ≡ true
