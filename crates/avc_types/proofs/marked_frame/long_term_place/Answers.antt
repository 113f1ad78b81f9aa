use Rattle.avc_types.proofs.Frames.{refl, arith, has_long_term_frame_idx, first-found, filter-none, find-filter}
use Rattle.avc_types.proofs.marked_frame.long_term_place.Goals as goal

pub returns-then-has_long_term_frame_idx-clause-named : goal.returns-then-has_long_term_frame_idx-clause-named
returns-then-has_long_term_frame_idx-clause-named c = λ indices stand. grind (arith, find-filter, first-found (has_long_term_frame_idx c.args.index) (λ e f. refl))

pub returns-clause-named : goal.returns-clause-named
returns-clause-named c = λ indices stand. grind (arith, find-filter, filter-none (has_long_term_frame_idx c.args.index) (λ e f. refl))
