use Rattle.avc_syntax_tests.proofs.Following.{refl, rules, true, coded}
use Rattle.avc_syntax_tests.proofs.written_slices.p_slice.Goals as goal

pub returns : goal.returns
returns c = coded _ true 2 c.requires.follow.0 (search rules) (λ e. cc) c.requires.few refl refl refl c.requires.follow.1
