use Rattle.avc_syntax_tests.proofs.Following.{refl, rules, false, coded}
use Rattle.avc_syntax_tests.proofs.written_slices.i_slice.Goals as goal

pub returns : goal.returns
returns c = coded _ false 0 c.requires.follow.0 (search rules) (λ _. c.requires.some) c.requires.few refl refl refl c.requires.follow.1
