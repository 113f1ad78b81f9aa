use Rattle.avc_make.proofs.Slices.{arith, run_word, word_bits, run_whole, is_some_given}
use Rattle.avc_make.proofs.run_writing.put_run.Goals as goal

pub put_word-requires : goal.put_word-requires
put_word-requires c = grind (arith, is_some_given, word_bits, run_word, run_whole)
