use Rattle.avc_make.proofs.Slices.{eqb, arith, word_bits, zeros_word, is_some_given, zeros_there}
use Rattle.avc_make.proofs.run_writing.put_zeros.Goals as goal

pub put_word-requires : goal.put_word-requires
put_word-requires c =
    is_some_given c.total_zeros_word.result word_bits (zeros_word c.args.total (eqb c.args.most 4) c.args.zeros) c.total_zeros_word.ensures
    (zeros_there c.args.most c.args.total c.args.zeros (omega arith) (omega arith) c.requires.most c.requires.within)
