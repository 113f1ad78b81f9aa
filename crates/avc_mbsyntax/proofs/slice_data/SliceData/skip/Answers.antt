use Rattle.avc_mbsyntax.proofs.SliceDataReading.{arith, reader_bits, Skipped, rest_of, one_longer, skip_more}
use Rattle.avc_mbsyntax.proofs.slice_data.SliceData.skip.Goals as goal

pub returns : goal.returns
unfolding rest_of
returns c = grind (arith, Skipped, reader_bits, skip_more, one_longer)
