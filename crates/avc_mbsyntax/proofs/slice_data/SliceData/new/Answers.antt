use Rattle.avc_mbsyntax.proofs.SliceDataReading.{arith, reader_bits, rest_of}
use Rattle.avc_mbsyntax.proofs.slice_data.SliceData.new.Goals as goal

pub returns : goal.returns
unfolding rest_of
returns c = grind (arith, reader_bits)
