use Rattle.avc_mbsyntax.proofs.SliceDataReading.{arith, more_data, reader_bits, Skipped, Follows, rest_of, run_ends, run_goes_on}
use Rattle.avc_mbsyntax.proofs.slice_data.SliceData.go_on.Goals as goal

pub returns-then-count-gt0 : goal.returns-then-count-gt0
returns-then-count-gt0 c = λ s before f l u. c.skip.ensures s before f

pub returns-in_err-read_one : goal.returns-in_err-read_one
unfolding rest_of
returns-in_err-read_one c = grind (arith, Skipped, more_data, reader_bits, run_goes_on, Follows)

pub returns-then-more : goal.returns-then-more
unfolding rest_of
returns-then-more c = grind (arith, Skipped, more_data, reader_bits, run_goes_on)

pub returns : goal.returns
unfolding rest_of
returns c = grind (arith, Skipped, more_data, reader_bits, run_ends)
