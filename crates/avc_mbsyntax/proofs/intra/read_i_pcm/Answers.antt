use Rattle.avc_mbsyntax.proofs.SliceDataReading.{◌∙◌, reader_bits, context_of, i_pcm_read}
use Rattle.avc_mbsyntax.proofs.intra.read_i_pcm.Goals as goal

pub returns-clause-read : goal.returns-clause-read
returns-clause-read c = (
  i_pcm_read (context_of c.args.context.now) c.in_ok-align.field-0 c.in_ok-luma.luma c.in_ok-cb.cb c.in_ok-cr.cr
      (reader_bits c.args.reader.now) (reader_bits c.align.new.self) (reader_bits c.read_samples.new.reader) (reader_bits c.read_samples-2.new.reader) (reader_bits c.read_samples-3.new.reader)
      c.in_ok-align.ensures.read.0 c.in_ok-luma.ensures.read.0 c.in_ok-cb.ensures.read.0 c.in_ok-cr.ensures.read.0,
  c.in_ok-cr.ensures.read.1 ∙ c.in_ok-cb.ensures.read.1 ∙ c.in_ok-luma.ensures.read.1 ∙ c.in_ok-align.ensures.read.1,
)
