use Rattle.avc_bits.proofs.Reading.{aligned_after}
use Rattle.avc_bits.proofs.reader.BitReader.align.Goals as goal

pub returns-clause-read : goal.returns-clause-read
returns-clause-read c = rw (← c.to_next_byte-count.ensures) c.skip.ensures.read

pub returns-clause-aligned : goal.returns-clause-aligned
returns-clause-aligned c = aligned_after c.skip.result _ c.args.self.now c.skip.new.self c.to_next_byte-count.ensures c.skip.ensures.read
