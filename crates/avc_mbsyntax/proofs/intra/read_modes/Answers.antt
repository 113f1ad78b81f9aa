use Rattle.avc_mbsyntax.proofs.SliceDataReading.{refl, All, times, block_mode, gives-each, IsRem, gives_block_mode, if_gives_into}
use Rattle.avc_mbsyntax.proofs.intra.read_modes.Goals as goal

pub returns-clause-range : goal.returns-clause-range
returns-clause-range c = if_gives_into (All IsRem) c.read_elements.result c.read_elements.new.elements (times 16 block_mode) c.args.reader.now c.read_elements.new.reader (c.read_elements.ensures.whole refl) (gives-each IsRem 16 block_mode gives_block_mode)
