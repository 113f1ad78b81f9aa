use Rattle.avc_bits.proofs.Reading.{sym, ◌∙◌, reader_bits, length-ahead, some_left}
use Rattle.avc_bits.proofs.reader.BitReader.more_data.Goals as goal

pub returns : goal.returns
returns c = some_left (reader_bits c.args.self.now) c.left.result (length-ahead c.args.self.now ∙ sym c.left.ensures)
