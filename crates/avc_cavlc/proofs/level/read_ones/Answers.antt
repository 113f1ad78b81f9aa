use Rattle.avc_cavlc.proofs.Levels.{take, reader_bits}
use Rattle.avc_cavlc.proofs.Short.{first_levels}
use Rattle.avc_cavlc.proofs.level.read_ones.Goals as goal

pub returns-clause-read : goal.returns-clause-read
returns-clause-read c =
    let t = c.args.token in
    record {
      most = c.requires.token.ones;
      next_stage = c.first_stage.ensures.below;
      read = first_levels t (take t.ones c.read_trailing_ones.new.values) c.first_stage.result (reader_bits c.args.reader.now) (reader_bits c.read_trailing_ones.new.reader) c.in_ok-read_trailing_ones.ensures.read.0 c.first_stage.ensures.length c.first_stage.ensures.above;
      size = c.in_ok-read_trailing_ones.ensures.size;
    }
