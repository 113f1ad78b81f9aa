use Rattle.avc_cavlc.proofs.Levels.{arith, passed, reader_bits, IsLevel}
use Rattle.avc_cavlc.proofs.Short.{Reads7, entry_reads, level_size, length_few, above_first}
use Rattle.avc_cavlc.specs.Steps.{stage_above, stage_length}
use Rattle.avc_cavlc.proofs.level.read_level.Goals as goal

read : (c : goal.After-skip_ahead) → Reads7 c.args.stage c.short_level-short.result (reader_bits c.args.reader.now)
read c =
    entry_reads c.args.stage c.peek.result c.short_level-short.result (reader_bits c.args.reader.now) (omega (arith, c.if-has_many.ensures.ahead)) c.peek.ensures.bits c.short_level-short.ensures (omega arith)

size : (c : goal.After-skip_ahead) → IsLevel c.short_level-short.result.value
size c =
    level_size (stage_length c.args.stage) (stage_above c.args.stage) (reader_bits c.args.reader.now) (passed (reader_bits c.args.reader.now) c.short_level-short.result.length) c.short_level-short.result.value
    (length_few c.args.stage c.requires.stage) (above_first c.args.stage c.requires.stage) (read c).read

pub returns-then-short-gt0-clause-read : goal.returns-then-short-gt0-clause-read
returns-then-short-gt0-clause-read c = rw (c.skip_ahead.ensures.bits, c.from.ensures) ((read c).read, c.skip_ahead.ensures.bytes)

pub returns-then-short-gt0-clause-size : goal.returns-then-short-gt0-clause-size
returns-then-short-gt0-clause-size c = size c

pub returns-then-short-gt0-clause-next : goal.returns-then-short-gt0-clause-next
returns-then-short-gt0-clause-next c = (read c).next
