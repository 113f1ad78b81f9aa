use Rattle.avc_cavlc.proofs.Levels.{◌≡◌, ◌+◌, ◌-◌, take, set, Err, arith, rules, to_z, of_z, w16, ◌∙◌, reader_bits, level_fault}
use Rattle.avc_cavlc.proofs.Short.{IsOneMore, one_more}
use Rattle.avc_cavlc.specs.Steps.{left_from, stage_above, stage_length}
use Rattle.avc_cavlc.proofs.level.read_others.Goals as goal

one : (c : goal.After-read_window-arg-in-levels-1) → IsOneMore (set c.levels.values c.levels.k (to_z w16 (of_z w16 c.in_ok-level.level.value))) c.args.total (c.levels.k + 1) c.in_ok-level.level.next (reader_bits c.read_level.new.reader)
    (left_from (take c.args.first.count c.args.values.now) (c.args.total - c.args.first.count) c.args.first.stage (reader_bits c.args.reader.now))
one c =
    one_more c.levels.values c.args.total c.levels.k c.levels.stage c.in_ok-level.level.next (reader_bits c.levels.reader) (reader_bits c.read_level.new.reader) _ c.in_ok-level.level.value
    c.levels.invariant.is (omega arith) c.requires.few c.in_ok-level.ensures.read.0 c.in_ok-level.ensures.size c.in_ok-level.ensures.next

pub read_window-short-requires-clause-size : goal.read_window-short-requires-clause-size
read_window-short-requires-clause-size c = (one c).size

pub read_window-short-requires-clause-stage : goal.read_window-short-requires-clause-stage
read_window-short-requires-clause-stage c = (one c).stage

pub levels-preserved : goal.levels-preserved
levels-preserved c =
    let so_far = c.levels.invariant in
    let was = c.read_window-short.ensures.read in
    let one =
    one_more c.levels.values c.args.total c.levels.k c.levels.stage c.in_ok-level.level.next (reader_bits c.levels.reader) (reader_bits c.read_level.new.reader) _ c.in_ok-level.level.value
    so_far.is (omega arith) c.requires.few c.in_ok-level.ensures.read.0 c.in_ok-level.ensures.size c.in_ok-level.ensures.next in
    record {
      most = was.most;
      is = record { long = c.read_window-short.array_long; read = one.read ∙ was.read; size = was.size; stage = was.next_stage };
      bytes = c.read_window-short.ensures.bytes ∙ c.in_ok-level.ensures.read.1 ∙ so_far.bytes;
    }

pub returns-in_err-level-clause-read : goal.returns-in_err-level-clause-read
returns-in_err-level-clause-read c =
    let fault : left_from (take c.args.first.count c.args.values.now) (c.args.total - c.args.first.count) c.args.first.stage (reader_bits c.args.reader.now) ≡ Err c.in_err-level.field-0.0 =
    c.levels.invariant.is.read
    ∙ level_fault (take c.levels.k c.levels.values) c.args.total c.levels.k (stage_length c.levels.stage) (stage_above c.levels.stage) c.in_err-level.field-0.0 (reader_bits c.levels.reader) (omega arith) c.in_err-level.ensures.read in
    search rules
