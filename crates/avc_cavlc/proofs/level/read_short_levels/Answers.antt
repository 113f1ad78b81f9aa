use Rattle.avc_cavlc.proofs.Levels.{◌+◌, ◌≤◌, false, Ok, arith, ap, sym, ◌∙◌, length, length-drop, passed, passed_both, replicate, reader_bits, take-append-le}
use Rattle.avc_cavlc.proofs.Short.{Reads7, entry_reads, level_size, length_few, above_first, one_more}
use Rattle.avc_cavlc.specs.Steps.{stage_above, stage_length}
use Rattle.avc_cavlc.proofs.level.read_short_levels.Goals as goal

pub levels-preserved : goal.levels-preserved
levels-preserved c =
    let b = reader_bits c.args.reader.now in
    let here = passed b c.levels.passed in
    let next = c.levels.next in
    let e = c.short_level-short.result in
    let so_far = c.levels.invariant in
    let window = c.requires.window in
    let long : 7 ≤ length here.ahead = omega (arith, length-drop c.levels.passed b.ahead, window.long) in
    let reads : Reads7 next e here =
    entry_reads next c.bits.result e here long (c.bits.ensures.bits b window ∙ sym (take-append-le 7 here.ahead (replicate 7 false) long)) c.short_level-short.ensures (omega arith) in
    let size = level_size (stage_length next) (stage_above next) here (passed here e.length) e.value (length_few next so_far.is.stage) (above_first next so_far.is.stage) reads.read in
    let read = reads.read ∙ ap (λ l. Ok (e.value, l)) (passed_both b c.levels.passed e.length) in
    record {
      least = omega (arith, so_far.least);
      most = omega arith;
      few = omega (arith, reads.few, c.from-passed.ensures);
      is = rw c.from-passed.ensures (one_more c.levels.values c.args.total c.levels.k next e.next here (passed b (c.levels.passed + e.length)) _ e.value so_far.is (omega arith) c.requires.few read size reads.next);
    }
