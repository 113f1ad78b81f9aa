use Rattle.avc_cavlc.proofs.Levels.{◌≡◌, ◌+◌, ◌≤◌, false, Ok, arith, ap, subst, sym, ◌∙◌, All, length, length-drop, passed, passed_both, take, reader_bits, replicate, take-append-le, skip_long, times, trailing_one}
use Rattle.avc_cavlc.proofs.Levels.{IsLevel, ones_levels, ones_read}
use Rattle.avc_cavlc.proofs.Short.{first_levels}
use Rattle.avc_cavlc.proofs.level.read_first.Goals as goal

pub read_short_levels-requires-clause-size : goal.read_short_levels-requires-clause-size
read_short_levels-requires-clause-size c =
    subst (All IsLevel) (sym (c.put_ones.ensures c.args.code.token.ones c.requires.token.few_ones)) (ones_levels c.args.code.token.ones c.bits.result c.requires.token.few_ones)

ones : (c : goal.After-read_short_levels) → times c.args.code.token.ones trailing_one (passed (reader_bits c.args.reader.now) c.args.code.length)
    ≡ Ok (take c.args.code.token.ones c.put_ones.new.values, passed (reader_bits c.args.reader.now) (c.args.code.length + c.args.code.token.ones))
ones c =
    let b = reader_bits c.args.reader.now in
    let here = passed b c.args.code.length in
    let n = c.args.code.token.ones in
    let few = c.requires.token.few_ones in
    let three : 3 ≤ length here.ahead = omega (arith, c.requires.ahead, c.requires.short, length-drop c.args.code.length b.ahead) in
    let there : n ≤ length here.ahead = omega (arith, few, three) in
    ones_read n c.bits.result here (passed here n) few (c.bits.ensures.bits b c.requires.window ∙ sym (take-append-le 3 here.ahead (replicate 3 false) three)) (skip_long n here there)
    ∙ ap (λ l. Ok (l, passed here n)) (sym (c.put_ones.ensures n few))
    ∙ ap (λ l. Ok (take n c.put_ones.new.values, l)) (passed_both b c.args.code.length n)

pub returns-clause-read : goal.returns-clause-read
returns-clause-read c =
    let was = c.read_short_levels.ensures.read in
    let t = c.args.code.token in
    let b = reader_bits c.args.reader.now in
    record {
      most = was.most;
      next_stage = was.next_stage;
      read = first_levels t (take t.ones c.put_ones.new.values) c.first_stage.result (passed b c.args.code.length) (passed b (c.args.code.length + t.ones)) (ones c) c.first_stage.ensures.length c.first_stage.ensures.above ∙ was.read;
      size = was.size;
    }
