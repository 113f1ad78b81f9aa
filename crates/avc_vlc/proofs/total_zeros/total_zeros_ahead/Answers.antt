use Rattle.avc_vlc.proofs.Entries.{arith, refl, reads_none, reads_word, skip_long, zeros_table}
use Rattle.avc_bits.specs.Bits.{passed}
use Rattle.avc_vlc.proofs.total_zeros.total_zeros_ahead.Goals as goal

pub returns-in-Some-clause-read : goal.returns-in-Some-clause-read
returns-in-Some-clause-read c = λ b window.
    let e = c.entry_of_code-entry.result in
    reads_word (zeros_table c.args.total c.args.chroma_dc) e e.length b (passed b e.length) c.in-Some.zeros (c.entry_of_code-entry.ensures.decides b.ahead (c.of.ensures b window)) refl
    (skip_long e.length b (omega (arith, c.entry_of_code-entry.ensures.short, window.long))) c.in-Some.is

pub returns-in-None-clause-read : goal.returns-in-None-clause-read
returns-in-None-clause-read c = λ b window.
    let e = c.entry_of_code-entry.result in
    reads_none (zeros_table c.args.total c.args.chroma_dc) e e.length b (passed b e.length) (c.entry_of_code-entry.ensures.decides b.ahead (c.of.ensures b window)) refl
    (skip_long e.length b (omega (arith, c.entry_of_code-entry.ensures.short, window.long))) c.in-None.is
