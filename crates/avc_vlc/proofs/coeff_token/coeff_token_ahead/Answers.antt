use Rattle.avc_vlc.proofs.Entries.{◌≡◌, refl, arith, ints, subst, Decides, reads_none, reads_word, skip_long, token_range, token_table}
use Rattle.std.proofs.Common.{to_z, of_z, w8}
use Rattle.avc_bits.specs.Bits.{passed}
use Rattle.avc_vlc.proofs.coeff_token.coeff_token_ahead.Goals as goal

pub returns-in-Some-clause-read : goal.returns-in-Some-clause-read
returns-in-Some-clause-read c = λ b window.
    let e = c.token_entry-entry.result in
    let nc : to_z w8 (of_z w8 c.args.nc) ≡ c.args.nc = omega (arith, ints) in
    let decides : Decides (token_table c.args.nc) b.ahead e = subst (λ n. Decides (token_table n) b.ahead e) nc (c.token_entry-entry.ensures.decides b.ahead (c.of.ensures b window)) in
    reads_word (token_table c.args.nc) e e.length b (passed b e.length) c.in-Some.token decides refl (skip_long e.length b (omega (arith, c.token_entry-entry.ensures.short, window.long))) c.in-Some.is

pub returns-in-Some-clause-range : goal.returns-in-Some-clause-range
returns-in-Some-clause-range c = λ b window.
    let e = c.token_entry-entry.result in
    let nc : to_z w8 (of_z w8 c.args.nc) ≡ c.args.nc = omega (arith, ints) in
    let decides : Decides (token_table c.args.nc) b.ahead e = subst (λ n. Decides (token_table n) b.ahead e) nc (c.token_entry-entry.ensures.decides b.ahead (c.of.ensures b window)) in
    token_range c.args.nc c.in-Some.token b (passed b e.length)
    (reads_word (token_table c.args.nc) e e.length b (passed b e.length) c.in-Some.token decides refl (skip_long e.length b (omega (arith, c.token_entry-entry.ensures.short, window.long))) c.in-Some.is)

pub returns-in-None-clause-read : goal.returns-in-None-clause-read
returns-in-None-clause-read c = λ b window.
    let e = c.token_entry-entry.result in
    let nc : to_z w8 (of_z w8 c.args.nc) ≡ c.args.nc = omega (arith, ints) in
    let decides : Decides (token_table c.args.nc) b.ahead e = subst (λ n. Decides (token_table n) b.ahead e) nc (c.token_entry-entry.ensures.decides b.ahead (c.of.ensures b window)) in
    reads_none (token_table c.args.nc) e e.length b (passed b e.length) decides refl (skip_long e.length b (omega (arith, c.token_entry-entry.ensures.short, window.long))) c.in-None.is
