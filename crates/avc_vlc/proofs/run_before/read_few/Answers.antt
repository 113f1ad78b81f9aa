use Rattle.avc_vlc.proofs.Entries.{◌≡◌, ◌≤◌, Ok, refl, arith, ap, sym, ◌∙◌, length, reader_bits, run_table, skip, skip_long, reads_word, run_read, entry_of_run}
use Rattle.avc_bits.specs.Bits.{passed}
use Rattle.avc_vlc.proofs.run_before.read_few.Goals as goal

pub returns-clause-read : goal.returns-clause-read
returns-clause-read c =
    let b = reader_bits c.args.reader.now in
    let left = reader_bits c.skip_ahead.new.self in
    let run = c.few_run-run.result in
    let there : run.length ≤ length b.ahead = omega (arith, c.few_run-run.ensures.short, c.requires.ahead) in
    let skipped : skip run.length b ≡ Ok (tt, left) = skip_long run.length b there ∙ ap (λ l. Ok (tt, l)) (ap (passed b) (sym c.from.ensures) ∙ sym c.skip_ahead.ensures.bits) in
    run_read c.args.zeros_left run.zeros b left
    (reads_word (run_table c.args.zeros_left) (entry_of_run run) run.length b left run.zeros (c.few_run-run.ensures.decides b.ahead c.look.ensures) refl skipped refl) c.few_run-run.ensures.most
