use Rattle.avc_vlc.proofs.Entries.{◌≡◌, ◌<◌, ℕ, refl, Option, Some, None, Ok, Err, IfSome, lt-leb, Bits, skip, reader_bits, Entry, Decides}
use Rattle.avc_vlc.proofs.Entries.{run_before, run_table, table_code, BadCode, reads_word, reads_none, reads_cut}
use Rattle.avc_vlc.proofs.run_before.refused.Goals as goal

run_longer : (zeros_left run : ℕ) (b left : Bits) → table_code (run_table zeros_left) b ≡ Ok (run, left) → zeros_left < run → run_before zeros_left b ≡ Err BadCode
run_longer zeros_left run b left is longer = rw (is, lt-leb run zeros_left longer) refl

-- no codeword, or a run that is longer
not_read : (zeros_left n : ℕ) (e : Entry ℕ) (b left : Bits) → Decides (run_table zeros_left) b.ahead e → n ≡ e.length → skip n b ≡ Ok (tt, left) →
    IfSome e.value (λ run. zeros_left < run) → run_before zeros_left b ≡ Err BadCode
not_read zeros_left n e b left d same passed longer = by_value e.value refl longer
  where
    by_value : (o : Option ℕ) → e.value ≡ o → IfSome o (λ run. zeros_left < run) → run_before zeros_left b ≡ Err BadCode
    by_value None is longer = rw (reads_none (run_table zeros_left) e n b left d same passed is) refl
    by_value (Some run) is longer = run_longer zeros_left run b left (reads_word (run_table zeros_left) e n b left run d same passed is) longer

pub returns-in-Ok : goal.returns-in-Ok
returns-in-Ok c =
    not_read c.args.zeros_left c.from.result c.args.entry (reader_bits c.args.reader) (reader_bits c.skip.new.self) c.requires.decided c.from.ensures c.in-Ok.ensures.read.0 c.requires.longer

pub returns-in-Err : goal.returns-in-Err
returns-in-Err c =
    rw (reads_cut (run_table c.args.zeros_left) c.args.entry c.from.result (reader_bits c.args.reader) c.in-Err.fault c.requires.decided c.from.ensures c.in-Err.ensures.read) refl
