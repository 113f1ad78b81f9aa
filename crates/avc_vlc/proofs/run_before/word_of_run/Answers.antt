use Rattle.avc_vlc.proofs.Entries.{◌≡◌, nat_le, false, refl, arith, lt-leb, run_table}
use Rattle.avc_vlc.proofs.run_before.word_of_run.Goals as goal

pub returns-in_default : goal.returns-in_default
returns-in_default c =
    let above : nat_le c.args.zeros_left 6 ≡ false = lt-leb c.args.zeros_left 6 (omega arith) in
    rw above (c.of-in_default.ensures (run_table 7) (record { words = refl; whole = refl }))
