use Rattle.avc_vlc.proofs.Entries.{◌≡◌, refl, arith, false, nat_le, lt-leb, run_table}
use Rattle.avc_vlc.proofs.run_before.many_entry.Goals as goal

pub returns : goal.returns
returns c = λ ahead is.
    let above : nat_le c.args.zeros_left 6 ≡ false = lt-leb c.args.zeros_left 6 (omega (arith, c.requires)) in
    rw above (c.number_at.ensures.decides (run_table 7) ahead (record { same = refl }) is)
