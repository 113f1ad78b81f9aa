use Rattle.avc_vlc.proofs.Entries.{◌≡◌, refl, true, nat_le, le-leb}
use Rattle.avc_vlc.proofs.run_before.few_entry.Goals as goal

pub returns : goal.returns
returns c = λ ahead is.
    let few : nat_le c.args.zeros_left 6 ≡ true = le-leb c.args.zeros_left 6 c.requires in
    rw (few, ← c.saturating_sub.ensures, ← c.from.ensures) (c.run_of_three-run.ensures.decides ahead (record { fronts = record { same = refl }; most = refl; short = refl }) is)
