use Rattle.avc_vlc.proofs.Entries.{◌≡◌, Ok, refl, ap, ◌∙◌, number_own, passed_both, short_read, short_bounded}
use Rattle.avc_vlc.specs.Indexing.{short_run}
use Rattle.avc_vlc.proofs.run_before.short_run.Goals as goal

is : (c : goal.After-short_run_in) → c.short_run_in.result ≡ short_run c.args.zeros_left c.bits.result
unfolding short_run
is c = c.short_run_in.ensures (record { same = refl }) ∙ ap (λ n. short_run n c.bits.result) c.from.ensures

pub returns-clause-read : goal.returns-clause-read
returns-clause-read c = λ b window some.
    short_read c.args.zeros_left c.bits.result c.short_run_in.result _ (c.bits.ensures.bits b window) (is c) some
    ∙ ap (λ l. Ok (c.short_run_in.result.zeros, l)) (passed_both b c.args.first c.short_run_in.result.length)

pub returns-clause-exact : goal.returns-clause-exact
returns-clause-exact c = λ b window.
    is c ∙ ap (short_run c.args.zeros_left) (number_own 3 c.bits.result _ c.bits.ensures.below (c.bits.ensures.bits b window))

pub returns-clause-most : goal.returns-clause-most
returns-clause-most c = (short_bounded c.args.zeros_left c.bits.result c.short_run_in.result c.requires.few c.bits.ensures.below (is c)).0

pub returns-clause-short : goal.returns-clause-short
returns-clause-short c = (short_bounded c.args.zeros_left c.bits.result c.short_run_in.result c.requires.few c.bits.ensures.below (is c)).1
