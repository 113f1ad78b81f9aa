use Rattle.avc_reading.proofs.Read.{arith, refl, subst, IsRem, None, get_or_default, rem_more}
use Rattle.avc_reading.proofs.derived.are_rems.Goals as goal

pub modes-preserved : goal.modes-preserved
modes-preserved c = record { so_far = rem_more c.args.coded.now c.modes.mode-index c.modes.invariant.so_far (c.if-not-is_rem.ensures.yes refl) }

pub returns-clause-yes : goal.returns-clause-yes
returns-clause-yes c = λ yes k d within.
    subst IsRem (get_or_default c.args.coded.now k None d within) (c.modes.invariant.so_far k (omega (arith, within, c.modes-test.false)))
