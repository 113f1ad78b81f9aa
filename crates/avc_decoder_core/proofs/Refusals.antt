-- What is left to be shown where a call ends at a fault, or for want of memory.
use Rattle.std.proofs.Common.{◌≡◌, ◌∙◌, Bool, true, false, sym, ap, Result, Ok, Err}
use Rattle.std.proofs.lemmas.Bool.{false≢true}
use Rattle.std.specs.Result.{IsErrAnd}

pub err_is : {A E : Type 0} (r : Result A E) (f : E) → IsErrAnd r (λ e. e ≡ f) → r ≡ Err f
err_is (Ok done) f is = absurd is
err_is (Err e) f is = ap Err is

-- After want of memory what is kept is any.
pub any_after : (failed : Bool) {A : Type 0} → failed ≡ true → failed ≡ false → A
any_after failed refused going = absurd (false≢true (sym going ∙ refused))
