-- What goes on where there is a value, and stops at a fault.
use Rattle.std.specs.Prelude.{Result, Ok, Err}
use Rattle.avc_types.specs.declared.fault.Fault.{Fault}

infixl 10 ◌>>=◌
-- what follows a value; a fault stays (this decoder's rule: the first fault is what is told)
abbrev pub ◌>>=◌ : {A B : Type 0} → Result A Fault → (A → Result B Fault) → Result B Fault
(Ok x) >>= f = f x
(Err e) >>= f = Err e
