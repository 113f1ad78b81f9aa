use Rattle.std.proofs.Common.{◌≡◌, ◌∙◌, sym, refl, arith, Bool, true, false, bit_or}
use Rattle.std.proofs.lemmas.Bool.{eq-eqb}
use Rattle.std.proofs.lemmas.Nat.{le_or_l, le_or_r}
use Rattle.avc_deblock.proofs.FilteredPictures.{not}
use Rattle.avc_deblock.proofs.mb_info.MbInfo.strength_over.Goals as goal

is_off : (b : Bool) → true ≡ not b → b ≡ false
is_off false e = refl
is_off true e = absurd (cc)

pub returns-then-bits-eq0-clause-value : goal.returns-then-bits-eq0-clause-value
returns-then-bits-eq0-clause-value c =
    let x = c.coefficient_bit.result in
    let y = c.coefficient_bit-2.result in
    let none : bit_or x y ≡ 0 = c.if-bits-eq0.true in
    let p : x ≡ 0 = omega (arith, le_or_l x y, none) in
    let q : y ≡ 0 = omega (arith, le_or_r x y, none) in
    rw (is_off _ (sym (eq-eqb x 0 p) ∙ c.coefficient_bit.ensures), is_off _ (sym (eq-eqb y 0 q) ∙ c.coefficient_bit-2.ensures)) refl
