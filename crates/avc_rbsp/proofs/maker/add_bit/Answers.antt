use Rattle.avc_rbsp.proofs.Reading.{◌≡◌, ◌-◌, ◌∷◌, ◌++◌, [], suc, arith, IsFilled, filled_length, filled_more}
use Rattle.avc_rbsp.proofs.maker.add_bit.Goals as goal

pub returns-in-None : goal.returns-in-None
returns-in-None c = λ bits is.
    let len = filled_length c.args.bytes.now.items bits c.args.free is in
    let none = c.in-None.ensures.variant.1 (omega (arith, len, c.if-free-eq0.false)) in
    cc

pub returns-in_ok-push-in-Some : goal.returns-in_ok-push-in-Some
returns-in_ok-push-in-Some c = λ bits is.
    let one : c.args.free ≡ suc (c.args.free - 1) = omega (arith, c.if-free-eq0.false) in
    let before : IsFilled (c.pop.new.self.items ++ c.in-Some.last ∷ []) bits (suc (c.args.free - 1)) = rw (← c.in-Some.ensures.items, ← one) is in
    rw c.in_ok-push-in-Some.ensures.ok (filled_more c.pop.new.self.items c.in-Some.last c.with_bit-in-Some.result (c.args.free - 1) bits c.args.bit before c.with_bit-in-Some.ensures)
