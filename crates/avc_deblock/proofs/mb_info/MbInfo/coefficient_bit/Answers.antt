use Rattle.std.proofs.Common.{◌≡◌, ◌∙◌, ap, arith, ◌*◌, ◌%◌, ◌^◌, ◌==◌, bit_and}
use Rattle.std.proofs.Math.Nat.{mod-eq_of_lt}
use Rattle.std.proofs.Math.Pow.{pow-lt}
use Rattle.avc_deblock.proofs.BlocksInRows.{bit_is}
use Rattle.avc_deblock.proofs.mb_info.MbInfo.coefficient_bit.Goals as goal

pub returns : goal.returns
returns c =
    let n = c.args.self.now.coefficients in
    let b = c.args.block in
    let power : 1 * 2 ^ b % 65536 ≡ 2 ^ b = ap (λ p. p % 65536) (omega arith) ∙ mod-eq_of_lt (pow-lt {i = b} {j = 16} c.requires) in
    ap (λ p. bit_and n p == 0) power ∙ bit_is n b
