use Rattle.avc_vlc.proofs.Entries.{◌≡◌, ◌<◌, ◌∙◌, ◌&&◌, true, false, ap, sym, arith, holds, nat_lt, le-ltb, six_bit_entry, six_bit_number, is_token_same, six_found, six_none, and_false}
use Rattle.avc_vlc.proofs.coeff_token.six_bit_word.Goals as goal

pub returns-then-holds : goal.returns-then-holds
returns-then-holds c =
    let small : c.six_bit_number-number.result < 64 = omega arith in
    let here : holds is_token_same c.args.token (six_bit_entry c.six_bit_number-number.result) ≡ true =
    ap (holds is_token_same c.args.token) (sym c.six_bits.ensures) ∙ sym c.holds.ensures ∙ c.if-holds.true in
    six_found c.args.token c.six_bit_number-number.result small here

pub returns-else-holds : goal.returns-else-holds
returns-else-holds c =
    let t = c.args.token in
    let fails : holds is_token_same t (six_bit_entry (six_bit_number t)) ≡ false =
    ap (λ k. holds is_token_same t (six_bit_entry k)) (sym c.six_bit_number-number.ensures) ∙ ap (holds is_token_same t) (sym c.six_bits.ensures) ∙ sym c.holds.ensures ∙ c.if-holds.false in
    sym (six_none t (and_false (nat_lt (six_bit_number t) 64) (holds is_token_same t (six_bit_entry (six_bit_number t))) fails))

pub returns-then-number-ge64 : goal.returns-then-number-ge64
returns-then-number-ge64 c =
    let t = c.args.token in
    let past : nat_lt (six_bit_number t) 64 ≡ false = ap (λ k. nat_lt k 64) (sym c.six_bit_number-number.ensures) ∙ le-ltb c.six_bit_number-number.result 64 c.if-number-ge64.true in
    sym (six_none t (ap (λ b. b && holds is_token_same t (six_bit_entry (six_bit_number t))) past))
