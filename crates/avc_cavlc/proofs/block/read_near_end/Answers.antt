use Rattle.avc_cavlc.proofs.Levels.{◌≡◌, Ok, arith, to_z, of_z, w8, ap, ◌∙◌, sym, ints, reader_bits, coeff_token}
use Rattle.avc_cavlc.proofs.Levels.{behind_token, no_levels}
use Rattle.avc_cavlc.proofs.block.read_near_end.Goals as goal

pub returns-then-token-eq0-clause-read : goal.returns-then-token-eq0-clause-read
returns-then-token-eq0-clause-read g c =
    let b = reader_bits c.args.reader.now in
    let after = reader_bits c.read_coeff_token.new.reader in
    let nc : to_z w8 (of_z w8 c.args.nc) ≡ c.args.nc = omega (arith, ints) in (
      no_levels g.row.MAXN c.args.nc c.in_ok-token.token b after c.in_ok-token.ensures.range.ones c.if-token-eq0.true (ap (λ n. coeff_token n b) (sym nc) ∙ c.in_ok-token.ensures.read.0)
          ∙ ap (λ l. Ok (l, after)) (sym c.clear.ensures),
      c.in_ok-token.ensures.read.1,
    )

pub returns-in-Ok-clause-read : goal.returns-in-Ok-clause-read
returns-in-Ok-clause-read g c =
    let b = reader_bits c.args.reader.now in
    let nc : to_z w8 (of_z w8 c.args.nc) ≡ c.args.nc = omega (arith, ints) in (
      behind_token g.row.MAXN c.args.nc c.in_ok-token.token b (reader_bits c.read_coeff_token.new.reader) (ap (λ n. coeff_token n b) (sym nc) ∙ c.in_ok-token.ensures.read.0)
          ∙ c.in-Ok.ensures.read.0
          ∙ ap (λ l. Ok (l, reader_bits c.read_behind_near_end.new.reader)) (sym c.put.ensures),
      c.in-Ok.ensures.read.1 ∙ c.in_ok-token.ensures.read.1,
    )

pub returns-in-Err-clause-read : goal.returns-in-Err-clause-read
returns-in-Err-clause-read g c =
    let b = reader_bits c.args.reader.now in
    let nc : to_z w8 (of_z w8 c.args.nc) ≡ c.args.nc = omega (arith, ints) in
    behind_token g.row.MAXN c.args.nc c.in_ok-token.token b (reader_bits c.read_coeff_token.new.reader) (ap (λ n. coeff_token n b) (sym nc) ∙ c.in_ok-token.ensures.read.0)
    ∙ c.in-Err.ensures.read
