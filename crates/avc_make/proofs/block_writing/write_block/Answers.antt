use Rattle.avc_make.proofs.Slices.{pair, ◌≡◌, ◌≤◌, w8, to_z, of_z, subst, sym, arith, append_assoc, ints, nat_abs, values_of, All, coded_some}
use Rattle.avc_make.proofs.block_writing.write_block.Goals as goal

pub put_token-requires-clause-chroma_dc : goal.put_token-requires-clause-chroma_dc
put_token-requires-clause-chroma_dc g c = λ below.
    let same : to_z w8 (of_z w8 c.args.nc) ≡ c.args.nc = omega (arith, ints, c.ranges.nc.sfits) in
    let few = c.requires.chroma_dc (rw same at below) in
    omega (arith, few, c.of-found.ensures.size, c.len.ensures.value)

pub put_levels-requires-clause-some : goal.put_levels-requires-clause-some
put_levels-requires-clause-some g c =
    subst (λ f. All (λ l. 1 ≤ nat_abs l) (values_of f)) (sym c.of-found.ensures.value) (coded_some c.as_array.result.now)

pub zeros-zeros-requires : goal.zeros-zeros-requires
zeros-zeros-requires g c = omega (arith, c.of-found.ensures.size, c.requires.most)

pub put_zeros-requires-clause-within : goal.put_zeros-requires-clause-within
put_zeros-requires-clause-within g c = omega (arith, c.of-found.ensures.size, c.len-2.ensures.value, c.zeros-zeros.ensures)

pub put_runs-requires-clause-few : goal.put_runs-requires-clause-few
put_runs-requires-clause-few g c = omega (arith, c.of-found.ensures.size, c.zeros-zeros.ensures, c.requires.most)

pub returns : goal.returns
returns g c =
    let nc : to_z w8 (of_z w8 c.args.nc) ≡ c.args.nc = omega (arith, ints, c.ranges.nc.sfits) in
    pair c.in_ok-put_token.ensures.0 (rw (c.in_ok-put_runs.ensures.1, c.in_ok-put_zeros.ensures.1, c.in_ok-put_levels.ensures.1, c.in_ok-put_signs.ensures.1)
    (rw (c.in_ok-put_token.ensures.1, nc, c.zeros-zeros.ensures, c.trailing_ones-ones.ensures.value, c.len.ensures.value, c.len-2.ensures.value)
    (rw (c.of-found.ensures.value, c.as_array.ensures) (simp append_assoc))))
