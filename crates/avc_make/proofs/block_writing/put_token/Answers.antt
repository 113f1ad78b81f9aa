use Rattle.avc_make.proofs.Slices.{◌≡◌, ℤ, pos, ◌<ℤ◌, ◌≤◌, w8, to_z, of_z, subst, sym, arith, ints, token, token_word, word_bits, token_whole, is_some_given}
use Rattle.avc_make.proofs.block_writing.put_token.Goals as goal

pub put_word-requires : goal.put_word-requires
put_word-requires c =
    let nc = to_z w8 (of_z w8 c.args.nc) in
    let same : nc ≡ c.args.nc = omega (arith, ints, c.ranges.nc.sfits) in
    let t = token c.args.total c.args.ones in
    let chroma : nc <ℤ pos 0 → c.args.total ≤ 4 = let P : ℤ → Type 0 = λ n. n <ℤ pos 0 → c.args.total ≤ 4 in subst P (sym same) c.requires.chroma_dc in
    is_some_given c.coeff_token_word.result word_bits (token_word nc t) c.coeff_token_word.ensures
    (token_whole nc t (record { total = c.requires.most; ones = c.requires.ones; few_ones = c.requires.few_ones }) chroma)
