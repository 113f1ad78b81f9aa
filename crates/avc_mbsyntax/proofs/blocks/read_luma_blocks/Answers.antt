use Rattle.avc_mbsyntax.proofs.SliceDataReading.{◌≡◌, ◌∙◌, true, false, Ok, arith, rules, ap, refl, subst, sym, All, option_copied, All-replicate, reader_bits}
use Rattle.avc_mbsyntax.proofs.SliceDataReading.{small_none, AreSmall, is_coded, no_levels, all_read, block_fault, block_passed, block_read, no_luma, none_read}
use Rattle.avc_mbsyntax.proofs.blocks.read_luma_blocks.Goals as goal

pub returns-then-luma_pattern-eq0-clause-small : goal.returns-then-luma_pattern-eq0-clause-small
returns-then-luma_pattern-eq0-clause-small g c = subst (All AreSmall) (sym c.clear.ensures) (All-replicate AreSmall 16 (no_levels g.row.MAXN) (λ i. small_none g.row.MAXN i))

pub returns-then-luma_pattern-eq0-clause-read : goal.returns-then-luma_pattern-eq0-clause-read
returns-then-luma_pattern-eq0-clause-read g c =
    (no_luma g.row.MAXN c.args.luma_pattern (option_copied c.args.left) (option_copied c.args.up) (reader_bits c.args.reader.now) (omega arith) ∙ ap (λ l. Ok (l, reader_bits c.args.reader.now)) (sym c.clear.ensures), refl)

pub each-init : goal.each-init
each-init g c = record { are = none_read (omega (arith, c.told-levels)); bytes = refl }

pub returns-in_err-read_coded-clause-read : goal.returns-in_err-read_coded-clause-read
returns-in_err-read_coded-clause-read g c =
    let coded : is_coded c.args.luma_pattern c.each.k ≡ true = search rules in
    let fault = block_fault c.each.invariant.are (omega arith) coded (rw c.nc_luma-nc.ensures at c.in_err-read_coded.ensures.read) in
    search rules

pub returns-clause-read : goal.returns-clause-read
returns-clause-read g c = ((all_read c.each.invariant.are (omega arith)).0, c.each.invariant.bytes)

pub each-preserved : goal.each-preserved
each-preserved g c =
    let coded : is_coded c.args.luma_pattern c.each.k ≡ true = search rules in
    rw c.total_coeff.ensures (record {
      are = block_read c.each.invariant.are (omega arith) coded (rw c.nc_luma-nc.ensures at c.in_ok-read_coded.ensures.read.0) c.in_ok-read_coded.ensures.small;
      bytes = c.in_ok-read_coded.ensures.read.1 ∙ c.each.invariant.bytes;
    })

pub each-preserved-then-not-is_coded : goal.each-preserved-then-not-is_coded
each-preserved-then-not-is_coded g c =
    let coded : is_coded c.args.luma_pattern c.each.k ≡ false = search rules in
    rw c.clear-then-not-is_coded.ensures (record { are = block_passed c.each.invariant.are (omega arith) coded; bytes = c.each.invariant.bytes })

pub returns-clause-small : goal.returns-clause-small
returns-clause-small g c = (all_read c.each.invariant.are (omega arith)).1
