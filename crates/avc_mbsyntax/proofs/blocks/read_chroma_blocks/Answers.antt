use Rattle.avc_mbsyntax.proofs.SliceDataReading.{◌≡◌, ◌∙◌, true, Ok, arith, rules, ap, refl, subst, sym, ◌==◌, All, option_copied, All-replicate, reader_bits}
use Rattle.avc_mbsyntax.proofs.SliceDataReading.{small_none, AreSmall, no_levels, all_read, block_fault, block_read, no_chroma, none_read}
use Rattle.avc_mbsyntax.proofs.blocks.read_chroma_blocks.Goals as goal

pub returns-then-chroma_pattern-ne2-clause-read : goal.returns-then-chroma_pattern-ne2-clause-read
returns-then-chroma_pattern-ne2-clause-read c =
    (no_chroma c.args.chroma_pattern (option_copied c.args.left) (option_copied c.args.up) (reader_bits c.args.reader.now) (λ e. absurd (omega arith)) ∙ ap (λ l. Ok (l, reader_bits c.args.reader.now)) (sym c.clear.ensures), refl)

pub returns-then-chroma_pattern-ne2-clause-small : goal.returns-then-chroma_pattern-ne2-clause-small
returns-then-chroma_pattern-ne2-clause-small c = subst (All AreSmall) (sym c.clear.ensures) (All-replicate AreSmall 4 (no_levels 15) (λ i. small_none 15 i))

pub each-init : goal.each-init
each-init c = record { are = none_read (omega (arith, c.told-levels)); bytes = refl }

pub returns-in_err-read_coded-clause-read : goal.returns-in_err-read_coded-clause-read
returns-in_err-read_coded-clause-read c =
    let coded : c.args.chroma_pattern == 2 ≡ true = rw c.if-chroma_pattern-ne2.false refl in
    let fault = block_fault c.each.invariant.are (omega arith) coded (rw c.nc_chroma-nc.ensures at c.in_err-read_coded.ensures.read) in
    search rules

pub returns-clause-read : goal.returns-clause-read
returns-clause-read c = ((all_read c.each.invariant.are (omega arith)).0, c.each.invariant.bytes)

pub each-preserved : goal.each-preserved
each-preserved c =
    let coded : c.args.chroma_pattern == 2 ≡ true = rw c.if-chroma_pattern-ne2.false refl in
    rw c.total_coeff.ensures (record {
      are = block_read c.each.invariant.are (omega arith) coded (rw c.nc_chroma-nc.ensures at c.in_ok-read_coded.ensures.read.0) c.in_ok-read_coded.ensures.small;
      bytes = c.in_ok-read_coded.ensures.read.1 ∙ c.each.invariant.bytes;
    })

pub returns-clause-small : goal.returns-clause-small
returns-clause-small c = (all_read c.each.invariant.are (omega arith)).1
