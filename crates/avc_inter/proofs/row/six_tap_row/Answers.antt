use Rattle.avc_inter.proofs.SixRows.{ℤ, ◌≡◌, ◌≤ℤ◌, ◌∙◌, pos, neg_ℤ, to_z, of_z, w16, w32, arith, ints, length-put_chunk, taps_at, stored, stored_more}
use Rattle.avc_inter.proofs.row.six_tap_row.Goals as goal

-- a sum of sixteen bits in a wider number
same_wider : (r s : ℤ) → r ≡ to_z w16 (of_z w16 s) → neg_ℤ (pos 2550) ≤ℤ s → s ≤ℤ pos 10710 → to_z w32 (of_z w32 r) ≡ s
same_wider r s is low high = omega (arith, ints, is, low, high)

pub wide-preserved : goal.wide-preserved
wide-preserved c = record {
  within = rw length-put_chunk (omega arith);
  done = stored_more (λ k v. v ≡ taps_at c.args.src.now k) _ _ c.wide.at (omega arith) c.taps16.ensures.long c.taps16.ensures.fits c.wide.invariant.done c.taps16.ensures.at;
}

pub loop-i-preserved : goal.loop-i-preserved
loop-i-preserved c =
    stored (λ k v. v ≡ taps_at c.args.src.now k) c.loop-i.dst c.loop-i.i _ (pos 0) (omega arith)
    (same_wider c.from.result c.taps-sum.result c.from.ensures c.taps-sum.ensures.low c.taps-sum.ensures.high ∙ c.taps-sum.ensures.value) c.loop-i.invariant
