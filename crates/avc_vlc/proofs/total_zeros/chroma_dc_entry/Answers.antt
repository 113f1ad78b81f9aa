use Rattle.avc_vlc.proofs.Entries.{◌≡◌, ◌-◌, refl, arith, sym, subst, Decides, row_at, row_table, total_zeros_chroma_dc}
use Rattle.avc_vlc.proofs.total_zeros.chroma_dc_entry.Goals as goal

pub returns-in-0-to-1-clause-short : goal.returns-in-0-to-1-clause-short
returns-in-0-to-1-clause-short c = c.number_at-in-0-to-1.ensures.short 9 refl

pub returns-in-2-clause-short : goal.returns-in-2-clause-short
returns-in-2-clause-short c = c.number_at.ensures.short 9 refl

pub returns-in_default-clause-decides : goal.returns-in_default-clause-decides
returns-in_default-clause-decides c = λ ahead is.
    let last : c.args.total - 1 ≡ 2 = omega arith in
    subst (λ k. Decides (row_table (row_at total_zeros_chroma_dc k)) ahead c.number_at-in_default.result) (sym last)
    (c.number_at-in_default.ensures.decides (row_table (row_at total_zeros_chroma_dc 2)) ahead (record { same = refl }) is)

pub returns-in_default-clause-short : goal.returns-in_default-clause-short
returns-in_default-clause-short c = c.number_at-in_default.ensures.short 9 refl

pub returns-in-0-to-1-clause-decides : goal.returns-in-0-to-1-clause-decides
returns-in-0-to-1-clause-decides c = λ ahead is.
    let first : c.args.total - 1 ≡ 0 = omega arith in
    subst (λ k. Decides (row_table (row_at total_zeros_chroma_dc k)) ahead c.number_at-in-0-to-1.result) (sym first)
    (c.number_at-in-0-to-1.ensures.decides (row_table (row_at total_zeros_chroma_dc 0)) ahead (record { same = refl }) is)

pub returns-in-2-clause-decides : goal.returns-in-2-clause-decides
returns-in-2-clause-decides c = λ ahead is.
    let second : c.args.total - 1 ≡ 1 = omega (arith, c.in-2.is) in
    subst (λ k. Decides (row_table (row_at total_zeros_chroma_dc k)) ahead c.number_at.result) (sym second)
    (c.number_at.ensures.decides (row_table (row_at total_zeros_chroma_dc 1)) ahead (record { same = refl }) is)
