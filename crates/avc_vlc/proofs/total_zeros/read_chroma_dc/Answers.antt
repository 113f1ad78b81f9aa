use Rattle.avc_vlc.proofs.Entries.{◌≡◌, ◌-◌, refl, arith, sym, subst, Reads, row_at, row_table, table_code, total_zeros_chroma_dc}
use Rattle.avc_vlc.proofs.total_zeros.read_chroma_dc.Goals as goal

pub returns-in-0-to-1-clause-read : goal.returns-in-0-to-1-clause-read
returns-in-0-to-1-clause-read c =
    let first : c.args.total - 1 ≡ 0 = omega arith in
    subst (λ k. Reads c.number_by-in-0-to-1.result (table_code (row_table (row_at total_zeros_chroma_dc k))) c.args.reader.now c.number_by-in-0-to-1.new.reader) (sym first)
    (c.number_by-in-0-to-1.ensures.read (row_table (row_at total_zeros_chroma_dc 0)) (record { same = refl }))

pub returns-in-2-clause-read : goal.returns-in-2-clause-read
returns-in-2-clause-read c =
    let second : c.args.total - 1 ≡ 1 = omega (arith, c.in-2.is) in
    subst (λ k. Reads c.number_by.result (table_code (row_table (row_at total_zeros_chroma_dc k))) c.args.reader.now c.number_by.new.reader) (sym second)
    (c.number_by.ensures.read (row_table (row_at total_zeros_chroma_dc 1)) (record { same = refl }))

pub returns-in-3-clause-read : goal.returns-in-3-clause-read
returns-in-3-clause-read c =
    let third : c.args.total - 1 ≡ 2 = omega (arith, c.in-3.is) in
    subst (λ k. Reads c.number_by-in-3.result (table_code (row_table (row_at total_zeros_chroma_dc k))) c.args.reader.now c.number_by-in-3.new.reader) (sym third)
    (c.number_by-in-3.ensures.read (row_table (row_at total_zeros_chroma_dc 2)) (record { same = refl }))
