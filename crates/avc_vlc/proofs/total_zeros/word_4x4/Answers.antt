use Rattle.avc_vlc.proofs.Entries.{◌≡◌, ◌≤◌, ℕ, refl, subst, ◌∙◌, ap, sym, arith, is_number_same, is_written, row_past, total_zeros_4x4, Table, row_at, row_table, word_of, option_map}
use Rattle.avc_vlc.specs.Writing.{word_bits}
use Rattle.avc_vlc.proofs.total_zeros.word_4x4.Goals as goal

pub returns-then-table-lt15 : goal.returns-then-table-lt15
returns-then-table-lt15 c =
    let each : ℕ → Table ℕ = λ k. row_table (row_at total_zeros_4x4 k) in
    subst (λ k. option_map word_bits c.in_table.result ≡ word_of (is_number_same c.args.zeros) (each k)) (c.from-table.ensures ∙ c.saturating_sub.ensures)
    (c.in_table.ensures each (
      is_written refl refl,
      (
        is_written refl refl,
        (
          is_written refl refl,
          (
            is_written refl refl,
            (
              is_written refl refl,
              (
                is_written refl refl,
                (
                  is_written refl refl,
                  (
                    is_written refl refl,
                    (
                      is_written refl refl,
                      (
                        is_written refl refl,
                        (is_written refl refl, (is_written refl refl, (is_written refl refl, (is_written refl refl, (is_written refl refl, tt))))),
                      ),
                    ),
                  ),
                ),
              ),
            ),
          ),
        ),
      ),
    ))

pub returns-else-table-lt15 : goal.returns-else-table-lt15
returns-else-table-lt15 c =
    let is = c.from-table.ensures ∙ c.saturating_sub.ensures in
    let past : 15 ≤ c.from-table.result = omega arith in
    sym (ap (λ r. word_of (is_number_same c.args.zeros) (row_table r)) (ap (row_at total_zeros_4x4) (sym is) ∙ row_past total_zeros_4x4 c.from-table.result past))
