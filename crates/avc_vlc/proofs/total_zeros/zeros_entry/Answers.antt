use Rattle.avc_vlc.proofs.Entries.{ℕ, refl, subst, ◌∙◌, total_zeros_4x4, Decides, Table, row_at, row_table}
use Rattle.avc_vlc.proofs.total_zeros.zeros_entry.Goals as goal

pub returns-clause-decides : goal.returns-clause-decides
returns-clause-decides c = λ ahead is.
    let each : ℕ → Table ℕ = λ k. row_table (row_at total_zeros_4x4 k) in
    subst (λ k. Decides (each k) ahead c.number_in.result) (c.from.ensures ∙ c.saturating_sub.ensures) (c.number_in.ensures.decides each ahead (record { long = refl; same = refl }) is)

pub returns-clause-short : goal.returns-clause-short
returns-clause-short c = c.number_in.ensures.short 9 refl
