use Rattle.avc_vlc.proofs.Entries.{◌≡◌, ℕ, ◌-◌, List, [], refl, ap, arith, Some, None, Err, slice_get_past, Bits, reader_bits, total_zeros_4x4}
use Rattle.avc_vlc.proofs.Entries.{false, row_at, row_table, table_code, zeros_table}
use Rattle.avc_types.specs.declared.fault.Fault.TheVariants as faults
use Rattle.avc_vlc.proofs.total_zeros.read_4x4.Goals as goal

no_codeword : (row : List (ℕ × ℕ)) (b : Bits) → row ≡ [] → table_code (row_table row) b ≡ Err faults.BadCode
no_codeword row b none = rw none refl

pub returns-then-total-gt15-clause-read : goal.returns-then-total-gt15-clause-read
returns-then-total-gt15-clause-read c =
    let past : row_at total_zeros_4x4 (c.args.total - 1) ≡ [] =
    ap (λ o. elim o [ Some row ↦ row | None ↦ [] ]) (slice_get_past total_zeros_4x4 (c.args.total - 1) (omega arith)) in
    no_codeword (row_at total_zeros_4x4 (c.args.total - 1)) (reader_bits c.args.reader.now) past

pub returns-then-has_many-clause-read : goal.returns-then-has_many-clause-read
returns-then-has_many-clause-read c =
    c.read.ensures.read (zeros_table c.args.total false) (c.zeros_entry.ensures.decides (reader_bits c.args.reader.now).ahead c.look-code.ensures)
