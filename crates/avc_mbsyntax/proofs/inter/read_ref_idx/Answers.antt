use Rattle.avc_mbsyntax.proofs.SliceDataReading.{◌≤◌, ◌-◌, ◌∙◌, sym, take, partitions, times, te_to, ref_idx_l0, All, gives-each, gives_te_to}
use Rattle.avc_mbsyntax.proofs.SliceDataReading.{if_gives_into, ref_idx_coded, reads_into_same}
use Rattle.avc_mbsyntax.proofs.inter.read_ref_idx.Goals as goal

pub returns-clause-read : goal.returns-clause-read
returns-clause-read c =
    let read = rw (c.partitions.ensures.value, c.from-most.ensures) at c.read_elements.ensures.read in
    reads_into_same c.read_elements.result (take (partitions c.args.mb_type.now) c.read_elements.new.elements) (times (partitions c.args.mb_type.now) (te_to (c.args.num_ref_idx_active - 1))) (ref_idx_l0 c.args.num_ref_idx_active c.args.mb_type.now) c.args.reader.now c.read_elements.new.reader
    (λ b. sym (ref_idx_coded c.args.num_ref_idx_active c.args.mb_type.now b (sym c.is_ref0.ensures ∙ c.if-is_ref0.false) c.if-num_ref_idx_active-le1.false)) read

pub returns-clause-range : goal.returns-clause-range
returns-clause-range c =
    let most = c.args.num_ref_idx_active - 1 in
    let count = partitions c.args.mb_type.now in
    let read = rw (c.partitions.ensures.value, c.from-most.ensures) at c.read_elements.ensures.read in
    if_gives_into (All (λ ref. ref ≤ most)) c.read_elements.result (take count c.read_elements.new.elements) (times count (te_to most)) c.args.reader.now c.read_elements.new.reader read (gives-each (λ ref. ref ≤ most) count (te_to most) (gives_te_to most))
