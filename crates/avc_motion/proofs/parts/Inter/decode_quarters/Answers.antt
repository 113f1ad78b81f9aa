use Rattle.avc_motion.proofs.MacroblockMotion.{Err, slice_index_or, ◌≡◌, ◌∙◌, rules, arith, sym, ap, parts_of_quarter, quarter_x, quarter_y, Sub8x8}
use Rattle.avc_motion.proofs.MacroblockMotion.{info_of, motion_near, decoded, decodes_ok, decodes_err, quarter_goes_on, quarter_stops, all_behind}
use Rattle.avc_motion.proofs.parts.Inter.decode_quarters.Goals as goal

pub returns-in_err-decode_quarter-clause-motion : goal.returns-in_err-decode_quarter-clause-motion
returns-in_err-decode_quarter-clause-motion c =
    let near = motion_near (info_of c.args.self.now.neighbours.now) in
    let shape = c.args.self.now.mb_type.now in
    let refs = c.args.self.now.ref_idx.now in
    let mine = c.loop-quarter.mine in
    let q = c.loop-quarter.quarter in
    let used = c.loop-quarter.used in
    let e : c.from_residual.result ≡ Err c.in_err-decode_quarter.field-0.0 = search rules in
    let told = decodes_err c.decode_quarter.result c.in_err-decode_quarter.field-0.0 _ _ c.in_err-decode_quarter.was c.decode_quarter.ensures in
    let ps = parts_of_quarter (slice_index_or c.args.sub_mb_type.now q Sub8x8) (quarter_x q) (quarter_y q) q in
    rw e (
      told.0,
      quarter_stops near shape refs mine c.args.sub_mb_type.now c.args.mvd.now q used Sub8x8 (omega arith) _ c.loop-quarter.invariant.so_far
          (ap (λ ms. decoded near shape refs mine ps ms) (sym (all_behind c.args.mvd.now used 16 (omega arith))) ∙ told.1),
    )

pub loop-quarter-preserved : goal.loop-quarter-preserved
loop-quarter-preserved c =
    let near = motion_near (info_of c.args.self.now.neighbours.now) in
    let shape = c.args.self.now.mb_type.now in
    let refs = c.args.self.now.ref_idx.now in
    let mine = c.loop-quarter.mine in
    let q = c.loop-quarter.quarter in
    let used = c.loop-quarter.used in
    let told = decodes_ok c.decode_quarter.result _ _ _ c.in_ok-decode_quarter.was c.decode_quarter.ensures in
    let ps = parts_of_quarter (slice_index_or c.args.sub_mb_type.now q Sub8x8) (quarter_x q) (quarter_y q) q in
    record {
      few = omega (arith, c.part_count-used.ensures.few, c.loop-quarter.invariant.few);
      so_far = quarter_goes_on near shape refs mine c.args.sub_mb_type.now c.args.mvd.now q used Sub8x8 (omega arith) _ c.loop-quarter.invariant.so_far
          c.decode_quarter.new.mine c.part_count-used.result (c.part_count-used.ensures.count (quarter_x q) (quarter_y q) q)
          (omega (arith, c.part_count-used.ensures.few, c.loop-quarter.invariant.few))
          (ap (λ ms. decoded near shape refs mine ps ms) (sym (all_behind c.args.mvd.now used 16 (omega arith))) ∙ told);
    }
