use Rattle.std.proofs.Common.{rules, ◌≡◌, ℕ, Some, subst, sym}
use Rattle.avc_params.specs.Tables.{sets_after}
use Rattle.avc_slice.specs.Within.{IsHeader}
use Rattle.avc_tests.proofs.SetsInForce.{within_sets}
use Rattle.avc_tests.proofs.open_picture.slice_of.Goals as goal

pub returns : goal.returns
returns c =
    let sets = sets_after c.args.table.now in
    let bytes : c.from_vec.result ≡ c.args.rbsp.now = search rules in
    let pps_0 : c.in_ok-header.header.pic_parameter_set_id ≡ 0 = search rules in
    let sps_0 : (c.args.pps.now).seq_parameter_set_id ≡ 0 = search rules in
    subst (λ rbsp. IsHeader c.args.sps.now c.args.pps.now rbsp c.in_ok-header.header) (sym bytes)
    (within_sets sets c.args.rbsp.now c.in_ok-header.header c.args.pps.now c.args.sps.now c.in_ok-header.ensures.kept
    (subst (λ (id : ℕ). sets.pps id ≡ Some c.args.pps.now) (sym pps_0) c.requires.pps)
    (subst (λ (id : ℕ). sets.sps id ≡ Some c.args.sps.now) (sym sps_0) c.requires.sps))
