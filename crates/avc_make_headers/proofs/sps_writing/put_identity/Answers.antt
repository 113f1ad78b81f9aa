use Rattle.avc_make_headers.proofs.Headers.{bits_of, constraint_bits, puts_then}
use Rattle.avc_make_headers.proofs.sps_writing.put_identity.Goals as goal

pub returns : goal.returns
returns c =
    let s = c.args.sps.now in
    puts_then c.args.maker.now _ _ (bits_of 8 s.profile_idc) _ c.in_ok-put.ensures
    (puts_then _ _ _ (constraint_bits s.constraint_flags) _ c.in_ok-put_constraints.ensures
    (puts_then _ _ _ (bits_of 2 s.reserved_zero_2bits) _ c.in_ok-put-2.ensures
    (puts_then _ _ _ (bits_of 8 s.level_idc) _ c.in_ok-put-3.ensures
    c.in_ok-ue.ensures)))
