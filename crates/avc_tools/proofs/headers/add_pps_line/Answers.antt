use Rattle.avc_tools.proofs.Taking.{decimal, newline, pps_fields, pps_flags, pps_identity, line_put}
use Rattle.avc_tools.proofs.headers.add_pps_line.Goals as goal

pub returns : goal.returns
returns c =
    line_put _ (decimal c.args.index) (pps_identity c.args.pps.now) (pps_fields c.args.pps.now) (pps_flags c.args.pps.now) newline _ _ _ _ _
    c.in_ok-begin_line.ensures c.in_ok-add_pps_identity.ensures c.in_ok-add_pps_fields.ensures c.in_ok-add_pps_flags.ensures c.in_ok-end_line.ensures
