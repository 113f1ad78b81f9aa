use Rattle.avc_tools.proofs.Taking.{decimal, newline, sps_frames, sps_identity, sps_size, line_put}
use Rattle.avc_tools.proofs.headers.add_sps_line.Goals as goal

pub returns : goal.returns
returns c =
    line_put _ (decimal c.args.index) (sps_identity c.args.sps.now) (sps_size c.args.sps.now) (sps_frames c.args.sps.now) newline _ _ _ _ _
    c.in_ok-begin_line.ensures c.in_ok-add_sps_identity.ensures c.in_ok-add_sps_size.ensures c.in_ok-add_sps_frames.ensures c.in_ok-end_line.ensures
