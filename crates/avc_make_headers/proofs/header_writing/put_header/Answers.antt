use Rattle.avc_make_headers.proofs.Headers.{modifications_small, weights_small}
use Rattle.avc_make_headers.proofs.header_writing.put_header.Goals as goal

pub put_list-requires-clause-list : goal.put_list-requires-clause-list
put_list-requires-clause-list c = modifications_small c.args.sps.now c.args.pps.now c.args.header.now c.requires

pub put_list-requires-clause-weights : goal.put_list-requires-clause-weights
put_list-requires-clause-weights c = weights_small c.args.sps.now c.args.pps.now c.args.header.now c.requires
