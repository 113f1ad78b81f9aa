use Rattle.avc_poc.proofs.OrderCounts.{◌∙◌, ◌+◌, counted_from, some_numbers}
use Rattle.avc_poc.proofs.poc.Poc.missing_from.Goals as goal

pub returns : goal.returns
returns c older at =
    let sps = c.args.sps.now in
    let inside = c.self.inside in
    let last = c.from.result + c.from-2.result in
    counted_from sps c.args.first c.args.count last c.next_offset-offset.result c.offset_at-self-inside.result c.from-3.result
    (record { previous = inside.previous; offset = inside.offset; frame_num = inside.frame_num }) older c.gaps_count_at_once.ensures
    c.requires.first (some_numbers sps.log2_max_frame_num_minus4) (c.self.view_is ∙ at) c.if-count-eq0.false
    (cc (c.from-3.ensures, c.max_frame_num-max.ensures)) (cc (c.from.ensures, c.from-2.ensures)) (cc (c.next_offset-offset.ensures.value, c.from-3.ensures))
    (cc (c.offset_at-self-inside.ensures.value, c.from-3.ensures))
