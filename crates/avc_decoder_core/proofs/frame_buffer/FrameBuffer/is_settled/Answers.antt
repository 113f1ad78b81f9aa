use Rattle.avc_decoder_core.proofs.Sequences.{◌≡◌, ◌∙◌, ◌+◌, ◌-◌, ◌≤◌, false, length, map, ap, sym, subst, arith, marked_frame, max_frame_num}
use Rattle.avc_decoder_core.proofs.Sequences.{CountsReferences, frame_nums_from, history_of, IsLongGap, settles_at, long_gap, few_frames}
use Rattle.avc_decoder_core.proofs.frame_buffer.FrameBuffer.is_settled.Goals as goal

pub returns : goal.returns
returns c = λ settles.
    let i = c.self.inside in
    let sps = c.args.sps.now in
    let numbers = c.args.numbers.now in
    let on : i.failed ≡ false = ap (λ v. v.failed) c.self.view_is ∙ c.requires.going in
    let h = history_of i.history.items in
    let state = c.self.invariant on in
    let shorts = c.short_term_count-shorts.result in
    let frames = c.frames-frames.ensures in
    let first = length c.frames-frames.result.now - shorts in
    let low = (c.from-2.result + c.from-max.result) - shorts in
    let max_is : c.from-max.result ≡ max_frame_num sps = c.from-max.ensures ∙ c.max_frame_num-2.ensures in
    let long : length c.frames-frames.result.now ≡ length i.dpb.frames = ap length frames in
    let full : c.count.result ≡ c.reference_limit.result = omega arith in
    let room : length i.dpb.frames ≤ c.dpb_size.result = omega arith in
    subst (λ v. IsLongGap v.output sps v.history numbers) c.self.view_is
    (long_gap h i.dpb i.max_long_term_frame_idx i.prev_ref_frame_num state sps numbers c.in-Some.number shorts first low c.count.result
    (c.in-Some.ensures.numbers ∙ ap (λ m. frame_nums_from m c.in-Some.number (length numbers)) c.max_frame_num.ensures)
    (omega arith)
    (let z : first + shorts ≡ length i.dpb.frames = omega arith in z)
    (omega arith)
    (omega arith)
    (few_frames h i.dpb i.max_long_term_frame_idx i.prev_ref_frame_num state)
    (subst (λ l. CountsReferences l c.count.result) (c.as_slice.ensures.value ∙ c.marked_frames-marked.ensures ∙ ap (map marked_frame) frames) c.count.ensures.references)
    (full ∙ c.reference_limit.ensures)
    (subst (λ n. length i.dpb.frames ≤ n) c.dpb_size.ensures room)
    (λ p within. ap (λ m. settles_at i.dpb first low m p) (sym max_is) ∙ c.all_settle.ensures settles p within))
