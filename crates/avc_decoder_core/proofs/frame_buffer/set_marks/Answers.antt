use Rattle.avc_decoder_core.proofs.Sequences.{◌<◌, ◌≤◌, length, take, sym, ap, subst, arith, no_marks_set, marks_more, all_marks_set, length-all_marks}
use Rattle.avc_decoder_core.proofs.frame_buffer.set_marks.Goals as goal

pub loop-place-init : goal.loop-place-init
loop-place-init c = no_marks_set c.args.dpb.now

pub mark-requires : goal.mark-requires
mark-requires c =
    let long = length-all_marks c.args.dpb.now c.loop-place.dpb (take c.loop-place.place c.args.marked.now) c.loop-place.invariant in
    let low : c.loop-place.place < length c.args.dpb.now.frames = subst (λ fs. c.loop-place.place < length fs) c.frames-count.ensures c.loop-place-test.true in
    subst (λ n. c.loop-place.place < n) (sym long) low

pub loop-place-preserved : goal.loop-place-preserved
loop-place-preserved c =
    let low : c.loop-place.place < length c.args.dpb.now.frames = subst (λ fs. c.loop-place.place < length fs) c.frames-count.ensures c.loop-place-test.true in
    let low' : c.loop-place.place < length c.args.marked.now = omega (arith, low, c.requires) in
    marks_more c.args.dpb.now c.args.marked.now c.loop-place.place _ c.loop-place.dpb c.mark.new.self low low' c.loop-place.invariant c.mark.ensures

pub returns : goal.returns
returns c =
    let all : length c.args.dpb.now.frames ≤ c.loop-place.place = omega (arith, c.loop-place-test.false, ap length c.frames-count.ensures) in
    all_marks_set c.args.dpb.now c.loop-place.dpb c.args.marked.now c.loop-place.place all c.loop-place.invariant
