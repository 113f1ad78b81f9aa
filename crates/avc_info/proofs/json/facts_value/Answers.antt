use Rattle.avc_info.specs.Json.{clock_of, sequence_if_given}
use Rattle.avc_info.proofs.Noted.{◌∙◌, ap, refl, serde_json_on_literals, view-Object, object, members_view, bit_rate, count_if_given, duration, kinds_data, sizes_data, with_one}
use Rattle.avc_info.proofs.json.facts_value.Goals as goal

pub returns : goal.returns
unfolding serde_json_on_literals
returns c =
    let f = c.args.facts.now in
    let none = ap members_view c.new-map.ensures.empty in
    let timing = c.clock_of-timing.ensures ∙ ap clock_of c.sequence.ensures in
    let bits =
    with_one _ _ _ _ _ _ c.in_ok-put.ensures.ok
    (c.count_if_given-bits.ensures ∙ ap count_if_given (c.bit_rate.ensures ∙ ap (λ t. bit_rate t c.args.bytes f.counts.pictures) timing)) none in
    let sequences = with_one _ _ _ _ _ _ c.in_ok-put_count.ensures refl bits in
    let lasts =
    with_one _ _ _ _ _ _ c.in_ok-put-2.ensures.ok
    (c.count_if_given-lasts.ensures ∙ ap count_if_given (c.duration.ensures ∙ ap (λ t. duration t f.counts.pictures) timing)) sequences in
    let refusal = with_one _ _ _ _ _ _ c.in_ok-put-3.ensures.ok c.in_ok-first_refusal.ensures lasts in
    let others = with_one _ _ _ _ _ _ c.in_ok-put-4.ensures.ok c.from-others.ensures refusal in
    let pictures = with_one _ _ _ _ _ _ c.in_ok-put_count-2.ensures refl others in
    let refusals =
    with_one _ _ _ _ _ _ c.in_ok-put-5.ensures.ok (c.in_ok-kinds.ensures ∙ ap kinds_data c.kinds.ensures) pictures in
    let refused_set = with_one _ _ _ _ _ _ c.in_ok-put-6.ensures.ok c.in_ok-refused_set.ensures refusals in
    let refused = with_one _ _ _ _ _ _ c.in_ok-put_count-3.ensures refl refused_set in
    let sequence =
    with_one _ _ _ _ _ _ c.in_ok-put-7.ensures.ok (c.in_ok-sequence.ensures ∙ ap sequence_if_given c.sequence-2.ensures) refused in
    let sizes =
    with_one _ _ _ _ _ _ c.in_ok-put-8.ensures.ok (c.in_ok-sizes.ensures ∙ ap sizes_data c.as_slice.ensures) sequence in
    let slices = with_one _ _ _ _ _ _ c.in_ok-put_count-4.ensures refl sizes in
    view-Object c.put_count-4.new.map ∙ ap object slices
