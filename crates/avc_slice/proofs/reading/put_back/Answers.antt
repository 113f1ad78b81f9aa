use Rattle.avc_slice.proofs.ReadUnder.{◌≡◌, ◌∙◌, refl, arith, ints, to_z, of_z, w32, back, size_in_mbs, in_picture, fills_fault}
use Rattle.avc_slice.proofs.reading.put_back.Goals as goal

pub returns : goal.returns
returns c =
    let inside = in_picture c.args.front.first_mb_in_slice c.size_in_mbs.result (size_in_mbs c.args.sps.now) c.if-front-size_in_mbs.false c.size_in_mbs.ensures in
    let numbers = c.in_ok-numbers.ensures in
    let list = c.in_ok-list.ensures in
    let marked = c.in_ok-put_reference_marking.ensures in
    let filtering = c.in_ok-filtering.ensures in
    let delta : to_z w32 (of_z w32 c.in_ok-filtering.filtering.slice_qp_delta) ≡ c.in_ok-filtering.filtering.slice_qp_delta = omega (arith, ints) in (
      rw (c.new-place.ensures, c.position-place.ensures, delta, inside, numbers.0, ← c.is_p.ensures, list.0, marked.0, filtering.0) refl,
      filtering.1 ∙ marked.1 ∙ list.1 ∙ numbers.1,
    )

pub returns-in_err-numbers : goal.returns-in_err-numbers
returns-in_err-numbers c =
    let inside = in_picture c.args.front.first_mb_in_slice c.size_in_mbs.result (size_in_mbs c.args.sps.now) c.if-front-size_in_mbs.false c.size_in_mbs.ensures in
    fills_fault c.from_residual.result _ (back c.args.nal_ref_idc c.args.idr c.args.front c.args.pps.now c.args.sps.now) c.args.reader.now c.read_numbers.new.reader c.in_err-numbers.field-0.0
    c.from_residual.ensures.1 (rw (inside, c.in_err-numbers.ensures) refl)

pub returns-in_err-list : goal.returns-in_err-list
returns-in_err-list c =
    let inside = in_picture c.args.front.first_mb_in_slice c.size_in_mbs.result (size_in_mbs c.args.sps.now) c.if-front-size_in_mbs.false c.size_in_mbs.ensures in
    fills_fault c.from_residual-in_err-list.result _ (back c.args.nal_ref_idc c.args.idr c.args.front c.args.pps.now c.args.sps.now) c.args.reader.now c.put_list_part.new.reader c.in_err-list.field-0.0
    c.from_residual-in_err-list.ensures.1 (rw (inside, c.in_ok-numbers.ensures.0, ← c.is_p.ensures, c.in_err-list.ensures) refl)

pub returns-in_err-put_reference_marking : goal.returns-in_err-put_reference_marking
returns-in_err-put_reference_marking c =
    let inside = in_picture c.args.front.first_mb_in_slice c.size_in_mbs.result (size_in_mbs c.args.sps.now) c.if-front-size_in_mbs.false c.size_in_mbs.ensures in
    fills_fault c.from_residual-in_err-put_reference_marking.result _ (back c.args.nal_ref_idc c.args.idr c.args.front c.args.pps.now c.args.sps.now) c.args.reader.now c.put_reference_marking.new.reader c.in_err-put_reference_marking.field-0.0
    c.from_residual-in_err-put_reference_marking.ensures.1 (rw (inside, c.in_ok-numbers.ensures.0, ← c.is_p.ensures, c.in_ok-list.ensures.0, c.in_err-put_reference_marking.ensures) refl)

pub returns-in_err-filtering : goal.returns-in_err-filtering
returns-in_err-filtering c =
    let inside = in_picture c.args.front.first_mb_in_slice c.size_in_mbs.result (size_in_mbs c.args.sps.now) c.if-front-size_in_mbs.false c.size_in_mbs.ensures in
    fills_fault c.from_residual-in_err-filtering.result _ (back c.args.nal_ref_idc c.args.idr c.args.front c.args.pps.now c.args.sps.now) c.args.reader.now c.read_filtering.new.reader c.in_err-filtering.field-0.0
    c.from_residual-in_err-filtering.ensures.1 (rw (inside, c.in_ok-numbers.ensures.0, ← c.is_p.ensures, c.in_ok-list.ensures.0, c.in_ok-put_reference_marking.ensures.0, c.in_err-filtering.ensures) refl)
