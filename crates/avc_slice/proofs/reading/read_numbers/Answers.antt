use Rattle.avc_slice.proofs.ReadUnder.{◌∙◌, refl, numbers, answers_fault}
use Rattle.avc_slice.proofs.reading.read_numbers.Goals as goal

pub returns : goal.returns
returns c =
    let frame_num = c.in_ok-frame_num.ensures.read in
    let idr_pic_id = c.in_ok-idr_pic_id.ensures in
    let order = c.in_ok-order.ensures in
    let redundant = c.in_ok-redundant_pic_cnt.ensures in (
      rw (← c.from.ensures, frame_num.0, c.if-idr-frame_num.false, idr_pic_id.0, order.0, redundant.0) refl,
      redundant.1 ∙ order.1 ∙ idr_pic_id.1 ∙ frame_num.1,
    )

pub returns-then-idr-frame_num : goal.returns-then-idr-frame_num
returns-then-idr-frame_num c = rw (← c.from.ensures, c.in_ok-frame_num.ensures.read.0, c.if-idr-frame_num.true) refl

pub returns-in_err-frame_num : goal.returns-in_err-frame_num
returns-in_err-frame_num c =
    answers_fault c.from_residual.result (numbers c.args.idr c.args.pps.now c.args.sps.now) c.args.reader.now c.u.new.self c.in_err-frame_num.field-0.0 c.from_residual.ensures.1
    (rw (← c.from.ensures, c.in_err-frame_num.ensures.read) refl)

pub returns-in_err-idr_pic_id : goal.returns-in_err-idr_pic_id
returns-in_err-idr_pic_id c =
    answers_fault c.from_residual-in_err-idr_pic_id.result (numbers c.args.idr c.args.pps.now c.args.sps.now) c.args.reader.now c.read_idr_pic_id.new.reader c.in_err-idr_pic_id.field-0.0 c.from_residual-in_err-idr_pic_id.ensures.1
    (rw (← c.from.ensures, c.in_ok-frame_num.ensures.read.0, c.if-idr-frame_num.false, c.in_err-idr_pic_id.ensures) refl)

pub returns-in_err-order : goal.returns-in_err-order
returns-in_err-order c =
    answers_fault c.from_residual-in_err-order.result (numbers c.args.idr c.args.pps.now c.args.sps.now) c.args.reader.now c.read_order.new.reader c.in_err-order.field-0.0 c.from_residual-in_err-order.ensures.1
    (rw (← c.from.ensures, c.in_ok-frame_num.ensures.read.0, c.if-idr-frame_num.false, c.in_ok-idr_pic_id.ensures.0, c.in_err-order.ensures) refl)

pub returns-in_err-redundant_pic_cnt : goal.returns-in_err-redundant_pic_cnt
returns-in_err-redundant_pic_cnt c =
    answers_fault c.from_residual-in_err-redundant_pic_cnt.result (numbers c.args.idr c.args.pps.now c.args.sps.now) c.args.reader.now c.read_redundant_pic_cnt.new.reader c.in_err-redundant_pic_cnt.field-0.0 c.from_residual-in_err-redundant_pic_cnt.ensures.1
    (rw (← c.from.ensures, c.in_ok-frame_num.ensures.read.0, c.if-idr-frame_num.false, c.in_ok-idr_pic_id.ensures.0, c.in_ok-order.ensures.0, c.in_err-redundant_pic_cnt.ensures) refl)
