use Rattle.avc_params.proofs.ParameterSets.{◌≡◌, to_z, of_z, w32, ints, ◌∙◌, refl, cycle, answers_fault, arith}
use Rattle.avc_params.proofs.sps_reading.read_cycle.Goals as goal

pub returns : goal.returns
returns c =
    let zero_flag = c.in_ok-delta_pic_order_always_zero_flag.ensures.read in
    let non_ref = c.in_ok-offset_for_non_ref_pic.ensures.read in
    let bottom = c.in_ok-offset_for_top_to_bottom_field.ensures.read in
    let count = c.in_ok-num_ref_frames_in_pic_order_cnt_cycle.ensures.read in
    let offsets = c.in_ok-offset_for_ref_frame.ensures.read in
    let first : to_z w32 (of_z w32 c.in_ok-offset_for_non_ref_pic.offset_for_non_ref_pic) ≡ c.in_ok-offset_for_non_ref_pic.offset_for_non_ref_pic = omega (arith, ints) in
    let second : to_z w32 (of_z w32 c.in_ok-offset_for_top_to_bottom_field.offset_for_top_to_bottom_field) ≡ c.in_ok-offset_for_top_to_bottom_field.offset_for_top_to_bottom_field = omega (arith, ints) in
    record {
      read = (
        rw (first, second, zero_flag.0, non_ref.0, bottom.0, count.0, offsets.0) refl,
        offsets.1 ∙ count.1 ∙ bottom.1 ∙ non_ref.1 ∙ zero_flag.1,
      );
    }

pub returns-in_err-offset_for_ref_frame : goal.returns-in_err-offset_for_ref_frame
returns-in_err-offset_for_ref_frame c =
    let zero_flag = c.in_ok-delta_pic_order_always_zero_flag.ensures.read in
    let non_ref = c.in_ok-offset_for_non_ref_pic.ensures.read in
    let bottom = c.in_ok-offset_for_top_to_bottom_field.ensures.read in
    let count = c.in_ok-num_ref_frames_in_pic_order_cnt_cycle.ensures.read in
    record {
      read = answers_fault c.from_residual-in_err-offset_for_ref_frame.result cycle c.args.reader.now c.read_times.new.reader c.in_err-offset_for_ref_frame.field-0.0
          c.from_residual-in_err-offset_for_ref_frame.ensures.1
          (rw (zero_flag.0, non_ref.0, bottom.0, count.0, c.in_err-offset_for_ref_frame.ensures.read) refl);
    }

pub read_times-requires : goal.read_times-requires
read_times-requires c = (omega arith, c.in_ok-num_ref_frames_in_pic_order_cnt_cycle.ensures.most)
