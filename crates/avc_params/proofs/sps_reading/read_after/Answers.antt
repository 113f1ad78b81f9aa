use Rattle.avc_params.proofs.ParameterSets.{◌∙◌, refl, sym, ap, not, is_some, arith, reader_bits, gives-size, sps_after, answers_fault}
use Rattle.avc_params.proofs.sps_reading.read_after.Goals as goal

pub returns : goal.returns
returns c =
    let profile = sym c.if-not-is_known_profile.ensures in
    let level = ap is_some (sym c.max_dpb_mbs.ensures) ∙ c.is_none.ensures ∙ ap not c.if-is_none.false in
    let log2 = c.in_ok-log2_max_frame_num_minus4.ensures.read in
    let order = c.in_ok-order_count.ensures.read in
    let most = c.in_ok-max_num_ref_frames.ensures.read in
    let gaps = c.in_ok-gaps_in_frame_num_value_allowed_flag.ensures.read in
    let mbs = c.in_ok-size.ensures.read in
    let frames = c.in_ok-flag.ensures.read in
    let direct = c.in_ok-direct_8x8_inference_flag.ensures.read in
    let cropping = c.in_ok-frame_cropping.ensures.read in
    let vui = c.in_ok-vui.ensures.read in
    record {
      read = (
        rw (profile, level, log2.0, order.0, most.0, gaps.0, mbs.0, frames.0, c.if-not-branch.false, direct.0, cropping.0, vui.0) refl,
        vui.1 ∙ cropping.1 ∙ direct.1 ∙ frames.1 ∙ mbs.1 ∙ gaps.1 ∙ most.1 ∙ order.1 ∙ log2.1,
      );
    }

pub returns-in_err-vui : goal.returns-in_err-vui
returns-in_err-vui c =
    let profile = sym c.if-not-is_known_profile.ensures in
    let level = ap is_some (sym c.max_dpb_mbs.ensures) ∙ c.is_none.ensures ∙ ap not c.if-is_none.false in
    let log2 = c.in_ok-log2_max_frame_num_minus4.ensures.read in
    let order = c.in_ok-order_count.ensures.read in
    let most = c.in_ok-max_num_ref_frames.ensures.read in
    let gaps = c.in_ok-gaps_in_frame_num_value_allowed_flag.ensures.read in
    let mbs = c.in_ok-size.ensures.read in
    let frames = c.in_ok-flag.ensures.read in
    let direct = c.in_ok-direct_8x8_inference_flag.ensures.read in
    let cropping = c.in_ok-frame_cropping.ensures.read in
    record {
      read = answers_fault c.from_residual-in_err-vui.result (sps_after c.args.head) c.args.reader.now c.read_optional.new.reader c.in_err-vui.field-0.0
          c.from_residual-in_err-vui.ensures.1
          (rw (profile, level, log2.0, order.0, most.0, gaps.0, mbs.0, frames.0, c.if-not-branch.false, direct.0, cropping.0, c.in_err-vui.ensures.read) refl);
    }

pub returns-in_err-frame_cropping : goal.returns-in_err-frame_cropping
returns-in_err-frame_cropping c =
    let profile = sym c.if-not-is_known_profile.ensures in
    let level = ap is_some (sym c.max_dpb_mbs.ensures) ∙ c.is_none.ensures ∙ ap not c.if-is_none.false in
    let log2 = c.in_ok-log2_max_frame_num_minus4.ensures.read in
    let order = c.in_ok-order_count.ensures.read in
    let most = c.in_ok-max_num_ref_frames.ensures.read in
    let gaps = c.in_ok-gaps_in_frame_num_value_allowed_flag.ensures.read in
    let mbs = c.in_ok-size.ensures.read in
    let frames = c.in_ok-flag.ensures.read in
    let direct = c.in_ok-direct_8x8_inference_flag.ensures.read in
    record {
      read = answers_fault c.from_residual-in_err-frame_cropping.result (sps_after c.args.head) c.args.reader.now c.read_frame_cropping.new.reader c.in_err-frame_cropping.field-0.0
          c.from_residual-in_err-frame_cropping.ensures.1
          (rw (profile, level, log2.0, order.0, most.0, gaps.0, mbs.0, frames.0, c.if-not-branch.false, direct.0, c.in_err-frame_cropping.ensures.read) refl);
    }

pub read_frame_cropping-requires : goal.read_frame_cropping-requires
read_frame_cropping-requires c =
    let mbs = gives-size (reader_bits c.flag.new.self) (reader_bits c.read-2.new.reader) c.in_ok-size.size c.in_ok-size.ensures.read.0 in
    record { width = omega (arith, mbs.width); height = omega (arith, mbs.height) }
