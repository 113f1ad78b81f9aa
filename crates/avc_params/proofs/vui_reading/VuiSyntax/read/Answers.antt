use Rattle.avc_params.proofs.ParameterSets.{◌∙◌, refl, vui, answers_fault}
use Rattle.avc_params.proofs.vui_reading.VuiSyntax.read.Goals as goal

pub returns : goal.returns
returns c =
    let aspect = c.in_ok-aspect.ensures.read in
    let overscan = c.in_ok-overscan_appropriate_flag.ensures.read in
    let signal = c.in_ok-video_signal.ensures.read in
    let location = c.in_ok-chroma_location.ensures.read in
    let timing = c.in_ok-timing.ensures.read in
    let nal = c.in_ok-nal_hrd.ensures.read in
    let vcl = c.in_ok-vcl_hrd.ensures.read in
    let low_delay = c.in_ok-low_delay_hrd_flag.ensures.read in
    let structs = c.in_ok-pic_struct_present_flag.ensures.read in
    let restricted = c.in_ok-restriction.ensures.read in
    record {
      read = (
        rw (aspect.0, overscan.0, signal.0, location.0, timing.0, nal.0, vcl.0, ← c.is_some.ensures, ← c.is_some-2.ensures, low_delay.0, structs.0, restricted.0) refl,
        restricted.1 ∙ structs.1 ∙ low_delay.1 ∙ vcl.1 ∙ nal.1 ∙ timing.1 ∙ location.1 ∙ signal.1 ∙ overscan.1 ∙ aspect.1,
      );
    }

pub returns-in_err-restriction : goal.returns-in_err-restriction
returns-in_err-restriction c =
    let aspect = c.in_ok-aspect.ensures.read in
    let overscan = c.in_ok-overscan_appropriate_flag.ensures.read in
    let signal = c.in_ok-video_signal.ensures.read in
    let location = c.in_ok-chroma_location.ensures.read in
    let timing = c.in_ok-timing.ensures.read in
    let nal = c.in_ok-nal_hrd.ensures.read in
    let vcl = c.in_ok-vcl_hrd.ensures.read in
    let low_delay = c.in_ok-low_delay_hrd_flag.ensures.read in
    let structs = c.in_ok-pic_struct_present_flag.ensures.read in
    record {
      read = answers_fault c.from_residual-in_err-restriction.result vui c.args.reader.now c.read_optional-8.new.reader c.in_err-restriction.field-0.0
          c.from_residual-in_err-restriction.ensures.1
          (rw (aspect.0, overscan.0, signal.0, location.0, timing.0, nal.0, vcl.0, ← c.is_some.ensures, ← c.is_some-2.ensures, low_delay.0, structs.0, c.in_err-restriction.ensures.read) refl);
    }

pub returns-in_err-pic_struct_present_flag : goal.returns-in_err-pic_struct_present_flag
returns-in_err-pic_struct_present_flag c =
    let aspect = c.in_ok-aspect.ensures.read in
    let overscan = c.in_ok-overscan_appropriate_flag.ensures.read in
    let signal = c.in_ok-video_signal.ensures.read in
    let location = c.in_ok-chroma_location.ensures.read in
    let timing = c.in_ok-timing.ensures.read in
    let nal = c.in_ok-nal_hrd.ensures.read in
    let vcl = c.in_ok-vcl_hrd.ensures.read in
    let low_delay = c.in_ok-low_delay_hrd_flag.ensures.read in
    record {
      read = answers_fault c.from_residual-in_err-pic_struct_present_flag.result vui c.args.reader.now c.flag.new.self c.in_err-pic_struct_present_flag.field-0.0
          c.from_residual-in_err-pic_struct_present_flag.ensures.1
          (rw (aspect.0, overscan.0, signal.0, location.0, timing.0, nal.0, vcl.0, ← c.is_some.ensures, ← c.is_some-2.ensures, low_delay.0, c.in_err-pic_struct_present_flag.ensures.read) refl);
    }
