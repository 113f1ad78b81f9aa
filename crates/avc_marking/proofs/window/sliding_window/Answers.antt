use Rattle.avc_marking.proofs.KeptFrames.{refilled, references-append, stand_as, arith, stand_before}
use Rattle.avc_marking.proofs.window.sliding_window.Goals as goal

pub returns-in_err-free_a_frame-clause-marks : goal.returns-in_err-free_a_frame-clause-marks
returns-in_err-free_a_frame-clause-marks c = λ idx indices decoding_index stand.
    grind (arith, c.in_err-free_a_frame.ensures indices (stand_as indices _ _ c.as_mut_slice.ensures.value (stand_before indices decoding_index _ stand)))

pub returns-clause-marks : goal.returns-clause-marks
returns-clause-marks c = λ idx indices decoding_index stand.
    let freed = c.in_ok-free_a_frame.ensures indices (stand_as indices _ _ c.as_mut_slice.ensures.value (stand_before indices decoding_index _ stand)) in
    grind (arith, refilled, references-append, freed)
