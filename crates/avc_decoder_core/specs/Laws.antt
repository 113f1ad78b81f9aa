-- What holds of the output of every history.
use Rattle.std.specs.Prelude.{◌≡◌, ◌++◌, Ok}
use Rattle.avc_dpb.specs.declared.output.Output.{Output}
use Rattle.avc_params.specs.declared.sps.Sps.{Sps}
use Rattle.avc_slice.specs.declared.header.Header.{Header}
use Rattle.avc_decoder_core.specs.History.{History, history_at_opening}
use Rattle.avc_decoder_core.specs.Pictures.{held_pictures, output_pictures}

-- What goes out for the frame numbers that are missing before a picture is what goes first of the
-- pictures that are needed for output (C.4.5.3), and the others stay needed for output.
abbrev pub MissingNumbersKeepTheOrder : Type 0
MissingNumbersKeepTheOrder =
    (output : Output) (sps : Sps) (h : Header) (history full : History) →
    history_at_opening sps h history ≡ Ok full →
    held_pictures output history ≡ output_pictures output history full ++ held_pictures output full
