-- The units of parameter sets (7.3.1, 7.3.2).
use Rattle.std.specs.Prelude.{◌≡◌, ℕ, List, drop, Ok}
use Rattle.avc_annexb.specs.Escapes.{rbsp}
use Rattle.avc_rbsp.specs.Rbsps.{IsUnit}
use Rattle.avc_make_headers.specs.PpsWriting.{pps_bits}
use Rattle.avc_make_headers.specs.SpsWriting.{IsWritable, sps_bits}
use Rattle.avc_params.specs.Reading.{pps_of, sps_of}
use Rattle.avc_params.specs.Within.{IsPps, IsSps}
use Rattle.avc_params.specs.declared.pps.Pps.{Pps}
use Rattle.avc_params.specs.declared.sps.Sps.{Sps}

-- nal_ref_idc 3 and nal_unit_type 7 (7.3.1)
abbrev pub sps_header : ℕ
sps_header = 0x67

-- nal_ref_idc 3 and nal_unit_type 8 (7.3.1)
abbrev pub pps_header : ℕ
pps_header = 0x68

-- The unit of a picture parameter set in its ranges is read as that set.
abbrev pub PpsIsRead : Type 0
PpsIsRead = (pps : Pps) (unit : List ℕ) → IsPps pps → IsUnit pps_header (pps_bits pps) unit →
    pps_of (rbsp (drop 1 unit)) ≡ Ok pps

-- The unit of a sequence parameter set in its ranges and of a size that is taken is read as that
-- set.
abbrev pub SpsIsRead : Type 0
SpsIsRead = (sps : Sps) (unit : List ℕ) → IsWritable sps → IsSps sps →
    IsUnit sps_header (sps_bits sps) unit → sps_of (rbsp (drop 1 unit)) ≡ Ok sps
