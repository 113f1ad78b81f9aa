-- Units of slices that are written: their headers.
use Rattle.std.specs.Prelude.{◌≡◌, List, ℕ, Bool, ◌++◌, length, drop, Some, Ok}
use Rattle.avc_annexb.specs.Escapes.{rbsp}
use Rattle.avc_rbsp.specs.Rbsps.{IsUnit}
use Rattle.avc_make_headers.specs.HeaderWriting.{IsHeader, header_bits, slice_unit_header}
use Rattle.avc_params.specs.Tables.{Sets}
use Rattle.avc_params.specs.declared.pps.Pps.{Pps}
use Rattle.avc_params.specs.declared.sps.Sps.{Sps}
use Rattle.avc_slice.specs.Reading.{header_in_rbsp}
use Rattle.avc_slice.specs.declared.header.Header.{Header}

-- Both sets are in force, each under its id.
pub record AreInForce (sets : Sets) (sps : Sps) (pps : Pps) : Type 0 where
  pub has_sps : sets.sps sps.seq_parameter_set_id ≡ Some sps
  pub has_pps : sets.pps pps.pic_parameter_set_id ≡ Some pps

-- The header as it is read: its position is where it ends.
abbrev pub placed_header : Sps → Pps → Header → Header
placed_header sps pps h = record h { position = length (header_bits sps pps h) }

-- In a unit of a header that can be written and of further bits, the header is read as it was,
-- under any sets of which its own are in force.
abbrev pub HeaderIsRead : Type 0
HeaderIsRead =
    (sets : Sets) (sps : Sps) (pps : Pps) (h : Header) (others : List Bool) (unit : List ℕ) →
    AreInForce sets sps pps → IsHeader sps pps h →
    IsUnit (slice_unit_header h) (header_bits sps pps h ++ others) unit →
    header_in_rbsp (slice_unit_header h) sets (rbsp (drop 1 unit)) ≡ Ok (placed_header sps pps h)
