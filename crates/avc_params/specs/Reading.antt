-- What the RBSP of a parameter set says (7.3.2.1, 7.3.2.2), and which id it has. The bits that are
-- left before the stop bit don't matter (this decoder's rule).
use Rattle.std.specs.Prelude.{ℕ, List, Option, Some, None, Result, Ok, Err}
use Rattle.std.specs.Option.{option_map}
use Rattle.avc_bits.specs.Bits.{Bits, Read, start}
use Rattle.avc_bits.specs.Codes.{ue_to}
use Rattle.avc_params.specs.PpsReading.{pps}
use Rattle.avc_params.specs.SpsReading.{identity, sps}
use Rattle.avc_params.specs.declared.pps.Pps.{Pps}
use Rattle.avc_params.specs.declared.set_unit.SetFault.{SetFault}
use Rattle.avc_params.specs.declared.sps.Sps.{Sps}

-- what the part reads; none where it is refused
abbrev pub read_value : {A : Type 0} → Read A → Bits → Option A
read_value part b = elim (part b) [ Ok r ↦ Some r.0 | Err _ ↦ None ]

-- seq_parameter_set_id, where it is read in range (7.3.2.1.1, 7.4.2.1.1)
abbrev pub sps_id : List ℕ → Option ℕ
sps_id rbsp = option_map (λ head. head.seq_parameter_set_id) (read_value identity (start rbsp))

-- pic_parameter_set_id, likewise (7.3.2.2, 7.4.2.2)
abbrev pub pps_id : List ℕ → Option ℕ
pps_id rbsp = read_value (ue_to 255) (start rbsp)

-- the value, or why the set is refused, with its id where that was read in range (this decoder's
-- rule)
abbrev pub whole : {A : Type 0} → Read A → Option ℕ → Bits → Result A SetFault
whole part id b = elim (part b) [ Ok r ↦ Ok r.0 | Err f ↦ Err (record { id = id; fault = f }) ]

-- the sequence parameter set in an RBSP (7.3.2.1), or why it is refused
abbrev pub sps_of : List ℕ → Result Sps SetFault
sps_of rbsp = whole sps (sps_id rbsp) (start rbsp)

-- the picture parameter set in an RBSP (7.3.2.2), or why it is refused
abbrev pub pps_of : List ℕ → Result Pps SetFault
pps_of rbsp = whole pps (pps_id rbsp) (start rbsp)
