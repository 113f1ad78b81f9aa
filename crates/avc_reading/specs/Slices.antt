-- The macroblocks of pictures, as their slices are read one after another without being decoded.
use Rattle.std.specs.Prelude.{ℕ, ◌+◌, nat_lt, nat_abs, if◌then◌else◌, List, [], ◌∷◌, ◌++◌, length}
use Rattle.std.specs.Prelude.{map, Option, option_and_then}
use Rattle.std.specs.Option.{option_map}
use Rattle.avc_types.specs.declared.fault.Fault.TheVariants as faults
use Rattle.avc_types.specs.Macroblock.{Mb}
use Rattle.avc_bits.specs.Bits.{at}
use Rattle.avc_params.specs.Tables.{Sets}
use Rattle.avc_params.specs.declared.pps.Pps.{Pps}
use Rattle.avc_params.specs.declared.sps.Sps.{Sps}
use Rattle.avc_slice.specs.Header.{is_p, slice_qp}
use Rattle.avc_slice.specs.declared.header.Header.{Header}
use Rattle.avc_slice.specs.declared.slice.Slice.{Slice}
use Rattle.avc_mbsyntax.specs.SliceData.{SliceMbs, SliceStart, slice_data, stopped}
use Rattle.avc_selection.specs.Pictures.{OpenPicture}
use Rattle.avc_selection.specs.declared.derived.Derived.{Derived}
use Rattle.avc_reading.specs.Derived.{all_derived}

-- the sets that a slice header names (7.4.1.2.1)
abbrev pub sets_named : Sets → Header → Option (Pps × Sps)
sets_named sets h =
    option_and_then (λ pps. option_map (λ sps. (pps, sps)) (sets.sps pps.seq_parameter_set_id))
    (sets.pps h.pic_parameter_set_id)

-- what the data of a slice with this header is read under (7.3.4, 7.4.3)
abbrev pub start_of : OpenPicture → Pps → Header → SliceStart
start_of p pps h = record {
  is_p = is_p h;
  num_ref_idx_active = h.num_ref_idx_active;
  qp = nat_abs (slice_qp pps h.slice_qp_delta);
  slice = p.slices;
  width = p.width;
  size = p.size;
}

-- slice_data of a slice of this picture (7.3.4)
abbrev pub data_of : OpenPicture → Pps → Slice → SliceMbs
data_of p pps s = slice_data (start_of p pps s.header) p.mbs (at s.rbsp (s.header).position)

-- A slice goes on where the one before it ended, a picture's first at 0; else nothing of it is read
-- (this decoder's rule).
abbrev pub where_next : (expected first : ℕ) → SliceMbs → SliceMbs
where_next expected first ms =
    if nat_lt expected first then stopped faults.MissingMacroblocks
    else if nat_lt first expected then stopped faults.ArbitrarySliceOrder
    else ms

-- the macroblocks of a slice of this picture, and the fault that came then
abbrev pub macroblocks_of : OpenPicture → Pps → Slice → SliceMbs
macroblocks_of p pps s = where_next (length p.mbs) (s.header).first_mb_in_slice (data_of p pps s)

-- what follows for them from their neighbours
abbrev pub derived_in : OpenPicture → Pps → Slice → List Derived
derived_in p pps s =
    all_derived pps.constrained_intra_pred_flag (start_of p pps s.header) p.mbs p.known
    (macroblocks_of p pps s).mbs

-- one slice more, where it has macroblocks
abbrev pub one_more : (slices : ℕ) → List Mb → ℕ
one_more slices [] = slices
one_more slices (mb ∷ mbs) = slices + 1

-- the picture with the macroblocks of one slice more
abbrev pub with_macroblocks : OpenPicture → List Mb → List Derived → OpenPicture
with_macroblocks p mbs derived = record p {
  slices = one_more p.slices mbs;
  mbs = p.mbs ++ map (λ mb. record { slice = p.slices; mb = mb }) mbs;
  known = p.known ++ derived;
}
