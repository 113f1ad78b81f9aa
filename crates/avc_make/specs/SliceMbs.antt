-- Units of slices of any macroblocks (7.3.2.8), and how they are read.
use Rattle.std.specs.Prelude.{◌≡◌, ℕ, ◌+◌, ◌<◌, ◌≤◌, nat_abs, List, Bool, false, ◌++◌, drop, length}
use Rattle.std.specs.Prelude.{replicate, None, Ok}
use Rattle.avc_types.specs.Pictures.{PicMb}
use Rattle.avc_annexb.specs.Escapes.{rbsp}
use Rattle.avc_bits.specs.Bits.{at}
use Rattle.avc_params.specs.Limits.{max_macroblocks, size_in_mbs, width_in_mbs}
use Rattle.avc_params.specs.Tables.{Sets}
use Rattle.avc_slice.specs.Header.{is_p, slice_qp}
use Rattle.avc_slice.specs.Reading.{header_in_rbsp}
use Rattle.avc_mbsyntax.specs.SliceData.{SliceStart, skipped, slice_data}
use Rattle.avc_rbsp.specs.Rbsps.{IsUnit}
use Rattle.avc_make.specs.DataWriting.{AreOthers, CanFollow, IsLike, data_bits}
use Rattle.avc_make_headers.specs.HeaderWriting.{IsHeader, header_bits, slice_unit_header}
use Rattle.avc_make_headers.specs.SliceUnits.{AreInForce, placed_header}
use Rattle.avc_make.specs.declared.slice.CodedSlice.{CodedSlice}

-- What its data is written under: it is slice 1 of its picture, and slice 0 has all macroblocks
-- before.
abbrev pub own_start : CodedSlice → SliceStart
own_start c = record {
  is_p = is_p c.header;
  num_ref_idx_active = c.header.num_ref_idx_active;
  qp = nat_abs (slice_qp c.pps c.header.slice_qp_delta);
  slice = 1;
  width = width_in_mbs c.sps;
  size = size_in_mbs c.sps;
}

-- a picture's macroblocks before the slice, of another slice: only their number matters to it
abbrev pub earlier_mbs : CodedSlice → List PicMb
earlier_mbs c = replicate c.header.first_mb_in_slice (record { slice = 0; mb = skipped 0 })

-- the header and then the data
abbrev pub coded_slice_bits : CodedSlice → List Bool
coded_slice_bits c =
    let header = header_bits c.sps c.pps c.header in
    header ++ data_bits (own_start c) (earlier_mbs c) (length header) c.macroblocks

-- A slice that can be written: its header is in its ranges, and its macroblocks can follow one
-- another. The data of an I slice has one at least (7.3.4); that of a P slice may be mb_skip_run
-- alone.
pub record IsCodedSlice (c : CodedSlice) : Type 0 where
  pub header : IsHeader c.sps c.pps c.header
  pub some : is_p c.header ≡ false → 1 ≤ length c.macroblocks
  pub few : length c.macroblocks ≤ max_macroblocks
  pub follow : CanFollow (own_start c) (earlier_mbs c) (own_start c).qp c.macroblocks

-- The unit is read as the slice: its header at its place, under any sets of which its own are in
-- force, and the bits after the header as its macroblocks, with no fault. The picture has room for
-- one and for all of them, and none of its macroblocks before is of the slice.
pub record IsReadBack (c : CodedSlice) (unit : List ℕ) : Type 0 where
  pub header_read : (sets : Sets) → AreInForce sets c.sps c.pps →
      header_in_rbsp (slice_unit_header c.header) sets (rbsp (drop 1 unit))
      ≡ Ok (placed_header c.sps c.pps c.header)
  pub macroblocks_read : (s : SliceStart) (before : List PicMb) → IsLike (own_start c) s →
      length before ≡ c.header.first_mb_in_slice →
      AreOthers s before → length before < s.size → length before + length c.macroblocks ≤ s.size →
      slice_data s before (at (rbsp (drop 1 unit)) (placed_header c.sps c.pps c.header).position)
      ≡ record {
        mbs = c.macroblocks;
        fault = None;
      }

-- Each slice that can be written is read back from its unit.
abbrev pub CodedSlicesAreRead : Type 0
CodedSlicesAreRead =
    (c : CodedSlice) (unit : List ℕ) → IsCodedSlice c →
    IsUnit (slice_unit_header c.header) (coded_slice_bits c) unit → IsReadBack c unit
