-- The slices of one picture, in the order of checks.
use Rattle.std.specs.Prelude.{ℕ, zero, suc, ◌+◌, pos, ◌+ℤ◌, nat_abs, Bool, true, false, ◌==◌}
use Rattle.std.specs.Prelude.{nat_lt, if◌then◌else◌, List, [], ◌∷◌, ◌++◌, length, map, Option, Some}
use Rattle.std.specs.Prelude.{None, Result, Ok, Err}
use Rattle.std.specs.Option.{option_map}
use Rattle.std.specs.List.{find}
use Rattle.avc_types.specs.declared.current_frame_num.CurrentFrameNum.{CurrentFrameNum}
use Rattle.avc_types.specs.declared.edges.FilteredEdges.TheVariants.{All}
use Rattle.avc_types.specs.declared.fault.Fault.{Fault}
use Rattle.avc_types.specs.declared.fault.Fault.TheVariants as faults
use Rattle.avc_types.specs.declared.references.Modification.{Modification}
use Rattle.avc_types.specs.References.{Reference}
use Rattle.avc_types.specs.Macroblock.{Mb}
use Rattle.avc_types.specs.Pictures.{Samples, Frame, SliceInfo, PicMb, Coded}
use Rattle.avc_params.specs.declared.sps.Sps.{Sps}
use Rattle.avc_params.specs.declared.pps.Pps.{Pps}
use Rattle.avc_params.specs.Limits.{width_in_mbs, height_in_mbs, size_in_mbs, max_frame_num}
use Rattle.avc_bits.specs.Bits.{Bits, at}
use Rattle.avc_slice.specs.declared.header.Deblocking.{Deblocking}
use Rattle.avc_slice.specs.declared.header.Header.{Header}
use Rattle.avc_slice.specs.declared.slice.Slice.{Slice}
use Rattle.avc_slice.specs.Header.{is_p, slice_qp}
use Rattle.avc_slice.specs.Weights.{weights}
use Rattle.avc_reflist.specs.Lists.{reference_list}
use Rattle.avc_mbsyntax.specs.SliceData.{SliceStart, SliceMbs, slice_data}
use Rattle.avc_plane.specs.Planes.{Planes, StoredFrame, samples_of}
use Rattle.avc_picture_core.specs.Faults.{macroblock_fault}
use Rattle.avc_picture.specs.Decoded.{deblocked}

-- What a picture's slices are decoded with: its parameter sets, and the reference frames with their
-- samples.
pub record PictureStart : Type 0 where
  pub sps : Sps
  pub pps : Pps
  pub frames : List StoredFrame

-- the bits of a slice after its header: slice_data (7.3.4)
abbrev pub data_of : Slice → Bits
data_of s = at s.rbsp (s.header).position

-- the reference frames without their samples, as lists are made of them (8.2.4)
abbrev pub references_in : PictureStart → List Reference
references_in p = map (λ f. f.reference) p.frames

-- the samples of a frame that has none, a non-existing one (8.2.5.2): no prediction reads them
-- (this decoder's rule)
abbrev no_samples : Samples
no_samples c x y = 0

-- the samples of a reference frame, where it is found and is a picture
abbrev samples_in : Option StoredFrame → Samples
samples_in None = no_samples
samples_in (Some f) = elim f.planes [ Some planes ↦ samples_of planes | None ↦ no_samples ]

-- a reference frame as predictions name it (8.4.2.1)
abbrev pub frame_of : PictureStart → Reference → Frame
frame_of p r = record {
  decoding_index = r.decoding_index;
  existing = r.existing;
  samples = samples_in (find (λ f. (f.reference).decoding_index == r.decoding_index) p.frames);
}

-- ---- one slice

-- the fields, and what is inferred where they are not coded (7.4.3)
abbrev pub deblocking_of : Option Deblocking → Deblocking
deblocking_of (Some d) = d
deblocking_of None = record {
  disable_deblocking_filter_idc = All;
  slice_alpha_c0_offset_div2 = pos 0;
  slice_beta_offset_div2 = pos 0;
}

-- the modifications; none where ref_pic_list_modification_flag_l0 is 0 (7.3.3.1)
abbrev pub or_empty : Option (List Modification) → List Modification
or_empty (Some m) = m
or_empty None = []

-- frame_num of the picture, and MaxFrameNum (7.4.3)
abbrev pub current_of : PictureStart → Header → CurrentFrameNum
current_of p h = record { frame_num = h.frame_num; max_frame_num = max_frame_num p.sps }

-- RefPicList0 (8.2.4); in an I slice no entry
abbrev pub list_of : PictureStart → Header → Result (List (Option Reference)) Fault
list_of p h =
    elim (is_p h) [
      | true ↦ reference_list (current_of p h) h.num_ref_idx_active (or_empty h.modifications)
          (references_in p)
      | false ↦ Ok []
    ]

-- what decoding asks of a slice: its RefPicList0, its weights (8.4.2.3), and FilterOffsetA and
-- FilterOffsetB, which are slice_alpha_c0_offset_div2 and slice_beta_offset_div2 shifted by one
-- (7.4.3)
abbrev pub info_of : PictureStart → Header → List (Option Reference) → SliceInfo
info_of p h list =
    let d = deblocking_of h.deblocking in
    record {
      is_p = is_p h;
      references = map (option_map (frame_of p)) list;
      weights = weights h;
      disable_deblocking_filter_idc = d.disable_deblocking_filter_idc;
      filter_offset_a = d.slice_alpha_c0_offset_div2 +ℤ d.slice_alpha_c0_offset_div2;
      filter_offset_b = d.slice_beta_offset_div2 +ℤ d.slice_beta_offset_div2;
    }

-- what slice number n's data is read under (7.3.4, 7.4.3)
abbrev pub start_of : PictureStart → Header → (n : ℕ) → SliceStart
start_of p h n = record {
  is_p = is_p h;
  num_ref_idx_active = h.num_ref_idx_active;
  qp = nat_abs (slice_qp p.pps h.slice_qp_delta);
  slice = n;
  width = width_in_mbs p.sps;
  size = size_in_mbs p.sps;
}

-- ---- the slices so far

-- The macroblocks that could be read, what is known of each slice that they lie in, the first fault
-- with its unit, and how many macroblocks have been read up to there (this decoder's rule).
pub record Progress : Type 0 where
  pub mbs : List PicMb
  pub slices : List SliceInfo
  pub fault : Option (ℕ × Fault)
  pub read : ℕ

-- before the first slice
abbrev pub none_yet : Progress
none_yet = record { mbs = []; slices = []; fault = None; read = 0 }

-- the picture as far as it is decoded
abbrev pub coded_of : PictureStart → Progress → Coded
coded_of p progress = record {
  width = width_in_mbs p.sps;
  height = height_in_mbs p.sps;
  chroma_qp_index_offset = (p.pps).chroma_qp_index_offset;
  constrained_intra_pred = (p.pps).constrained_intra_pred_flag;
  slices = progress.slices;
  mbs = progress.mbs;
}

-- The first of n macroblocks from address a on that has VectorRange, RefMissing or
-- IntraUnavailable, as the number of macroblocks up to it, itself included, and its fault (this
-- decoder's rule).
abbrev pub first_mb_fault : Coded → (a n : ℕ) → Option (ℕ × Fault)
first_mb_fault c a zero = None
first_mb_fault c a (suc n) =
    elim (macroblock_fault c a) [
      | Some f ↦ Some (1, f)
      | None ↦ option_map (λ found. (found.0 + 1, found.1)) (first_mb_fault c (a + 1) n)
    ]

-- the first fault, with the slice's unit (this decoder's rule)
abbrev pub refused : Progress → (unit : ℕ) → Fault → Progress
refused progress unit f = record progress { fault = Some (unit, f) }

-- a fault of the slice's data with the slice's unit (this decoder's rule)
abbrev pub with_unit : (unit : ℕ) → Option Fault → Option (ℕ × Fault)
with_unit unit f = option_map (λ g. (unit, g)) f

-- the slices that macroblocks lie in, with one more where these macroblocks are its own: without
-- any it takes no number
abbrev pub with_info : List SliceInfo → SliceInfo → List Mb → List SliceInfo
with_info slices info [] = slices
with_info slices info (mb ∷ mbs) = slices ++ info ∷ []

-- all of the slice's data, as it is read under this info (7.3.4)
abbrev pub read_whole : Slice → (before : Progress) → SliceInfo → SliceMbs → Progress
read_whole s before info ms = record {
  mbs = before.mbs ++ map (λ mb. record { slice = length before.slices; mb = mb }) ms.mbs;
  slices = with_info before.slices info ms.mbs;
  fault = with_unit s.unit ms.fault;
  read = before.read + length ms.mbs;
}

-- the fault of the first macroblock that has one comes before that of the data; the macroblocks up
-- to it, itself included, count as read (this decoder's rule)
abbrev pub with_first_fault : Slice → (before whole : Progress) → Option (ℕ × Fault) → Progress
with_first_fault s before whole None = whole
with_first_fault s before whole (Some found) = record whole {
  fault = Some (s.unit, found.1);
  read = before.read + found.0;
}

-- The slice's data has been read: its faults are those of its macroblocks, lowest address first,
-- and then its own (this decoder's rule).
abbrev pub with_slice_data : PictureStart → Slice → (before : Progress) → SliceInfo → SliceMbs →
    Progress
with_slice_data p s before info ms =
    let whole = read_whole s before info ms in
    with_first_fault s before whole
    (first_mb_fault (coded_of p whole) (length before.mbs) (length ms.mbs))

-- its list, then its macroblocks (the order is this decoder's rule)
abbrev pub with_reference_list : PictureStart → Slice → Progress →
    Result (List (Option Reference)) Fault → Progress
with_reference_list p s before (Err f) = refused before s.unit f
with_reference_list p s before (Ok list) =
    with_slice_data p s before (info_of p s.header list)
    (slice_data (start_of p s.header (length before.slices)) before.mbs (data_of s))

-- One slice more where there is no fault yet: its first address, its list, its macroblocks. It has
-- to go on where the slice before it ended, in a picture's first slice at 0 (this decoder's rule).
abbrev with_next_slice : PictureStart → Slice → Progress → Progress
with_next_slice p s before =
    let expected = length before.mbs in
    let first = (s.header).first_mb_in_slice in
    if nat_lt expected first then refused before s.unit faults.MissingMacroblocks
    else if nat_lt first expected then refused before s.unit faults.ArbitrarySliceOrder
    else with_reference_list p s before (list_of p s.header)

-- One slice more. After a fault the slices change nothing (this decoder's rule).
abbrev pub with_slice : PictureStart → Slice → Progress → Progress
with_slice p s before = elim before.fault [ Some f ↦ before | None ↦ with_next_slice p s before ]

-- After these slices, the newest first.
abbrev pub progress : PictureStart → List Slice → Progress
progress p [] = none_yet
progress p (s ∷ earlier) = with_slice p s (progress p earlier)

-- the picture is full: its next expected address is its number of macroblocks
abbrev pub is_full : PictureStart → Progress → Bool
is_full p g = length g.mbs == size_in_mbs p.sps

-- the planes of these slices' macroblocks after all filters (8.7)
abbrev pub planes_after_slices : PictureStart → List Slice → Planes
planes_after_slices p slices = deblocked (coded_of p (progress p slices))
