-- The first macroblocks of a picture as they are decoded one after another, whatever macroblocks
-- and slices come behind them.
use Rattle.std.specs.Prelude.{◌≡◌, ℕ, ◌≤◌, ◌<◌, true, List, ◌++◌, length, map, Some, None, Result}
use Rattle.std.specs.Prelude.{Ok, Err, slice_index_or}
use Rattle.avc_types.specs.declared.fault.Fault.{Fault}
use Rattle.avc_types.specs.Pictures.{Coded, PicMb, SliceInfo, Frame}
use Rattle.avc_params.specs.declared.sps.Sps.{Sps}
use Rattle.avc_params.specs.declared.pps.Pps.{Pps}
use Rattle.avc_params.specs.Limits.{width_in_mbs, height_in_mbs}
use Rattle.avc_neigh.specs.declared.neighbour_info.NeighbourInfo.{NeighbourInfo}
use Rattle.avc_neigh.specs.Around.{PictureInfo, is_intra_info}
use Rattle.avc_neigh.specs.Laws.{InfoTell, TellSlices, TellTotalCoeffs}
use Rattle.avc_neigh.specs.Modes.{modes_before}
use Rattle.avc_motion.specs.Motion.{motion_before, is_intra, slice_info, frame_named}
use Rattle.avc_plane.specs.Planes.{Planes}
use Rattle.avc_deblock.specs.FilterInfo.{Names, HaveInfo}
use Rattle.avc_deblock.specs.declared.mb_info.MbInfo.{MbInfo}
use Rattle.avc_picture_core.specs.Canvas.{CanvasState}
use Rattle.avc_picture_core.specs.Faults.{is_picture, macroblock_fault}
use Rattle.avc_picture_core.specs.References.{AreReferences}
use Rattle.avc_picture.specs.RowLate.{row_late}
use Rattle.avc_picture.specs.Sizes.{IsSized}
use Rattle.avc_picture.specs.declared.slice_context.SliceContext.{SliceContext}

-- What the decoder has of a picture's macroblocks so far.
pub record MbsState : Type 0 where
  -- their samples, filtered one row late
  pub canvas : CanvasState
  -- what their neighbours are told
  pub row : PictureInfo
  -- what the deblocking filter is told of them
  pub filter_info : List MbInfo
  -- the address of the macroblock that comes next
  pub next : ℕ

-- of the same size in macroblocks
pub record HasSameSize (old new : MbsState) : Type 0 where
  pub width : new.canvas.width ≡ old.canvas.width
  pub height : new.canvas.height ≡ old.canvas.height

-- d is a picture that begins with the macroblocks and the slices of c.
pub record BeginsWith (d c : Coded) : Type 0 where
  pub width : d.width ≡ c.width
  pub height : d.height ≡ c.height
  pub offset : d.chroma_qp_index_offset ≡ c.chroma_qp_index_offset
  pub constrained : d.constrained_intra_pred ≡ c.constrained_intra_pred
  pub later_mbs : List PicMb
  pub mbs : d.mbs ≡ c.mbs ++ later_mbs
  pub later_slices : List SliceInfo
  pub slices : d.slices ≡ c.slices ++ later_slices

-- c is a picture of these parameter sets.
pub record HasSets (sps : Sps) (pps : Pps) (c : Coded) : Type 0 where
  pub width : c.width ≡ width_in_mbs sps
  pub height : c.height ≡ height_in_mbs sps
  pub offset : c.chroma_qp_index_offset ≡ pps.chroma_qp_index_offset
  pub constrained : c.constrained_intra_pred ≡ pps.constrained_intra_pred_flag

-- whether each is intra
abbrev pub TellIntra : List PicMb → List NeighbourInfo → Type 0
TellIntra = InfoTell (λ m. is_intra m.mb.syntax) is_intra_info

-- What neighbours are told of the first n macroblocks.
pub record HasNeighbourInfo (c : Coded) (n : ℕ) (info : List NeighbourInfo) : Type 0 where
  pub count : length info ≡ n
  pub slices : TellSlices c.mbs info
  pub total_coeffs : TellTotalCoeffs c.mbs info
  pub intra : TellIntra c.mbs info
  pub motion : map (λ f. f.motion) info ≡ motion_before c n
  pub modes : map (λ f. f.modes) info ≡ modes_before c n

-- The first macroblocks of picture c have been decoded: their samples, filtered one row late, and
-- their info for neighbours and filter. `names` has the numbers of the stored frames.
pub record HoldsFirst (c : Coded) (names : Names) (m : MbsState) : Type 0 where
  pub within : m.next ≤ length c.mbs
  pub width : m.canvas.width ≡ c.width
  pub height : m.canvas.height ≡ c.height
  pub offset : m.canvas.chroma_qp_index_offset ≡ c.chroma_qp_index_offset
  pub constrained : m.canvas.constrained_intra_pred ≡ c.constrained_intra_pred
  -- the planes that they were decoded in, with any samples
  pub begun : Planes
  pub begun_sized : IsSized c.width c.height begun
  pub built : m.canvas.planes ≡ row_late c begun m.next
  pub neighbours : HasNeighbourInfo c m.next m.row.info
  pub filter : HaveInfo c (motion_before c (length c.mbs)) names 0 m.filter_info

-- Reference index r of the slice names the frame with this number.
pub record HasNumber (c : Coded) (names : Names) (slice r number : ℕ) : Type 0 where
  pub frame : Frame
  pub named : frame_named c slice r ≡ Some frame
  pub decoding_index : frame.decoding_index ≡ names.decoding_index number
  pub within : number < names.count

-- What the code knows of a slice is what the picture says of it.
pub record IsSlice {PAD : ℕ} (c : Coded) (names : Names) (s : SliceContext PAD) : Type 0 where
  pub references : AreReferences c s.number s.references
  -- of each reference index that names a picture
  pub numbers : (r : ℕ) → is_picture (frame_named c s.number r) ≡ true →
      HasNumber c names s.number r (slice_index_or s.frame_numbers r 0)
  pub edges : s.filtered_edges ≡ (slice_info c s.number).disable_deblocking_filter_idc
  pub offset_a : s.offset_a ≡ (slice_info c s.number).filter_offset_a
  pub offset_b : s.offset_b ≡ (slice_info c s.number).filter_offset_b

-- One macroblock more was decoded, or refused by the first of its faults.
abbrev pub IsDecoded : Coded → Names → (address : ℕ) → Result (Unit {0}) Fault → (new : MbsState) →
    Type 0
IsDecoded c names address (Ok done) new =
    (macroblock_fault c address ≡ None) × HoldsFirst c names new
IsDecoded c names address (Err f) new = macroblock_fault c address ≡ Some f
