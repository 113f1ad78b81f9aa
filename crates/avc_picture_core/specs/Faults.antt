-- What refuses a macroblock that is read whole: its vectors, its reference pictures, its intra
-- predictions.
use Rattle.std.specs.Prelude.{ℕ, suc, Bool, true, false, not, ◌&&◌, if◌then◌else◌, Option, Some}
use Rattle.std.specs.Prelude.{None, slice_get, slice_index_or}
use Rattle.std.specs.List.{range_with_len, list_all}
use Rattle.avc_types.specs.declared.fault.Fault.{Fault}
use Rattle.avc_types.specs.declared.fault.Fault.TheVariants.{IntraUnavailable, VectorRange}
use Rattle.avc_types.specs.declared.fault.Fault.TheVariants.{RefMissing}
use Rattle.avc_types.specs.Macroblock.{MbSyntax, p_skip, i_pcm, i_nxn, i_16x16, p_inter}
use Rattle.avc_types.specs.Pictures.{Coded, PicMb, Frame}
use Rattle.avc_neigh.specs.declared.neighbour_info.NearMode.TheVariants.{Absent as absent}
use Rattle.avc_neigh.specs.Modes.{modes_before}
use Rattle.avc_motion.specs.Motion.{motion_before, is_in_range}
use Rattle.avc_intra.specs.Luma4x4.{can_predict4x4, mode4x4_of}
use Rattle.avc_intra.specs.Luma16x16.{can_predict16x16, mode16x16_of}
use Rattle.avc_intra.specs.Chroma.{can_predict_chroma, mode_chroma_of}
use Rattle.avc_picture_core.specs.Built.{Place, place_of, sides_of, reference_of, mode_number}

-- a frame that can be predicted from: one that is there, and no non-existing one (8.2.5.2)
abbrev pub is_picture : Option Frame → Bool
is_picture None = false
is_picture (Some f) = f.existing

-- each block of the macroblock has a picture to be predicted from (8.4.2.1)
abbrev pub has_references : Place → MbSyntax → Bool
has_references p p_skip = list_all (λ m. is_picture (reference_of p.coded p.slice m)) p.motion
has_references p (p_inter shape ref_idx mvd r) =
    list_all (λ m. is_picture (reference_of p.coded p.slice m)) p.motion
has_references p (i_pcm luma cb cr) = true
has_references p (i_nxn modes chroma r) = true
has_references p (i_16x16 m chroma r) = true

-- each intra prediction of the macroblock has the sides that it needs (8.3.1.2, 8.3.3, 8.3.4)
abbrev pub has_sides : Place → MbSyntax → Bool
has_sides p p_skip = true
has_sides p (p_inter shape ref_idx mvd r) = true
has_sides p (i_pcm luma cb cr) = true
has_sides p (i_16x16 m chroma r) =
    can_predict16x16 (sides_of p.coded p.address 0) (mode16x16_of m)
    && can_predict_chroma (sides_of p.coded p.address 0) (mode_chroma_of chroma)
has_sides p (i_nxn modes chroma r) =
    list_all (λ k. can_predict4x4 (sides_of p.coded p.address k)
    (mode4x4_of (mode_number (slice_index_or p.modes k absent)))) (range_with_len 0 16)
    && can_predict_chroma (sides_of p.coded p.address 0) (mode_chroma_of chroma)

-- why a macroblock whose vectors can be had has no samples, if it has none (this decoder's rule)
abbrev pub refusal : Place → Option Fault
refusal p =
    if not (has_references p p.mb.syntax) then Some RefMissing
    else (if not (has_sides p p.mb.syntax) then Some IntraUnavailable
    else None)

-- why a macroblock has no samples, if it has none: its vectors come first (8.4.1; the order is this
-- decoder's rule)
abbrev pub fault_of : Place → Option Fault
fault_of p = if not (list_all is_in_range p.motion) then Some VectorRange else refusal p

-- the same of the macroblock at address a, if the picture has it
abbrev pub fault_at : Coded → ℕ → Option PicMb → Option Fault
fault_at c a None = None
fault_at c a (Some m) = fault_of (place_of c (modes_before c (suc a)) (motion_before c (suc a)) a m)

-- the fault of the macroblock at address a, if it has one of these three (this decoder's rule)
abbrev pub macroblock_fault : Coded → ℕ → Option Fault
macroblock_fault c a = fault_at c a (slice_get c.mbs a)
