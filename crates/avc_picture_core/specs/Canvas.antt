-- A picture that is being built, and what one of its macroblocks is built from, ITU-T H.264 clauses
-- 8.3 to 8.5.
use Rattle.std.specs.Prelude.{◌≡◌, ℕ, ◌+◌, ◌*◌, ◌<◌, ◌≤◌, ℤ, pos, ◌+ℤ◌, ◌-ℤ◌, nat_lt, Bool, true}
use Rattle.std.specs.Prelude.{not, ◌||◌, List, Option, Some, None, Result, Ok, Err}
use Rattle.avc_types.specs.declared.fault.Fault.{Fault}
use Rattle.avc_types.specs.Macroblock.{Mb, MbSyntax, p_skip, i_pcm, i_nxn, i_16x16, p_inter}
use Rattle.avc_neigh.specs.Around.{Around, is_intra_info}
use Rattle.avc_neigh.specs.Blocks.{block_x, block_y, block_at}
use Rattle.avc_neigh.specs.Laws.{is_there_near}
use Rattle.avc_neigh.specs.declared.neighbour_info.NeighbourInfo.{NeighbourInfo}
use Rattle.avc_motion.specs.Motion.{is_intra}
use Rattle.avc_mbsyntax.specs.Ranges.{IsResidual}
use Rattle.avc_intra.specs.declared.sides.Sides.{Sides}
use Rattle.avc_plane.specs.Planes.{Planes, empty_planes}
use Rattle.avc_picture_core.specs.Built.{Place, planes_after, sides_of}
use Rattle.avc_picture_core.specs.Faults.{refusal}
use Rattle.avc_picture_core.specs.References.{AreReferences}
use Rattle.avc_picture_core.specs.declared.inter.ReferencePicture.{ReferencePicture}
use Rattle.avc_picture_core.specs.declared.places.MbPlace.{MbPlace}

-- Its size in macroblocks, what its picture parameter set says of all its macroblocks, and its
-- planes with those so far in them.
pub record CanvasState : Type 0 where
  pub width : ℕ
  pub height : ℕ
  pub chroma_qp_index_offset : ℤ
  pub constrained_intra_pred : Bool
  pub planes : Planes

-- with no macroblock yet
abbrev pub blank : (width height : ℕ) → (chroma_qp_index_offset : ℤ) →
    (constrained_intra_pred : Bool) → CanvasState
blank width height offset constrained = record {
  width = width;
  height = height;
  chroma_qp_index_offset = offset;
  constrained_intra_pred = constrained;
  planes = empty_planes width height;
}

-- The sides of block k of an intra macroblock with these neighbours: samples of macroblocks that
-- are there and, where constrained_intra_pred_flag asks for that, intra; and of the macroblock's
-- own blocks before it (6.4.12, 8.3.1.2).
abbrev pub sides_near : (constrained_intra_pred : Bool) → Around → (k : ℕ) → Sides
sides_near constrained n k =
    let at : ℤ → ℤ → Bool =
    is_there_near (λ f. not constrained || is_intra_info f) (λ x y. nat_lt (block_at x y) k) n
    in
    let x = pos (block_x k) in
    let y = pos (block_y k) in
    record {
      above = at x (y -ℤ pos 1);
      above_right = at (x +ℤ pos 4) (y -ℤ pos 1);
      left = at (x -ℤ pos 1) y;
      corner = at (x -ℤ pos 1) (y -ℤ pos 1);
    }

-- the address of the macroblock at this place of a picture so wide (6.4.1)
abbrev pub address_of : (width : ℕ) → MbPlace → ℕ
address_of width p = p.row * width + p.column

-- The place of the macroblock at this address of the canvas, with these modes, motion, neighbours
-- and reference pictures.
pub record IsPlaceOn {PAD : ℕ} (canvas : CanvasState) (address : ℕ) (mb : Mb) (info : NeighbourInfo)
    (n : Around)
    (references : List (Option (ReferencePicture PAD))) (p : Place) : Type 0 where
  pub width : p.coded.width ≡ canvas.width
  pub height : p.coded.height ≡ canvas.height
  pub offset : p.coded.chroma_qp_index_offset ≡ canvas.chroma_qp_index_offset
  pub address_is : p.address ≡ address
  pub mb_is : p.mb ≡ mb
  pub modes : p.modes ≡ info.modes
  pub motion : p.motion ≡ info.motion
  pub sides : is_intra mb.syntax ≡ true → (k : ℕ) → k < 16 → sides_of p.coded p.address k
      ≡ sides_near canvas.constrained_intra_pred n k
  pub references_are : AreReferences p.coded p.slice references

-- what the syntax of a macroblock keeps to, as far as its samples ask
abbrev pub IsInRange : MbSyntax → Type 0
IsInRange p_skip = Unit {0}
IsInRange (i_pcm luma cb cr) = Unit {0}
IsInRange (i_nxn modes chroma r) = (chroma ≤ 3) × IsResidual r
IsInRange (i_16x16 mode chroma r) = (mode ≤ 3) × (chroma ≤ 3) × IsResidual r
IsInRange (p_inter mb_type ref_idx mvd r) = IsResidual r

-- The macroblock at the place was built, or refused: where it has no reference picture, or no
-- samples for an intra prediction. Nothing is said of the samples then, since its picture is
-- dropped whole (this decoder's rule).
abbrev pub IsBuilt : Place → Result (Unit {0}) Fault → (old new : CanvasState) → Type 0
IsBuilt p (Ok done) old new =
    (refusal p ≡ None) × (new ≡ record old { planes = planes_after p old.planes })
IsBuilt p (Err f) old new = refusal p ≡ Some f
