-- What the info of a macroblock says of a coded picture, ITU-T H.264 clause 8.7.
use Rattle.std.specs.Prelude.{◌≡◌, ℕ, zero, suc, ◌+◌, ◌-◌, ◌*◌, ◌/◌, ◌%◌, ◌^◌, ◌<◌, ◌==◌}
use Rattle.std.specs.Prelude.{nat_le, nat_abs, ◌-ℤ◌, Bool, true, false, not, ◌||◌, if◌then◌else◌}
use Rattle.std.specs.Prelude.{List, [], Some, length, slice_index, slice_index_or}
use Rattle.avc_types.specs.declared.vector.Mv.{Mv}
use Rattle.avc_types.specs.declared.edges.FilteredEdges.{FilteredEdges}
use Rattle.avc_types.specs.declared.edges.FilteredEdges.TheVariants.{All, NoEdges, WithinSlice}
use Rattle.avc_types.specs.Pictures.{Coded}
use Rattle.avc_neigh.specs.Blocks.{block_at}
use Rattle.avc_neigh.specs.declared.neighbour_info.Motion.{Motion}
use Rattle.avc_neigh.specs.declared.neighbour_info.Motion.TheVariants.{Absent as absent}
use Rattle.avc_neigh.specs.declared.neighbour_info.Motion.TheVariants.{Inter as inter}
use Rattle.avc_motion.specs.Motion.{is_intra, zero_vector}
use Rattle.avc_deblock.specs.Edges.{mb_at, slice_at, filter_qp, has_coefficients, picture_named}
use Rattle.avc_deblock.specs.declared.mb_info.MbInfo.{MbInfo}

-- The numbers of stored frames: the decoding index of that with number n. No two have one.
pub record Names : Type 0 where
  pub count : ℕ
  pub decoding_index : ℕ → ℕ
  pub apart : (m n : ℕ) → m < count → n < count → decoding_index m ≡ decoding_index n → m ≡ n

-- bit k of a mask
abbrev pub has_bit : ℕ → ℕ → Bool
has_bit mask k = mask / 2 ^ k % 2 == 1

-- luma block k has the vector and the picture that the info gives it
pub record HasMotion (c : Coded) (names : Names) (a : ℕ) (f : MbInfo) (k : ℕ) (m : Motion) :
    Type 0 where
  pub reference : ℕ
  pub is : m ≡ inter reference (slice_index_or f.vectors k zero_vector)
  pub picture :
      picture_named c a reference ≡ Some (names.decoding_index (slice_index f.pictures (k / 4)))
  pub named : slice_index f.pictures (k / 4) < names.count

-- This is the info of macroblock a of the picture; `motion` is that of all its macroblocks.
pub record HasInfo (c : Coded) (motion : List (List Motion)) (names : Names) (a : ℕ) (f : MbInfo) :
    Type 0 where
  pub intra_is : f.is_intra ≡ is_intra (mb_at c a).mb.syntax
  pub coefficients_is : (k : ℕ) → k < 16 →
      has_bit f.coefficients k ≡ has_coefficients (mb_at c a).mb.syntax k
  pub motion_is : f.is_intra ≡ false → (k : ℕ) → k < 16 →
      HasMotion c names a f k (slice_index_or (slice_index_or motion a []) k absent)
  pub qp_is : f.qp ≡ filter_qp (mb_at c a).mb.qp (mb_at c a).mb.syntax
  pub slice_is : f.slice ≡ (mb_at c a).slice
  pub edges_is : f.filtered_edges ≡ (slice_at c a).disable_deblocking_filter_idc
  pub offset_a_is : f.offset_a ≡ (slice_at c a).filter_offset_a
  pub offset_b_is : f.offset_b ≡ (slice_at c a).filter_offset_b

-- ---- strengths, from the info alone

-- two vectors differ by a whole sample or more in a component
abbrev pub are_far : Mv → Mv → Bool
are_far u v = nat_le 4 (nat_abs (u.x -ℤ v.x)) || nat_le 4 (nat_abs (u.y -ℤ v.y))

-- the vector of a block
abbrev pub vector_at : MbInfo → ℕ → Mv
vector_at f k = slice_index_or f.vectors k zero_vector

-- bS between two inter blocks without coefficients: 1 by other pictures or far vectors, else 0
-- (8.7.2.1)
abbrev pub motion_strength : (p : MbInfo) (kp : ℕ) (q : MbInfo) (kq : ℕ) → ℕ
motion_strength p kp q kq =
    if not (slice_index p.pictures (kp / 4) == slice_index q.pictures (kq / 4))
    || are_far (vector_at p kp) (vector_at q kq) then 1 else 0

-- bS between two inter blocks: 2 by coefficients, else by motion (8.7.2.1)
abbrev pub inter_strength : (p : MbInfo) (kp : ℕ) (q : MbInfo) (kq : ℕ) → ℕ
inter_strength p kp q kq =
    if has_bit p.coefficients kp || has_bit q.coefficients kq then 2 else motion_strength p kp q kq

-- Two blocks without coefficients have one picture and one vector.
pub record HaveOneMotion (p : MbInfo) (kp : ℕ) (q : MbInfo) (kq : ℕ) : Type 0 where
  pub no_p_levels : has_bit p.coefficients kp ≡ false
  pub no_q_levels : has_bit q.coefficients kq ≡ false
  pub picture : slice_index p.pictures (kp / 4) ≡ slice_index q.pictures (kq / 4)
  pub vector : vector_at p kp ≡ vector_at q kq

-- An inter macroblock that stands still in the frame with this number: without coefficients, with
-- that picture and a zero vector in each block (8.7.2.1).
pub record StandsStill (frame : ℕ) (f : MbInfo) : Type 0 where
  pub inter : f.is_intra ≡ false
  pub no_levels : (k : ℕ) → k < 16 → has_bit f.coefficients k ≡ false
  pub pictures_are : (q : ℕ) → q < 4 → slice_index f.pictures q ≡ frame
  pub vectors_are : (k : ℕ) → k < 16 → vector_at f k ≡ zero_vector

-- the first n macroblocks of a row stand still in the frame with this number
abbrev pub FirstStandStill : (frame n : ℕ) → (info : List MbInfo) → Type 0
FirstStandStill frame n info =
    (k : ℕ) (other : MbInfo) → k < n → StandsStill frame (slice_index_or info k other)

-- The luma block on the q side of edge n of a macroblock in the k-th quarter of the edge. The edges
-- of a macroblock are numbered from 0, four luma samples apart.
abbrev pub edge_block : Bool → (n k : ℕ) → ℕ
edge_block true n k = block_at (4 * n) (4 * k)
edge_block false n k = block_at (4 * k) (4 * n)

-- bS between the blocks of two inter macroblocks in the k-th quarter of edge n (8.7.2.1)
abbrev pub strength_beside : (p q : MbInfo) → Bool → (n k : ℕ) → ℕ
strength_beside p q v n k = inter_strength p (edge_block v ((n + 3) % 4) k) q (edge_block v n k)

-- the macroblock on the p side of edge n of macroblock a
abbrev pub p_address : Coded → Bool → (n a : ℕ) → ℕ
p_address c v zero a = if v then a - 1 else a - c.width
p_address c v (suc n) a = a

-- macroblock a lies in this column and row of macroblocks
pub record IsAt (c : Coded) (column row a : ℕ) : Type 0 where
  pub within : column < c.width
  pub address : a ≡ row * c.width + column

-- whether the edge of a macroblock to another is filtered, from the info of both
abbrev pub filters_at : FilteredEdges → (is_same_slice : Bool) → Bool
filters_at All same = true
filters_at NoEdges same = false
filters_at WithinSlice same = same

-- the edge between two macroblocks is filtered, by what the second one's slice says of edges
-- (7.4.3)
abbrev pub filters_between : MbInfo → MbInfo → Bool
filters_between f g = filters_at f.filtered_edges (f.slice == g.slice)

-- This is the info of as many macroblocks, one after another from the address `first` on.
abbrev pub HaveInfo : Coded → List (List Motion) → Names → (first : ℕ) → List MbInfo → Type 0
HaveInfo c motion names first info =
    (k : ℕ) (other : MbInfo) → k < length info →
    HasInfo c motion names (first + k) (slice_index_or info k other)
