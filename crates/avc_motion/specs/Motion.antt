-- Reference indices and motion vectors of P macroblocks, ITU-T H.264 clauses 8.4.1.1 and 8.4.1.3.
use Rattle.std.specs.Prelude.{◌≡◌, ℕ, zero, suc, ◌+◌, ◌==◌, nat_lt, nat_le, ℤ, pos, ◌+ℤ◌, ◌-ℤ◌}
use Rattle.std.specs.Prelude.{int_lt, neg_ℤ, Bool, true, false, not, ◌&&◌, ◌||◌, if◌then◌else◌}
use Rattle.std.specs.Prelude.{List, [], ◌∷◌, ◌++◌, map, replicate, Option, Some, None, Result, Ok}
use Rattle.std.specs.Prelude.{Err, slice_get, slice_index, slice_index_or}
use Rattle.std.specs.List.{list_all, range_with_len}
use Rattle.avc_types.specs.Arithmetic.{median, ◌==ℤ◌}
use Rattle.avc_types.specs.declared.fault.Fault.{Fault}
use Rattle.avc_types.specs.declared.fault.Fault.TheVariants.{VectorRange}
use Rattle.avc_types.specs.declared.vector.Mv.{Mv}
use Rattle.avc_types.specs.declared.macroblock.Mvd.{Mvd}
use Rattle.avc_types.specs.declared.macroblock.Part.{Part}
use Rattle.avc_types.specs.declared.macroblock.PMbType.{PMbType}
use Rattle.avc_types.specs.declared.macroblock.PMbType.TheVariants.{P16x16, P16x8, P8x16, P8x8}
use Rattle.avc_types.specs.declared.macroblock.PMbType.TheVariants.{P8x8Ref0}
use Rattle.avc_types.specs.declared.edges.FilteredEdges.TheVariants.{NoEdges}
use Rattle.avc_types.specs.Macroblock.{MbSyntax, p_skip, i_pcm, i_nxn, i_16x16, p_inter, parts_of}
use Rattle.avc_types.specs.Pictures.{Coded, PicMb, SliceInfo, Frame}
use Rattle.avc_neigh.specs.declared.neighbour_info.Motion.{Motion}
use Rattle.avc_neigh.specs.declared.neighbour_info.Motion.TheVariants.{Absent as absent}
use Rattle.avc_neigh.specs.declared.neighbour_info.Motion.TheVariants.{Intra as intra}
use Rattle.avc_neigh.specs.declared.neighbour_info.Motion.TheVariants.{Inter as inter}
use Rattle.avc_motion.specs.declared.neighbouring.NeighbouringPartitions.{NeighbouringPartitions}
use Rattle.avc_neigh.specs.Blocks.{block_x, block_y, location_at}
use Rattle.avc_neigh.specs.Nearby.{nearby}
use Rattle.avc_neigh.specs.Around.{Around}
use Rattle.avc_neigh.specs.BlockNear.{MotionIsAround, motion_near}

-- the vector of a neighbour without one, and of a macroblock that stands still (8.4.1.1, 8.4.1.3.2)
abbrev pub zero_vector : Mv
zero_vector = record { x = pos 0; y = pos 0 }

-- a partition that is not available (6.4.11.7)
abbrev pub is_absent : Motion → Bool
is_absent absent = true
is_absent intra = false
is_absent (inter r v) = false

-- whether refIdxL0 of a neighbour, -1 without one, is r (8.4.1.3.2)
abbrev pub has_reference : ℕ → Motion → Bool
has_reference r absent = false
has_reference r intra = false
has_reference r (inter s v) = s == r

-- the vector of a neighbour, 0 without one (8.4.1.3.2)
abbrev pub vector_of : Motion → Mv
vector_of absent = zero_vector
vector_of intra = zero_vector
vector_of (inter r v) = v

-- C, or D where C is not available (8.4.1.3.2)
abbrev pub else_motion : Motion → Motion → Motion
else_motion absent d = d
else_motion intra d = intra
else_motion (inter r v) d = inter r v

-- What the block has that covers this luma sample, counted from the upper left sample of the
-- macroblock in hand. The list is that of the macroblock's own sixteen blocks, absent where they
-- are not decoded yet (6.4.12).
abbrev pub Near : Type 0
Near = List Motion → ℤ → ℤ → Motion

-- for macroblock a, where `known` is the map of the macroblocks before it (6.4.12)
abbrev pub near_in : Coded → List (List Motion) → ℕ → Near
near_in p known a mine x y = nearby absent p.mbs known mine a (location_at p.width a x y)

-- the neighbours of the partition of this width at (x, y) (6.4.11.7, 8.4.1.3.2)
abbrev pub neighbours_of : Near → List Motion → (x y width : ℕ) → NeighbouringPartitions
neighbours_of near mine x y width = record {
  a = near mine (pos x -ℤ pos 1) (pos y);
  b = near mine (pos x) (pos y -ℤ pos 1);
  c = else_motion (near mine (pos (x + width)) (pos y -ℤ pos 1))
      (near mine (pos x -ℤ pos 1) (pos y -ℤ pos 1));
}

-- ---- prediction (8.4.1.3)

-- where only A is available, B and C are as A (8.4.1.3.1)
abbrev pub completed : NeighbouringPartitions → NeighbouringPartitions
completed n =
    if is_absent n.b && is_absent n.c && not (is_absent n.a) then record {
      a = n.a;
      b = n.a;
      c = n.a;
    } else n

-- the median of each component (8.4.1.3.1)
abbrev pub median_vector : Mv → Mv → Mv → Mv
median_vector u v w = record { x = median u.x v.x w.x; y = median u.y v.y w.y }

-- the vector of the only neighbour that has the index, or the median of all three (8.4.1.3.1)
abbrev pub only_or_median : Bool → Bool → Bool → Mv → Mv → Mv → Mv
only_or_median true false false u v w = u
only_or_median false true false u v w = v
only_or_median false false true u v w = w
only_or_median true true c u v w = median_vector u v w
only_or_median true false true u v w = median_vector u v w
only_or_median false true true u v w = median_vector u v w
only_or_median false false false u v w = median_vector u v w

-- mvpL0 by the median (8.4.1.3.1)
abbrev pub median_prediction : ℕ → NeighbouringPartitions → Mv
median_prediction r around =
    let n = completed around in
    only_or_median (has_reference r n.a) (has_reference r n.b) (has_reference r n.c) (vector_of n.a)
    (vector_of n.b) (vector_of n.c)

-- The neighbour that a partition of a macroblock in two halves asks first: upper B, lower A;
-- left A, right C (8.4.1.3).
abbrev pub first_asked : PMbType → ℕ → NeighbouringPartitions → Motion
first_asked P16x8 zero n = n.b
first_asked P16x8 (suc i) n = n.a
first_asked P8x16 zero n = n.a
first_asked P8x16 (suc i) n = n.c
first_asked P16x16 i n = absent
first_asked (P8x8 subs) i n = absent
first_asked (P8x8Ref0 subs) i n = absent

-- mvpL0 of a part with reference index r (8.4.1.3)
abbrev pub predicted_vector : PMbType → ℕ → ℕ → NeighbouringPartitions → Mv
predicted_vector shape partition r n =
    if has_reference r (first_asked shape partition n)
    then vector_of (first_asked shape partition n)
    else median_prediction r n

-- a neighbour that makes a skipped macroblock stand still (8.4.1.1)
abbrev pub is_still : Motion → Bool
is_still absent = true
is_still intra = false
is_still (inter r v) = (r == 0) && (v.x ==ℤ pos 0) && (v.y ==ℤ pos 0)

-- the vector of a skipped macroblock (8.4.1.1)
abbrev pub skip_vector : NeighbouringPartitions → Mv
skip_vector n = if is_still n.a || is_still n.b then zero_vector else median_prediction 0 n

-- ---- a macroblock's blocks (8.4.1)

-- the block with this number lies in the part (6.4.2)
abbrev pub is_in_part : Part → ℕ → Bool
is_in_part p k =
    nat_le p.x (block_x k) && nat_lt (block_x k) (p.x + p.width) && nat_le p.y (block_y k)
    && nat_lt (block_y k) (p.y + p.height)

-- `mine` with a part's blocks filled in (6.4.2)
unfoldable pub with_part : List Motion → Part → Motion → List Motion
with_part mine p m =
    map (λ k. if is_in_part p k then m else slice_index_or mine k absent) (range_with_len 0 16)

-- 8.4.1: mvL0 = mvpL0 + mvd_l0
abbrev pub sum_with_mvd : Mv → Mvd → Mv
sum_with_mvd u d = record { x = u.x +ℤ d.x; y = u.y +ℤ d.y }

-- what the blocks of a part with reference index r have (8.4.1)
abbrev pub motion_of_part : Near → PMbType → ℕ → List Motion → Part → Mvd → Motion
motion_of_part near shape r mine part mvd =
    inter r (sum_with_mvd
    (predicted_vector shape part.partition r
    (neighbours_of near mine part.x part.y part.width)) mvd)

-- the parts in decoding order, each with its prediction from what is decoded before it and its mvd
-- (8.4.1)
abbrev pub motion_of_parts : Near → PMbType → List ℕ → List Motion → List Part → List Mvd →
    List Motion
motion_of_parts near shape ref_idx mine [] mvds = mine
motion_of_parts near shape ref_idx mine (part ∷ parts) [] = mine
motion_of_parts near shape ref_idx mine (part ∷ parts) (mvd ∷ mvds) =
    let filled = with_part mine part
    (motion_of_part near shape (slice_index ref_idx part.partition) mine part mvd) in
    motion_of_parts near shape ref_idx filled parts mvds

-- no block of the macroblock is decoded yet, so none is available (6.4.11.7)
abbrev pub no_motion : List Motion
no_motion = replicate 16 absent

-- the sixteen blocks of a macroblock: intra ones have no vector, skipped ones one for all (8.4.1,
-- 8.4.1.1)
abbrev pub motion_by : Near → MbSyntax → List Motion
motion_by near (i_pcm luma cb cr) = replicate 16 intra
motion_by near (i_nxn modes chroma residual) = replicate 16 intra
motion_by near (i_16x16 mode chroma residual) = replicate 16 intra
motion_by near p_skip = replicate 16 (inter 0 (skip_vector (neighbours_of near no_motion 0 0 16)))
motion_by near (p_inter shape ref_idx mvd residual) =
    motion_of_parts near shape ref_idx no_motion (parts_of shape) mvd

-- A or B alone makes a skipped macroblock with these neighbours stand still (8.4.1.1).
abbrev pub is_held : Around → Bool
is_held n =
    let around = neighbours_of (motion_near n) no_motion 0 0 16 in
    is_still around.a || is_still around.b

-- those of macroblock a (8.4.1)
abbrev pub motion_of : Coded → List (List Motion) → ℕ → MbSyntax → List Motion
motion_of p known a syntax = motion_by (near_in p known a) syntax

-- those of the macroblock that stands there, if there is one (8.4.1)
abbrev motion_of_place : Coded → List (List Motion) → ℕ → Option PicMb → List Motion
motion_of_place p known a (Some m) = motion_of p known a m.mb.syntax
motion_of_place p known a None = []

-- the motion of the first n macroblocks of the picture, by recursion on decoding order (8.4.1)
abbrev pub motion_before : Coded → ℕ → List (List Motion)
motion_before p zero = []
motion_before p (suc n) =
    let known = motion_before p n in
    known ++ motion_of_place p known n (slice_get p.mbs n) ∷ []

-- -32768 to 32767 (this decoder's rule)
abbrev pub is_16_bit : ℤ → Bool
is_16_bit z = not (int_lt z (neg_ℤ (pos 32768))) && not (int_lt (pos 32767) z)

-- A vector that can be had: each component is a 16-bit number (this decoder's rule).
abbrev pub is_in_range : Motion → Bool
is_in_range absent = true
is_in_range intra = true
is_in_range (inter r v) = is_16_bit v.x && is_16_bit v.y

-- what the blocks of a macroblock have, or VectorRange where one of its vectors can't be
-- had (this decoder's rule)
abbrev pub motion_or_fault : List Motion → Result (List Motion) Fault
motion_or_fault motion = if list_all is_in_range motion then Ok motion else Err VectorRange

-- likewise their vectors alone
abbrev pub vectors_or_fault : List Motion → Result (List Mv) Fault
vectors_or_fault motion =
    if list_all is_in_range motion then Ok (map vector_of motion) else Err VectorRange

-- The result is that of every macroblock with this syntax and these neighbours, in every picture.
abbrev pub HasMotion : Around → MbSyntax → Result (List Motion) Fault → Type 0
HasMotion n syntax result =
    (p : Coded) (known : List (List Motion)) (a : ℕ) → MotionIsAround n p.mbs p.width known a
    → result ≡ motion_or_fault (motion_of p known a syntax)

-- The same of the vectors alone.
abbrev pub HasVectors : Around → MbSyntax → Result (List Mv) Fault → Type 0
HasVectors n syntax result =
    (p : Coded) (known : List (List Motion)) (a : ℕ) → MotionIsAround n p.mbs p.width known a
    → result ≡ vectors_or_fault (motion_of p known a syntax)

-- blocks that stand still: of reference index 0 and vector 0 (8.4.1.1)
abbrev pub still_blocks : List Motion
still_blocks = replicate 16 (inter 0 zero_vector)

-- ---- what others ask of a macroblock and of its slice (7.3.5, 8.4.2.1)

-- a macroblock of an Intra macroblock prediction mode (Table 7-11)
abbrev pub is_intra : MbSyntax → Bool
is_intra p_skip = false
is_intra (i_pcm luma cb cr) = true
is_intra (i_nxn modes chroma residual) = true
is_intra (i_16x16 mode chroma residual) = true
is_intra (p_inter shape ref_idx mvd residual) = false

-- one partition for the whole macroblock (Table 7-13)
abbrev pub is_one_partition : PMbType → Bool
is_one_partition P16x16 = true
is_one_partition P16x8 = false
is_one_partition P8x16 = false
is_one_partition (P8x8 subs) = false
is_one_partition (P8x8Ref0 subs) = false

-- A macroblock whose type alone gives all its blocks one motion, or none (8.4.1, 8.4.1.1).
abbrev pub has_one_motion : MbSyntax → Bool
has_one_motion p_skip = true
has_one_motion (i_pcm luma cb cr) = true
has_one_motion (i_nxn modes chroma residual) = true
has_one_motion (i_16x16 mode chroma residual) = true
has_one_motion (p_inter shape ref_idx mvd residual) = is_one_partition shape

-- Each of the sixteen blocks has what the first has.
abbrev pub AreOfOneMotion : List Motion → Type 0
AreOfOneMotion motion = motion ≡ replicate 16 (slice_index_or motion 0 absent)

-- A slice that is not there: part of no picture, but the definitions are total.
abbrev pub no_slice : SliceInfo
no_slice = record {
  is_p = false;
  references = [];
  weights = [];
  disable_deblocking_filter_idc = NoEdges;
  filter_offset_a = pos 0;
  filter_offset_b = pos 0;
}

-- the info of the slice with this number (7.4.3)
abbrev pub slice_info : Coded → ℕ → SliceInfo
slice_info p slice = slice_index_or p.slices slice no_slice

-- the frame that a reference index names in a slice; no frame where the entry is empty or missing
-- (8.4.2.1)
abbrev pub frame_named : Coded → (slice reference : ℕ) → Option Frame
frame_named p slice r = slice_index_or (slice_info p slice).references r None
