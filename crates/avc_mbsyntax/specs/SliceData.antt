-- The macroblocks of a slice (7.3.4).
use Rattle.std.specs.Prelude.{ℕ, zero, suc, ◌-◌, Bool, true, false, ◌==◌, nat_lt, List, [], ◌∷◌}
use Rattle.std.specs.Prelude.{◌++◌, length, replicate, Option, Some, None, Result, Ok, Err}
use Rattle.std.specs.Option.{option_map}
use Rattle.avc_types.specs.declared.fault.Fault.{Fault}
use Rattle.avc_types.specs.declared.fault.Fault.TheVariants as faults
use Rattle.avc_types.specs.Macroblock.{p_skip, Mb}
use Rattle.avc_types.specs.Pictures.{PicMb}
use Rattle.avc_bits.specs.Bits.{Bits, more_data}
use Rattle.avc_bits.specs.Codes.{ue}
use Rattle.avc_neigh.specs.Blocks.{left_of, above}
use Rattle.avc_neigh.specs.declared.neighbour_info.TotalCoeffs.{TotalCoeffs}
use Rattle.avc_neigh.specs.TotalCoeffs.{total_coeffs_of}
use Rattle.avc_mbsyntax.specs.Reading.{macroblock}
use Rattle.avc_mbsyntax.specs.declared.context.Context.{Context}

-- What a slice's data is read under (7.3.3).
pub record SliceStart : Type 0 where
  pub is_p : Bool
  pub num_ref_idx_active : ℕ
  -- SliceQP_Y
  pub qp : ℕ
  -- the slice's number in the picture
  pub slice : ℕ
  -- of the picture, in macroblocks
  pub width : ℕ
  pub size : ℕ

-- The macroblocks that could be read, in decoding order, and the fault that came then (this
-- decoder's rule).
pub record SliceMbs : Type 0 where
  pub mbs : List Mb
  pub fault : Option Fault

-- no more macroblocks, and no fault: the end of slice_data (7.3.4)
abbrev pub ended : SliceMbs
ended = record { mbs = []; fault = None }

-- no more macroblocks, for this fault (this decoder's rule)
abbrev pub stopped : Fault → SliceMbs
stopped f = record { mbs = []; fault = Some f }

-- macroblocks, and then others
abbrev pub after : List Mb → SliceMbs → SliceMbs
after front rest = record { mbs = front ++ rest.mbs; fault = rest.fault }

-- a macroblock in the picture: with the number of its slice (7.3.4)
abbrev pub placed : SliceStart → Mb → PicMb
placed s mb = record { slice = s.slice; mb = mb }

-- a macroblock that mb_skip_run passes over: P_Skip, at the QP_Y of the one before (7.3.4, 7.4.5)
abbrev pub skipped : (qp : ℕ) → Mb
skipped qp = record { syntax = p_skip; qp = qp }

-- total_coeff of the macroblock to the left of the next one, where that is available (9.2.1);
-- `before` is the picture up to it.
abbrev pub left_total_coeffs : SliceStart → (before : List PicMb) → Option TotalCoeffs
left_total_coeffs s before =
    option_map (λ m. total_coeffs_of m.syntax) (left_of before s.width s.slice (length before))

-- total_coeff of the macroblock above it, likewise (9.2.1)
abbrev pub up_total_coeffs : SliceStart → (before : List PicMb) → Option TotalCoeffs
up_total_coeffs s before =
    option_map (λ m. total_coeffs_of m.syntax) (above before s.width s.slice (length before))

-- The next macroblock's context: `before` is the picture up to it, qp that of the macroblock before
-- in the slice (QP_Y,PRED, 7.4.5).
abbrev pub context : SliceStart → (before : List PicMb) → (qp : ℕ) → Context
context s before qp = record {
  is_p = s.is_p;
  num_ref_idx_active = s.num_ref_idx_active;
  qp = qp;
  left = left_total_coeffs s before;
  up = up_total_coeffs s before;
}

-- the rest where there is more data, else no more macroblocks (7.3.4)
abbrev pub where_more_data : Bits → SliceMbs → SliceMbs
where_more_data b rest = elim (more_data b) [ true ↦ rest | false ↦ ended ]

-- the rest where the picture has room for a macroblock more, else TooManyMacroblocks (this
-- decoder's rule)
abbrev pub where_room : SliceStart → (before : List PicMb) → SliceMbs → SliceMbs
where_room s before rest =
    elim (length before == s.size) [
      | true ↦ stopped faults.TooManyMacroblocks
      | false ↦ rest
    ]

-- A macroblock that is read, with what is left, and then `next` where there is more data (7.3.4):
-- with the picture up to there, its QP_Y and what is left. Where it cannot be read, its fault.
abbrev pub from_macroblock : SliceStart → (before : List PicMb) →
    (next : List PicMb → ℕ → Bits → SliceMbs) → Result (Mb × Bits) Fault → SliceMbs
from_macroblock s before next (Err f) = stopped f
from_macroblock s before next (Ok (mb, left)) =
    after (mb ∷ []) (where_more_data left (next (before ++ placed s mb ∷ []) mb.qp left))

-- In an I slice, where `left` macroblocks of the picture remain: one, and others while there
-- is more data (7.3.4). TooManyMacroblocks is this decoder's rule.
abbrev pub i_data : SliceStart → (left : ℕ) → (before : List PicMb) → (qp : ℕ) → Bits → SliceMbs
i_data s zero before qp b = stopped faults.TooManyMacroblocks
i_data s (suc left) before qp b =
    from_macroblock s before (i_data s left) (macroblock (context s before qp) b)

-- What stands after a run of skipped macroblocks (7.3.4), all of them in `before`: nothing,
-- or one macroblock, and then `next` with the picture up to there, its QP and what is left,
-- where there is more data.
abbrev pub after_run : SliceStart → (before : List PicMb) → (qp : ℕ) → Bits →
    (next : List PicMb → ℕ → Bits → SliceMbs) → SliceMbs
after_run s before qp b next =
    where_more_data b
    (where_room s before (from_macroblock s before next (macroblock (context s before qp) b)))

-- A run of skipped macroblocks that is read (mb_skip_run), with what is left, and then as after_run
-- says (7.3.4); or the fault. TooManyMacroblocks, where the picture has no room for them, is this
-- decoder's rule.
abbrev pub from_run : SliceStart → (before : List PicMb) → (qp : ℕ) →
    (next : List PicMb → ℕ → Bits → SliceMbs) → Result (ℕ × Bits) Fault → SliceMbs
from_run s before qp next (Err f) = stopped f
from_run s before qp next (Ok (run, left)) = elim (nat_lt (s.size - length before) run) [
  | true ↦ stopped faults.TooManyMacroblocks
  | false ↦ after (replicate run (skipped qp))
      (after_run s (before ++ replicate run (placed s (skipped qp))) qp left next)
]

-- In a P slice, in so many turns at most: mb_skip_run, then as from_run says (7.3.4). There are as
-- many turns as macroblocks remain, since each but the last reads one. TooManyMacroblocks is this
-- decoder's rule.
abbrev pub p_data : SliceStart → (turns : ℕ) → (before : List PicMb) → (qp : ℕ) → Bits → SliceMbs
p_data s zero before qp b = stopped faults.TooManyMacroblocks
p_data s (suc turns) before qp b =
    where_room s before (from_run s before qp (p_data s turns) (ue b))

-- The data from a macroblock of an I slice or a run of a P slice on (7.3.4); qp is that of the
-- macroblock before in the slice.
abbrev pub data_from : SliceStart → (before : List PicMb) → (qp : ℕ) → Bits → SliceMbs
data_from s before qp b =
    elim s.is_p [
      | true ↦ p_data s (s.size - length before) before qp b
      | false ↦ i_data s (s.size - length before) before qp b
    ]

-- slice_data of a slice that goes on after `before`, the macroblocks of the picture's earlier
-- slices (7.3.4).
abbrev pub slice_data : SliceStart → (before : List PicMb) → Bits → SliceMbs
slice_data s before b = data_from s before s.qp b
