-- What is left of a slice's data when some of it has been read.
use Rattle.std.specs.Prelude.{◌≡◌, ℕ, ◌+◌, ◌-◌, ◌==◌, ◌≤◌, Bool, true, false, List, [], ◌∷◌, ◌++◌}
use Rattle.std.specs.Prelude.{length, replicate, Option, Some, None, Result, Ok, Err}
use Rattle.avc_types.specs.declared.fault.Fault.{Fault}
use Rattle.avc_types.specs.declared.fault.Fault.TheVariants as faults
use Rattle.avc_types.specs.Macroblock.{Mb}
use Rattle.avc_types.specs.Pictures.{PicMb}
use Rattle.avc_bits.specs.Bits.{Bits, more_data}
use Rattle.avc_bits.specs.Reader.{reader_bits}
use Rattle.avc_mbsyntax.specs.Ranges.{IsSyntax}
use Rattle.avc_mbsyntax.specs.Reading.{macroblock}
use Rattle.avc_mbsyntax.specs.SliceData.{SliceMbs, SliceStart, after, after_run, context, data_from}
use Rattle.avc_mbsyntax.specs.SliceData.{ended, p_data, placed, skipped, stopped}
use Rattle.avc_mbsyntax.specs.declared.slice_data.SliceData.{SliceData}
use Rattle.avc_mbsyntax.specs.declared.stage.Stage.{Stage}
use Rattle.avc_mbsyntax.specs.declared.stage.Stage.TheVariants.{Next, Skipped, Ended}

-- so many skipped macroblocks, and what comes after them
abbrev pub after_skipped : SliceStart → (count : ℕ) → (before : List PicMb) → (qp : ℕ) → Bits →
    SliceMbs
after_skipped s count before qp b =
    after (replicate count (skipped qp))
    (after_run s (before ++ replicate count (placed s (skipped qp))) qp b
    (λ before' qp' b'. p_data s (s.size - length before') before' qp' b'))

-- The rest of the data at a stage; `before` is the picture up to here, and qp that of the
-- macroblock before in the slice.
abbrev pub rest_at : Stage → SliceStart → (before : List PicMb) → (qp : ℕ) → Bits → SliceMbs
rest_at Next s before qp b = data_from s before qp b
rest_at (Skipped count) s before qp b = after_skipped s count before qp b
rest_at Ended s before qp b = ended

unfoldable pub rest_of : SliceStart → (before : List PicMb) → SliceData → SliceMbs
rest_of s before d = rest_at d.stage s before d.qp (reader_bits d.reader)

-- Skipped macroblocks stand in P slices alone, and in the picture.
abbrev pub IsStage : Stage → SliceStart → (remaining : ℕ) → Type 0
IsStage Next s remaining = Unit {0}
IsStage (Skipped count) s remaining = (s.is_p ≡ true) × (count ≤ remaining)
IsStage Ended s remaining = Unit {0}

-- The data is that of a slice with this start, and has come to the end of `before`.
pub record Follows (s : SliceStart) (before : List PicMb) (d : SliceData) : Type 0 where
  pub is_p : s.is_p ≡ d.is_p
  pub num_ref_idx_active : s.num_ref_idx_active ≡ d.num_ref_idx_active
  pub size : s.size ≡ length before + d.remaining
  pub quantiser : s.qp ≤ 51 → d.qp ≤ 51
  pub stage : IsStage d.stage s d.remaining

-- a macroblock of a slice with this start
pub record IsOfSlice (s : SliceStart) (mb : Mb) : Type 0 where
  pub range : IsSyntax s.num_ref_idx_active mb.syntax
  pub quantiser : s.qp ≤ 51 → mb.qp ≤ 51

-- what is handed out by a call that answers whether there is a macroblock, which then stands in
-- this place
abbrev pub handed_out : Result Bool Fault → (place : Mb) → Result (Option Mb) Fault
handed_out (Ok true) place = Ok (Some place)
handed_out (Ok false) place = Ok None
handed_out (Err f) place = Err f

-- what is read by a call that reads a macroblock into this place
abbrev pub read_out : Result (Unit {0}) Fault → (place : Mb) → Result Mb Fault
read_out (Ok _) place = Ok place
read_out (Err f) place = Err f

-- What is handed out is the first of the rest, and then the others are the rest. A fault comes
-- again.
abbrev pub IsHandedOut : SliceStart → (before : List PicMb) → Result (Option Mb) Fault → SliceData →
    SliceData → Type 0
IsHandedOut s before (Ok (Some mb)) old new =
    (rest_of s before old ≡ after (mb ∷ []) (rest_of s (before ++ placed s mb ∷ []) new)) ×
    Follows s (before ++ placed s mb ∷ []) new × IsOfSlice s mb
IsHandedOut s before (Ok None) old new =
    (rest_of s before old ≡ ended) × (rest_of s before new ≡ ended) × Follows s before new
IsHandedOut s before (Err f) old new =
    (rest_of s before old ≡ stopped f) × (rest_of s before new ≡ stopped f) × Follows s before new

-- one macroblock that is coded, and others where there is more data
abbrev pub one_more : SliceStart → (before : List PicMb) → (qp : ℕ) → Bits → SliceMbs
one_more s before qp b =
    elim (length before == s.size) [
      | true ↦ stopped faults.TooManyMacroblocks
      | false ↦
          elim (macroblock (context s before qp) b) [
            | Err f ↦ stopped f
            | Ok r ↦ after (r.0 ∷ [])
                (elim (more_data r.1) [
                  | true ↦ data_from s (before ++ placed s r.0 ∷ []) (r.0).qp
                      r.1
                  | false ↦ ended
                ])
          ]
    ]

-- What reading one coded macroblock says of the rest: it is the first of it, or the fault stops
-- there.
abbrev pub IsOneMore : SliceStart → (before : List PicMb) → Result Mb Fault → SliceData →
    SliceData → Type 0
IsOneMore s before (Ok mb) old new =
    (one_more s before old.qp (reader_bits old.reader)
    ≡ after (mb ∷ []) (rest_of s (before ++ placed s mb ∷ []) new)) ×
    Follows s (before ++ placed s mb ∷ []) new × IsOfSlice s mb
IsOneMore s before (Err f) old new =
    (one_more s before old.qp (reader_bits old.reader) ≡ stopped f) × (new ≡ old)

-- Reading how many skipped macroblocks come next changes nothing in the rest. A fault comes again.
abbrev pub IsRun : {A : Type 0} → SliceStart → (before : List PicMb) → Result A Fault → SliceData →
    SliceData → Type 0
IsRun s before (Ok count) old new =
    (rest_of s before old ≡ rest_of s before new) × Follows s before new
IsRun s before (Err f) old new =
    (rest_of s before old ≡ stopped f) × (rest_of s before new ≡ stopped f) × Follows s before new

-- What handing out a skipped macroblock says of the rest: it is the first of it.
abbrev pub IsSkipped : SliceStart → (before : List PicMb) → (count : ℕ) → Mb → SliceData →
    SliceData → Type 0
IsSkipped s before count mb old new =
    (rest_of s before old ≡ after (mb ∷ []) (rest_of s (before ++ placed s mb ∷ []) new)) ×
    Follows s (before ++ placed s mb ∷ []) new × IsOfSlice s mb
