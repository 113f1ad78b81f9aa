-- The macroblocks of a slice as bits (7.3.4), and when they can be written.
use Rattle.std.specs.Prelude.{◌≡◌, ℕ, zero, suc, ◌+◌, ◌<◌, ◌≤◌, Bool, true, false, List, [], ◌∷◌}
use Rattle.std.specs.Prelude.{◌++◌, length, None}
use Rattle.avc_types.specs.Macroblock.{Mb, MbSyntax, p_skip, i_pcm, i_nxn, i_16x16, p_inter}
use Rattle.avc_types.specs.Pictures.{PicMb}
use Rattle.avc_neigh.specs.Blocks.{available}
use Rattle.avc_mbsyntax.specs.declared.context.Context.{Context}
use Rattle.avc_mbsyntax.specs.SliceData.{SliceStart, context, placed, slice_data}
use Rattle.avc_rbsp.specs.Words.{ue_word}
use Rattle.avc_make.specs.MbWriting.{HasRanges, mb_bits, qp_of}

-- the macroblock has no syntax of its own: mb_skip_run counts it
abbrev pub is_skip : MbSyntax → Bool
is_skip p_skip = true
is_skip (i_pcm luma cb cr) = false
is_skip (i_nxn modes chroma_mode r) = false
is_skip (i_16x16 mode chroma_mode r) = false
is_skip (p_inter t ref_idx mvd r) = false

-- mb_skip_run of skipped macroblocks that end the data
abbrev pub last_run_bits : (run : ℕ) → List Bool
last_run_bits zero = []
last_run_bits (suc run) = ue_word (suc run)

-- The data of an I slice after so many bits; `before` is the picture up to its next macroblock, qp
-- that of the macroblock before.
unfoldable pub i_data_bits : SliceStart → (before : List PicMb) → (qp position : ℕ) → List Mb →
    List Bool
i_data_bits s before qp position [] = []
i_data_bits s before qp position (m ∷ ms) =
    let w = mb_bits (context s before qp) position m.syntax in
    w ++ i_data_bits s (before ++ placed s m ∷ []) m.qp (position + length w) ms

-- The data of a P slice, where a run of skipped macroblocks that is not written yet ends `before`.
unfoldable pub p_data_bits : SliceStart → (before : List PicMb) → (qp position run : ℕ) → List Mb →
    List Bool
p_data_bits s before qp position run [] = last_run_bits run
p_data_bits s before qp position run (m ∷ ms) =
    elim (is_skip m.syntax) [
      | true ↦ p_data_bits s (before ++ placed s m ∷ []) qp position (run + 1) ms
      | false ↦
          let w = ue_word run in
          let w' = mb_bits (context s before qp) (position + length w) m.syntax in
          w ++ (w' ++ p_data_bits s (before ++ placed s m ∷ []) m.qp
          (position + length w + length w') 0 ms)
    ]

-- slice_data of these macroblocks, from a position of the unit on (7.3.4). In a P slice mb_skip_run
-- stands first, so it stands where there is no macroblock too.
abbrev pub data_bits : SliceStart → (before : List PicMb) → (position : ℕ) → List Mb → List Bool
data_bits s before position [] = elim s.is_p [ true ↦ ue_word 0 | false ↦ [] ]
data_bits s before position (m ∷ ms) =
    elim s.is_p [
      | true ↦ p_data_bits s before s.qp position 0 (m ∷ ms)
      | false ↦ i_data_bits s before s.qp position (m ∷ ms)
    ]

-- A macroblock that can stand in this context: one that is skipped in a P slice alone, each other
-- with its elements in their ranges.
abbrev pub CanStand : Context → MbSyntax → Type 0
CanStand c p_skip = c.is_p ≡ true
CanStand c (i_pcm luma cb cr) = HasRanges c (i_pcm luma cb cr)
CanStand c (i_nxn modes chroma_mode r) = HasRanges c (i_nxn modes chroma_mode r)
CanStand c (i_16x16 mode chroma_mode r) = HasRanges c (i_16x16 mode chroma_mode r)
CanStand c (p_inter t ref_idx mvd r) = HasRanges c (p_inter t ref_idx mvd r)

-- Each macroblock can stand after those before it, and has the QP_Y that comes of its own (7.4.5).
abbrev pub CanFollow : SliceStart → (before : List PicMb) → (qp : ℕ) → List Mb → Type 0
CanFollow s before qp [] = Unit {0}
CanFollow s before qp (m ∷ ms) =
    CanStand (context s before qp) m.syntax × (m.qp ≡ qp_of qp m.syntax) ×
    CanFollow s (before ++ placed s m ∷ []) m.qp ms

-- The data of macroblocks that can follow one another, in an I slice at least one, is read as they
-- are, with no fault, in a picture that has room for one and for all of them.
abbrev pub DataIsRead : Type 0
DataIsRead =
    (s : SliceStart) (before : List PicMb) (position : ℕ) (ms : List Mb) →
    (s.is_p ≡ false → 1 ≤ length ms) → length ms < 4294967295 → length before < s.size
    → length before + length ms ≤ s.size → CanFollow s before s.qp ms →
    slice_data s before (record { position = position; ahead = data_bits s before position ms })
    ≡ record { mbs = ms; fault = None }

-- ---- what the bits depend on

-- Two slices that are read alike, each in its picture.
pub record IsLike (s s' : SliceStart) : Type 0 where
  pub is_p : s.is_p ≡ s'.is_p
  pub num_ref_idx_active : s.num_ref_idx_active ≡ s'.num_ref_idx_active
  pub qp : s.qp ≡ s'.qp
  pub width : s.width ≡ s'.width

-- None of these macroblocks is of the slice.
abbrev pub AreOthers : SliceStart → List PicMb → Type 0
AreOthers s before = (a : ℕ) → available before s.slice a ≡ None

-- The bits depend on no macroblock of another slice, but for how many stand before.
abbrev pub DataStandsAlone : Type 0
DataStandsAlone =
    (s s' : SliceStart) (before before' : List PicMb) (position : ℕ) (ms : List Mb) → IsLike s s' →
    length before ≡ length before' → AreOthers s before → AreOthers s' before' →
    (data_bits s before position ms ≡ data_bits s' before' position ms) ×
    (CanFollow s before s.qp ms → CanFollow s' before' s'.qp ms)
