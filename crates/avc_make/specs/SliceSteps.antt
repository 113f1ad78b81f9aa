-- How the data of a slice is put, one macroblock after another: these words are the crate's own,
-- and callers need none of them.
use Rattle.std.specs.Prelude.{◌≡◌, ℕ, ◌+◌, ◌<◌, Bool, true, false, List, [], ◌++◌, length, map}
use Rattle.avc_types.specs.Macroblock.{Mb, MbSyntax}
use Rattle.avc_types.specs.Pictures.{PicMb}
use Rattle.avc_neigh.specs.Around.{PictureInfo}
use Rattle.avc_neigh.specs.TotalCoeffs.{total_coeffs_of}
use Rattle.avc_mbsyntax.specs.declared.context.Context.{Context}
use Rattle.avc_mbsyntax.specs.SliceData.{SliceStart}
use Rattle.avc_rbsp.specs.Words.{ue_word}
use Rattle.avc_make.specs.DataWriting.{i_data_bits, is_skip, last_run_bits, p_data_bits}
use Rattle.avc_make.specs.MbWriting.{mb_bits}

-- The info is that of the macroblocks so far, as far as nC asks for them.
pub record AreInfoOf (width : ℕ) (before : List PicMb) (p : PictureInfo) : Type 0 where
  pub some : 0 < width
  pub wide : p.width ≡ width
  pub slices : map (λ m. m.slice) before ≡ map (λ f. f.slice) p.info
  pub total_coeffs : map (λ m. total_coeffs_of m.mb.syntax) before
      ≡ map (λ f. f.total_coeffs) p.info

-- The context is one of the slice, but for QP_Y and for what stands beside the macroblock.
pub record IsOf (s : SliceStart) (c : Context) : Type 0 where
  pub own : s.slice ≡ 1
  pub is_p : s.is_p ≡ c.is_p
  pub num_ref_idx_active : s.num_ref_idx_active ≡ c.num_ref_idx_active

-- mb_skip_run before a macroblock that is not skipped, in a P slice
abbrev pub run_bits : (p : Bool) → (run : ℕ) → List Bool
run_bits true run = ue_word run
run_bits false run = []

-- mb_skip_run of skipped macroblocks that end the data, in a P slice
abbrev pub last_run_bits_where : (p : Bool) → (run : ℕ) → List Bool
last_run_bits_where true run = last_run_bits run
last_run_bits_where false run = []

-- a macroblock that is not skipped, and in a P slice the run before it
abbrev pub coded_bits : Context → (position run : ℕ) → MbSyntax → List Bool
coded_bits c position run syntax =
    run_bits c.is_p run ++ mb_bits c (position + length (run_bits c.is_p run)) syntax

-- what is put of one macroblock: nothing yet of one that is skipped
abbrev pub own_bits : Context → (position run : ℕ) → MbSyntax → List Bool
own_bits c position run syntax =
    elim (is_skip syntax) [
      | true ↦ []
      | false ↦ coded_bits c position run syntax
    ]

-- how many macroblocks are skipped up to this one
abbrev pub run_after : (run : ℕ) → MbSyntax → ℕ
run_after run syntax = elim (is_skip syntax) [ true ↦ run + 1 | false ↦ 0 ]

-- the data from the next macroblock on
abbrev pub rest_bits : (p : Bool) → SliceStart → (before : List PicMb) → (qp position run : ℕ) →
    List Mb → List Bool
rest_bits p s before qp position run ms =
    elim p [
      | true ↦ p_data_bits s before qp position run ms
      | false ↦ i_data_bits s before qp position ms
    ]

-- the data of a slice with a macroblock
abbrev pub some_bits : SliceStart → (before : List PicMb) → (position : ℕ) → List Mb → List Bool
some_bits s before position ms = rest_bits s.is_p s before s.qp position 0 ms
