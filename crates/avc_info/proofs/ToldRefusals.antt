-- A worked example: what is told of a stream whose units are refused with two faults.
use Rattle.std.proofs.Common.{◌≡◌, ℕ, List, [], ◌∷◌, ◌++◌, refl}
use Rattle.std.specs.Fmt.{digits}
use Rattle.std.specs.Prelude.{codes}
use Rattle.avc_info.specs.Noting.{facts_of}
use Rattle.avc_info.specs.Refusals.{kinds_of}
use Rattle.avc_info.specs.Text.{kind_lines}

-- 16x16 luma samples; a picture parameter set with entropy_coding_mode_flag 1; a slice that names it
abbrev stream : List ℕ
stream =
    (0 ∷ 0 ∷ 0 ∷ 1 ∷ 103 ∷ 66 ∷ 192 ∷ 10 ∷ 218 ∷ 113 ∷ []) ++ (0 ∷ 0 ∷ 1 ∷ 104 ∷ 238 ∷ 56 ∷ 128 ∷ [])
    ++ (0 ∷ 0 ∷ 1 ∷ 101 ∷ 136 ∷ 132 ∷ 147 ∷ 192 ∷ [])

two_lines : kind_lines (kinds_of (facts_of stream).refusals) ≡ codes "refused as 14 Cabac: 1, the first unit 1\nrefused as 30 NoParameterSet: 1, the first unit 2\n"
unfolding digits
two_lines = refl
