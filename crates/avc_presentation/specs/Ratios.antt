-- Ratios of two numbers.
use Rattle.std.specs.Prelude.{◌≡◌, ℕ, ◌/◌, List, ◌++◌, codes}
use Rattle.std.specs.Fmt.{decimal}
use Rattle.std.specs.Int.{IsGcd}
use Rattle.avc_presentation.specs.declared.ratio.Ratio.{Ratio}

-- It is n to d in lowest terms: both are divided by their greatest common divisor.
pub record IsLowest (n d : ℕ) (r : Ratio) : Type 0 where
  pub divisor : ℕ
  pub greatest : IsGcd n d divisor
  pub numerator_is : r.numerator ≡ n / divisor
  pub denominator_is : r.denominator ≡ d / divisor

-- as text, n:d
abbrev pub ratio_word : Ratio → List ℕ
ratio_word r = decimal r.numerator ++ codes ":" ++ decimal r.denominator
