-- Red, green and blue of a sample, by how its sequence is coded (ITU-T H.264 clause E.2.1, Table
-- E-5).
use Rattle.std.specs.Prelude.{ℕ, ◌+◌, ◌-◌, ◌*◌, ◌/◌, ◌==◌, if◌then◌else◌, ◌^◌, List, [], ◌∷◌, ℤ}
use Rattle.std.specs.Prelude.{pos, neg_ℤ, ◌+ℤ◌, ◌-ℤ◌, ◌*ℤ◌, ◌<ℤ◌}
use Rattle.avc_types.specs.Arithmetic.{clip1, ◌>>ℤ◌}
use Rattle.avc_types.specs.declared.picture_info.VideoUsability.{VideoUsability}
use Rattle.avc_png.specs.declared.colour.Conversion.{Conversion}

-- K_R and K_B, in ten-thousandths
pub record Weights : Type 0 where
  pub red : ℕ
  pub blue : ℕ

-- Table E-5 at 1 (BT.709); at 5 and 6 (BT.601), which stands for all others too
abbrev pub weights_of : (matrix_coefficients : ℕ) → Weights
weights_of matrix_coefficients =
    if matrix_coefficients == 1 then record { red = 2126; blue = 722 } else record {
      red = 2990;
      blue = 1140;
    }

-- K_G, which is what they leave of 1
abbrev pub green : Weights → ℕ
green k = 10000 - k.red - k.blue

-- a quotient in 65,536ths, rounded
abbrev pub in_65536ths : (numerator denominator : ℕ) → ℕ
in_65536ths numerator denominator = (2 * 65536 * numerator + denominator) / (2 * denominator)

-- E'Y goes from 0 to 1 over `luma` values from `black` on, E'PB and E'PR from -0.5 to 0.5 over
-- `chroma` values round 128. By E.2.1 E'R = E'Y + 2 (1 - K_R) E'PR and E'B = E'Y + 2 (1 - K_B)
-- E'PB, and E'G is what K_R E'R + K_G E'G + K_B E'B = E'Y leaves it.
abbrev pub conversion : Weights → (black luma chroma : ℕ) → Conversion
conversion k black luma chroma = record {
  black = black;
  luma = in_65536ths 255 luma;
  red_by_cr = in_65536ths (255 * 2 * (10000 - k.red)) (10000 * chroma);
  green_by_cb = in_65536ths (255 * 2 * (10000 - k.blue) * k.blue) (10000 * green k * chroma);
  green_by_cr = in_65536ths (255 * 2 * (10000 - k.red) * k.red) (10000 * green k * chroma);
  blue_by_cb = in_65536ths (255 * 2 * (10000 - k.blue)) (10000 * chroma);
}

-- by matrix_coefficients and video_full_range_flag
abbrev pub conversion_of : VideoUsability → Conversion
conversion_of u =
    if u.video_full_range_flag then conversion (weights_of u.matrix_coefficients) 0 255 255
    else conversion (weights_of u.matrix_coefficients) 16 219 224

-- a number in 65,536ths, rounded and held between 0 and 255
abbrev pub rounded : ℤ → ℕ
rounded z = clip1 (z +ℤ pos 32768 >>ℤ 16)

-- so many 65,536ths for each value that a sample is above where it begins
abbrev pub share : (factor sample begin : ℕ) → ℤ
share factor sample begin = pos factor *ℤ (pos sample -ℤ pos begin)

-- red, green and blue
abbrev pub pixel : Conversion → (luma cb cr : ℕ) → List ℕ
pixel c luma cb cr =
    rounded (share c.luma luma c.black +ℤ share c.red_by_cr cr 128)
    ∷ rounded (share c.luma luma c.black -ℤ share c.green_by_cb cb 128
    -ℤ share c.green_by_cr cr 128)
    ∷ rounded (share c.luma luma c.black +ℤ share c.blue_by_cb cb 128) ∷ []

-- ---- for private clauses

-- as large as a share can be
pub record IsShare (z : ℤ) : Type 0 where
  pub low : neg_ℤ (pos (2 ^ 40)) <ℤ z
  pub high : z <ℤ pos (2 ^ 40)
