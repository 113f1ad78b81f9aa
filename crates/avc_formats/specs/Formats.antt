-- What is written of pictures in a format.
use Rattle.std.specs.Prelude.{◌≡◌, ℕ, Bool, true, false, List, [], Option}
use Rattle.std.specs.Io.KnownBytes.{Appends}
use Rattle.avc_types.specs.declared.picture.Picture.{Picture as Decoded}
use Rattle.avc_png.specs.Image.{has_png_size, png_of}
use Rattle.avc_yuv.specs.I420.{i420}
use Rattle.avc_console.specs.Reading.{WritesFirst}
use Rattle.avc_console.specs.declared.fault.RunFault.{RunFault}
use Rattle.avc_console.specs.declared.fault.RunFault.TheVariants.{Write, Memory, Size}

-- What is written of the picture of a number (from 0; the greatest number, once there), whether it
-- has the one size that the format can have, and whether so many pictures are all that are wanted.
pub record Format : Type 0 where
  pub text : (number : ℕ) → Decoded → List ℕ
  pub fits : (number : ℕ) → Decoded → Bool
  pub enough : (pictures : ℕ) → Bool

-- I420 of every picture
abbrev pub plain : Format
plain = record { text = λ number p. i420 p; fits = λ number p. true; enough = λ pictures. false }

-- every picture as a PNG file; one that PNG has no size for doesn't fit
abbrev pub png : Format
png = record {
  text = λ number p. png_of p;
  fits = λ number p. has_png_size p;
  enough = λ pictures. false;
}

-- A fault stopped the writing of one picture. None comes from reading here.
abbrev pub StopsPicture : RunFault → (fits : Bool) → (old new : Option (List ℕ)) → List ℕ → Type 0
StopsPicture Write fits old new bytes = WritesFirst old new bytes
StopsPicture Memory fits old new bytes = Appends old new []
StopsPicture Size fits old new bytes = (fits ≡ false) × Appends old new []
StopsPicture _ fits old new bytes = ⊥
