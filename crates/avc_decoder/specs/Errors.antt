-- The numbers of the errors.
use Rattle.std.specs.Prelude.{ℕ}
use Rattle.avc_decoder.specs.declared.error.DecodeError.{DecodeError}
use Rattle.avc_decoder.specs.declared.error.DecodeError.TheVariants.{OutOfMemory, Ended}

-- the number by which a caller tells them apart
abbrev pub number_of : DecodeError → ℕ
number_of OutOfMemory = 1
number_of Ended = 2
