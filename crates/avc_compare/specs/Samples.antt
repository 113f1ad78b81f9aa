-- The samples of a picture of ours, and the other's beside them: these words are the crate's own.
use Rattle.std.specs.Prelude.{◌≡◌, ℕ, ◌+◌, ◌<◌, Bool, true, false, List, [], ◌++◌, length, Option}
use Rattle.std.specs.Prelude.{Result, Ok, Err}
use Rattle.std.specs.Io.KnownBytes.{Consumes, IsAtEnd}
use Rattle.avc_types.specs.declared.picture.Picture.{Picture as Decoded}
use Rattle.avc_yuv.specs.I420.{i420}
use Rattle.avc_console.specs.declared.fault.RunFault.TheVariants.{Memory}
use Rattle.avc_compare.specs.declared.verdict.CompareFault.{CompareFault}
use Rattle.avc_compare.specs.declared.verdict.CompareFault.TheVariants.{Ours, Theirs}

-- those of both, as I420, and the other's bytes that were read and wait
pub record Sampled : Type 0 where
  pub ours : List ℕ
  pub theirs : List ℕ
  pub waiting : List ℕ

-- before the first picture
abbrev pub no_samples : Sampled
no_samples = record { ours = []; theirs = []; waiting = [] }

-- memory was refused, or the other can't be read
abbrev pub IsUnread : CompareFault → Type 0
IsUnread (Ours Memory) = Unit {0}
IsUnread (Ours _) = ⊥
IsUnread Theirs = Unit {0}

-- As many of the other's next bytes were read as the picture has as I420; or all that were left,
-- which are fewer.
abbrev pub ReadsBeside : Decoded → (old new : Option (List ℕ)) → (theirs : List ℕ)
    → Result Bool CompareFault → Type 0
ReadsBeside p old new theirs (Ok true) = Consumes old new theirs × (length theirs ≡ length (i420 p))
ReadsBeside p old new theirs (Ok false) =
    (here : List ℕ) × Consumes old new here × IsAtEnd new × (length here < length (i420 p))
ReadsBeside p old new theirs (Err fault) = (here : List ℕ) × Consumes old new here × IsUnread fault

-- Behind these first bytes of the other the next were read, until there were so many; or all that
-- were left, which are fewer.
abbrev pub ReadsRest : (first : List ℕ) → (old new : Option (List ℕ)) → (theirs : List ℕ)
    → Result Bool CompareFault → Type 0
ReadsRest first old new theirs (Ok true) =
    (more : List ℕ) × Consumes old new more × (theirs ≡ first ++ more)
ReadsRest first old new theirs (Ok false) =
    (more : List ℕ) × Consumes old new more × IsAtEnd new
    × (length first + length more < length theirs)
ReadsRest first old new theirs (Err fault) =
    (more : List ℕ) × Consumes old new more × IsUnread fault
