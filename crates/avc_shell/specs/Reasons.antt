-- Why a file could not be read or written.
use Rattle.std.specs.Prelude.{ℕ, List, [], ◌∷◌, ◌++◌, codes}
use Rattle.std_io.specs.declared.io.kind.ErrorKind.{ErrorKind}
use Rattle.std_io.specs.declared.io.kind.ErrorKind.TheVariants.{NotFound, PermissionDenied}
use Rattle.std_io.specs.declared.io.kind.ErrorKind.TheVariants.{IsADirectory, NotADirectory}
use Rattle.std_io.specs.declared.io.kind.ErrorKind.TheVariants.{StorageFull, QuotaExceeded}
use Rattle.std_io.specs.declared.io.kind.ErrorKind.TheVariants.{FileTooLarge, ReadOnlyFilesystem}
use Rattle.std_io.specs.declared.io.kind.ErrorKind.TheVariants.{InvalidFilename, FilesystemLoop}
use Rattle.std_io.specs.declared.io.kind.ErrorKind.TheVariants.{InvalidData}

-- in words, by what the system answered
abbrev pub reason_of : ErrorKind → List ℕ
reason_of NotFound = codes "there is no such file"
reason_of PermissionDenied = codes "there is no permission"
reason_of IsADirectory = codes "it is a folder"
reason_of NotADirectory = codes "a part of its name is no folder"
reason_of StorageFull = codes "there is no space left"
reason_of QuotaExceeded = codes "no more space is allowed"
reason_of FileTooLarge = codes "it is too large"
reason_of ReadOnlyFilesystem = codes "nothing can be written there"
reason_of InvalidFilename = codes "its name is too long"
reason_of FilesystemLoop = codes "its links lead in a circle"
reason_of InvalidData =
    codes "it is YUV4MPEG2 whose samples are not 4:2:0 with 8 bits, or which is not whole"
reason_of _ = codes "the system refuses it"

-- of the file of this name
abbrev pub reason_line : (name reason : List ℕ) → List ℕ
reason_line name reason = codes "avcdec: " ++ name ++ codes ": " ++ reason ++ 10 ∷ []
