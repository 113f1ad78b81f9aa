-- What a file is by its name.
use Rattle.std.specs.Prelude.{◌≡◌, ℕ, List, [], ◌∷◌, codes}
use Rattle.std.specs.List.{Contains}
use Rattle.avc_request.specs.declared.file_kind.FileKind.{FileKind}
use Rattle.avc_request.specs.declared.file_kind.FileKind.TheVariants.{Container, Other, Png, Y4m}

-- what the names of containers and pictures end in, as no command writes
abbrev pub container_extensions : List (List ℕ)
container_extensions =
    codes "mp4" ∷ codes "m4v" ∷ codes "mov" ∷ codes "mkv" ∷ codes "webm" ∷ codes "ts" ∷ codes "flv"
    ∷ codes "avi" ∷ codes "ivf"
    ∷ codes "jpg" ∷ codes "jpeg" ∷ []

-- The extension, in small letters, is that of such a file.
abbrev pub IsKind : (extension : List ℕ) → FileKind → Type 0
IsKind extension Y4m = extension ≡ codes "y4m"
IsKind extension Png = extension ≡ codes "png"
IsKind extension Container = Contains container_extensions extension
IsKind extension Other =
    (extension ≡ codes "y4m" → ⊥) × (extension ≡ codes "png" → ⊥) ×
    (Contains container_extensions extension → ⊥)
