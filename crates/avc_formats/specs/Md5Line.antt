-- The line that tells an MD5.
use Rattle.std.specs.Prelude.{ℕ, List, [], ◌∷◌, ◌++◌, codes}
use Rattle.hex.specs.Hex.{encode_lower}

-- as `md5sum` writes the digest of its standard input
abbrev pub digest_line : (digest : List ℕ) → List ℕ
digest_line digest = encode_lower digest ++ codes "  -" ++ 10 ∷ []
