-- What is remembered of what is read.
use Rattle.std.specs.Prelude.{ℕ, ◌-◌, List, ◌++◌, length, take}
use Rattle.avc_container.specs.Containers.{first_count}

-- the first bytes of a stream, with those of a further read, as many as are wanted still
abbrev pub first_with : (first piece : List ℕ) → List ℕ
first_with first piece = first ++ take (first_count - length first) piece
