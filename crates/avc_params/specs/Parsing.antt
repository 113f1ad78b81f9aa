-- Parts of the syntax that may be absent (7.3.2.1.1, E.1.1).
use Rattle.std.specs.Prelude.{Option}
use Rattle.avc_bits.specs.Bits.{Read, ◌>>=◌, where_set}
use Rattle.avc_bits.specs.Codes.{flag}

-- a flag and, where it is 1, the part (7.1)
abbrev pub optional : {A : Type 0} → Read A → Read (Option A)
optional part = flag >>= λ present. where_set present part
