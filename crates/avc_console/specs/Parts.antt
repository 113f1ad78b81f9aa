-- Where parts of a read end: these words are the crate's own.
use Rattle.std.specs.Prelude.{ℕ, ◌-◌, ◌==◌, nat_lt, Bool, ◌&&◌, ◌||◌, List, slice_index}

-- A start code (00 00 01, B.1.1) ends with the byte at this place, where the bytes before the first
-- may be zeros.
abbrev pub may_end_start_code : List ℕ → ℕ → Bool
may_end_start_code bytes place =
    (slice_index bytes place == 1)
    && (nat_lt place 1 || slice_index bytes (place - 1) == 0)
    && (nat_lt place 2 || slice_index bytes (place - 2) == 0)
