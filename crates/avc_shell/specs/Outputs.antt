-- Files of one picture each.
use Rattle.std.specs.Prelude.{ℕ, ◌+◌, Bool, if◌then◌else◌}
use Rattle.avc_annexb.specs.Units.{saturated}

-- the number of the next file, behind one of this number, or where there is none yet
abbrev pub next_number : (has_file : Bool) → (number : ℕ) → ℕ
next_number has_file number = if has_file then saturated (number + 1) else number
