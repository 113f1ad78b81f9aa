-- What a writer was given.
use Rattle.std.specs.Prelude.{◌≡◌, ℕ, ◌+◌, ◌-◌, ◌<◌, ◌≤◌, ◌==◌, List, length, take, Option}
use Rattle.std.specs.Prelude.{MatchResult, Result, Ok, Err, if◌then◌else◌}
use Rattle.std.specs.Io.KnownBytes.{Appends}
use Rattle.avc_yuv.specs.declared.write.WriteFault.{WriteFault}

-- After `before` bytes, these bytes were written to a writer that held `old` and holds `new`: all
-- of them, with the number of bytes written by then, or the first of them and not all, with the
-- number that was written by then.
abbrev pub Writes : (before : ℕ) → List ℕ → (old new : Option (List ℕ)) → Result ℕ WriteFault →
    Type 0
Writes before bytes old new result = MatchResult result
    (λ written. (written ≡ before + length bytes) × Appends old new bytes)
    (λ fault. (before ≤ fault.written) × (fault.written < before + length bytes) ×
    Appends old new (take (fault.written - before) bytes))

-- A `write` took so many bytes more, after `before` and then `done` others: how many are done then.
-- To take none is a fault.
abbrev pub done_after : (before done taken : ℕ) → Result ℕ WriteFault
done_after before done taken =
    if taken == 0 then Err (record { written = before + done }) else Ok (done + taken)
