-- Adding to a text.
use Rattle.std.specs.Prelude.{◌≡◌, ℕ, List, ◌++◌, string_bytes, String}

-- These bytes were added behind a text.
abbrev pub AddsText : {A : Type 0} → (old new : String A) → (added : List ℕ) → Type 0
AddsText old new added = string_bytes new ≡ string_bytes old ++ added
