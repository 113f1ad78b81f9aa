-- Some of a stream's pictures.
use Rattle.std.specs.Prelude.{ℕ, ◌+◌, ◌-◌, nat_le, nat_lt, Bool, true, ◌&&◌, if◌then◌else◌, []}
use Rattle.avc_formats.specs.Formats.{Format}

-- The picture of this number is none of the first `skip`, and of those behind them one of the first
-- `limit`.
abbrev pub is_wanted : (skip limit number : ℕ) → Bool
is_wanted skip limit number = nat_le skip number && nat_lt (number - skip) limit

-- Only these are written, and they are numbered from 0.
abbrev pub selected : Format → (skip limit : ℕ) → Format
selected format skip limit = record {
  text = λ number p. if is_wanted skip limit number then format.text (number - skip) p else [];
  fits = λ number p. if is_wanted skip limit number then format.fits (number - skip) p else true;
  enough = λ pictures. nat_le (skip + limit) pictures;
}
