-- Which of the other's pictures are ours of another number, by the MD5 of what is shown of each
-- (RFC 1321).
use Rattle.std.specs.Prelude.{ℕ, ◌+◌, nat_eq, nat_lt, Bool, false, if◌then◌else◌, List, [], ◌∷◌}
use Rattle.std.specs.Prelude.{length, map, take, drop, Option, Some, None, slice_get}
use Rattle.std.specs.Prelude.{slice_index_or}
use Rattle.std.specs.Cmp.Lexicographic.{pointwise}
use Rattle.std.specs.List.{filter_map, position, range_with_len}
use Rattle.std.specs.Option.{option_map}
use Rattle.md5.specs.Md5.{md5}
use Rattle.avc_annexb.specs.Units.{saturated}
use Rattle.avc_types.specs.declared.picture.Picture.{Picture as Decoded}
use Rattle.avc_yuv.specs.I420.{i420}
use Rattle.avc_compare.specs.declared.displaced.Displaced.{Displaced}

-- So many of the other's pictures, from the first that differs on, are sought among as many of
-- ours: that one and 16 behind it, since the decoded picture buffer holds back 16 frames at most
-- (A.3.1, C.4).
abbrev pub most_sought : ℕ
most_sought = 17

-- the MD5s of our pictures, and of the other's
pub record Digested : Type 0 where
  pub ours : List (List ℕ)
  pub theirs : List (List ℕ)

-- of these pictures
abbrev pub digests_of : List Decoded → List (List ℕ)
digests_of ps = map (λ p. md5 (i420 p)) ps

-- The other's pictures: as many of its bytes as each of ours has as I420, one behind another, as
-- long as there are so many.
unfoldable pub pictures_beside : List Decoded → (theirs : List ℕ) → List (List ℕ)
pictures_beside [] theirs = []
pictures_beside (p ∷ ps) theirs =
    if nat_lt (length theirs) (length (i420 p)) then [] else take (length (i420 p)) theirs
    ∷ pictures_beside ps (drop (length (i420 p)) theirs)

-- two MD5s are the same
abbrev pub is_digest : (own digest : List ℕ) → Bool
is_digest own digest = pointwise nat_eq own digest

-- this MD5 is there, and is the same
abbrev pub is_at : Option (List ℕ) → (digest : List ℕ) → Bool
is_at None digest = false
is_at (Some own) digest = is_digest own digest

-- The other's picture at this place, counted from the picture of this number: the first of ours
-- that has its MD5, where ours at the same place has another.
abbrev pub displaced_at : (first : ℕ) → (ours : List (List ℕ)) → (digest : List ℕ)
    → (place : ℕ) → Option Displaced
displaced_at first ours digest place =
    if is_at (slice_get ours place) digest then None
    else option_map
    (λ own. record { number = saturated (first + place); ours = saturated (first + own) })
    (position (λ own. is_digest own digest) ours)

-- the other's pictures that are ours of another number, where the first of both have this one
abbrev pub displaced_pictures : (first : ℕ) → Digested → List Displaced
displaced_pictures first d =
    filter_map (λ place. displaced_at first d.ours (slice_index_or d.theirs place []) place)
    (range_with_len 0 (length d.theirs))
