-- Neighbours by address are those by sample coordinates (6.4.8, 6.4.9, 6.4.12).
use Rattle.std.specs.Prelude.{◌≡◌, ℕ, ◌<◌, ◌==◌, nat_lt, ◌&&◌, ◌||◌, Bool, false, ℤ, pos, negsuc}
use Rattle.std.specs.Prelude.{if◌then◌else◌, List, ◌++◌, map, Option, Some, None, slice_get}
use Rattle.std.specs.Option.{option_map}
use Rattle.avc_types.specs.Pictures.{PicMb}
use Rattle.avc_neigh.specs.declared.neighbour_info.NeighbourInfo.{NeighbourInfo}
use Rattle.avc_neigh.specs.declared.neighbour_info.Motion.TheVariants as motions
use Rattle.avc_neigh.specs.declared.neighbour_info.NearMode.TheVariants as modes
use Rattle.avc_neigh.specs.Around.{PictureInfo, next_address, mb_a, mb_b, Around, around}
use Rattle.avc_neigh.specs.BlockNear.{AreAround, IsAsked}
use Rattle.avc_neigh.specs.Blocks.{Location, location_at, same_slice, left_of, above}
use Rattle.avc_neigh.specs.TotalCoeffs.{total_coeffs_of}

-- What is said of a picture's macroblocks, this info says of its first ones.
abbrev pub InfoTell : {Y : Type 0} → (PicMb → Y) → (NeighbourInfo → Y) → List PicMb →
    List NeighbourInfo → Type 0
InfoTell {Y} of_mb of_info mbs info = (rest : List Y) × (map of_mb mbs ≡ map of_info info ++ rest)

-- the info says in which slice each macroblock is
abbrev pub TellSlices : List PicMb → List NeighbourInfo → Type 0
TellSlices = InfoTell (λ m. m.slice) (λ f. f.slice)

-- they say total_coeff of its blocks
abbrev pub TellTotalCoeffs : List PicMb → List NeighbourInfo → Type 0
TellTotalCoeffs = InfoTell (λ m. total_coeffs_of m.mb.syntax) (λ f. f.total_coeffs)

-- p has the info of the macroblocks of a picture before the next one, which is of this slice. Later
-- ones may be there.
pub record IsNext (mbs : List PicMb) (p : PictureInfo) (slice : ℕ) : Type 0 where
  pub wide : 0 < p.width
  pub slices : TellSlices mbs p.info
  pub next : option_map (λ m. m.slice) (slice_get mbs (next_address p)) ≡ Some slice

-- The neighbours' blocks are those that are found by sample coordinates.
abbrev pub BlocksAreFound : {X : Type 0} → X → (NeighbourInfo → List X) → Type 0
BlocksAreFound absent blocks =
    (mbs : List PicMb) (p : PictureInfo) (slice : ℕ) → IsNext mbs p slice
    → AreAround absent blocks (around p slice) mbs p.width (map blocks p.info) (next_address p)

-- The neighbours' motion is found by sample coordinates.
abbrev pub MotionIsFound : Type 0
MotionIsFound = BlocksAreFound motions.Absent (λ f. f.motion)

-- So are their prediction modes.
abbrev pub ModesAreFound : Type 0
ModesAreFound = BlocksAreFound modes.Absent (λ f. f.modes)

-- total_coeff of the neighbours A and B is that of the macroblocks that are found so. The next
-- macroblock need not be there.
abbrev pub TotalCoeffsAreFound : Type 0
TotalCoeffsAreFound =
    (mbs : List PicMb) (p : PictureInfo) (slice : ℕ) → 0 < p.width → TellSlices mbs p.info →
    TellTotalCoeffs mbs p.info
    → (option_map (λ m. total_coeffs_of m.syntax) (left_of mbs p.width slice (next_address p))
    ≡ option_map (λ f. f.total_coeffs) (mb_a p slice))
    × (option_map (λ m. total_coeffs_of m.syntax) (above mbs p.width slice (next_address p))
    ≡ option_map (λ f. f.total_coeffs) (mb_b p slice))

-- The sample at this location is there for a block of macroblock a: of its slice, decoded before
-- the block, and of a macroblock that passes the test. `earlier` says which samples of macroblock a
-- itself are decoded before the block.
abbrev pub is_there_by : (test : Option PicMb → Bool) → (earlier : (x y : ℕ) → Bool) → List PicMb →
    (a : ℕ) → Option Location → Bool
is_there_by test earlier mbs a None = false
is_there_by test earlier mbs a (Some s) =
    same_slice mbs a s.address
    && (nat_lt s.address a || ((s.address == a) && earlier s.x s.y))
    && test (slice_get mbs s.address)

-- a neighbour is there, and the test holds of its info
abbrev pub holds_of : (NeighbourInfo → Bool) → Option NeighbourInfo → Bool
holds_of told None = false
holds_of told (Some f) = told f

-- the same by the neighbour that covers the sample (6.4.12.1, Table 6-3); `mine` is for samples of
-- the macroblock itself
abbrev pub is_there_near : (told : NeighbourInfo → Bool) → (mine : (x y : ℕ) → Bool) → Around →
    (x y : ℤ) → Bool
is_there_near told mine n (pos x) (pos y) = if nat_lt x 16 then mine x y else false
is_there_near told mine n (negsuc _) (pos y) = holds_of told n.a
is_there_near told mine n (pos x) (negsuc _) =
    if nat_lt x 16 then holds_of told n.b else holds_of told n.c
is_there_near told mine n (negsuc _) (negsuc _) = holds_of told n.d

-- Where the info tells what the test says, as whether a macroblock is intra, the neighbours say
-- which samples are there.
abbrev pub AvailabilityIsFound : Type 0
AvailabilityIsFound =
    (test : Option PicMb → Bool) (told : NeighbourInfo → Bool) (earlier : (x y : ℕ) →
    Bool) (mbs : List PicMb) (p : PictureInfo) (slice : ℕ)
    → IsNext mbs p slice → InfoTell (λ m. test (Some m)) told mbs p.info → (x y : ℤ) → IsAsked x y
    → is_there_by test earlier mbs (next_address p) (location_at p.width (next_address p) x y)
    ≡ is_there_near told (λ u v. earlier u v && test (slice_get mbs (next_address p)))
    (around p slice) x y
