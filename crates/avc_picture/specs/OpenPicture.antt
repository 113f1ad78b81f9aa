-- How far an open picture is deblocked, its samples, and what the filter is told of it, ITU-T H.264
-- clause 8.7.
use Rattle.std.specs.Prelude.{◌≡◌, ℕ, ◌<◌, Bool, false, List, length, slice_index}
use Rattle.avc_params.specs.Limits.{width_in_mbs}
use Rattle.avc_motion.specs.Motion.{motion_before}
use Rattle.avc_plane.specs.Planes.{Planes, samples_of}
use Rattle.avc_deblock.specs.FilterInfo.{HasInfo, Names}
use Rattle.avc_deblock.specs.declared.mb_info.MbInfo.{MbInfo}
use Rattle.avc_picture_core.specs.Built.{built}
use Rattle.avc_picture.specs.Context.{AreNames}
use Rattle.avc_picture.specs.Decoding.{CanStandAt, Decoding, progress_at, start_at}
use Rattle.avc_picture.specs.FilterRows.{is_in_last_rows}
use Rattle.avc_picture.specs.RowLate.{covering_address, filtered_rows, rows_filtered}
use Rattle.avc_picture.specs.Slices.{coded_of}

-- the planes of the slices so far, filtered one row late (8.7)
abbrev pub planes_so_far : {PAD : ℕ} → List ℕ → Decoding PAD → Planes
planes_so_far indices d =
    let c = coded_of (start_at indices d) (progress_at indices d) in
    rows_filtered c (filtered_rows c.width (length c.mbs)) (built c)

-- so many rows of macroblocks are filtered
abbrev pub HasFiltered : {PAD : ℕ} → (rows : ℕ) → Decoding PAD → Type 0
HasFiltered rows d =
    (indices : List ℕ) → CanStandAt indices d →
    filtered_rows (width_in_mbs d.sps) (length (progress_at indices d).mbs) ≡ rows

-- the sample (x, y) of a component is of a macroblock that has been read
abbrev pub IsCovered : {PAD : ℕ} → (component x y : ℕ) → Decoding PAD → Type 0
IsCovered component x y d =
    (indices : List ℕ) → CanStandAt indices d →
    covering_address (width_in_mbs d.sps) component x y < (progress_at indices d).read

-- the sample (x, y) of a component, after the line filters of those rows and no others
abbrev pub HasSample : {PAD : ℕ} → (component x y value : ℕ) → Decoding PAD → Type 0
HasSample component x y value d =
    (indices : List ℕ) → CanStandAt indices d → samples_of (planes_so_far indices d) component x y
    ≡ value

-- ---- what the filter is told

-- Whether it is still kept for macroblock `address`: it is where the macroblock is there, in the
-- row of the one that comes next or in one of the two rows above that.
abbrev pub IsKept : {PAD : ℕ} → (address : ℕ) → (kept : Bool) → Decoding PAD → Type 0
IsKept address kept d =
    (indices : List ℕ) → CanStandAt indices d →
    kept ≡ is_in_last_rows (width_in_mbs d.sps) (length (progress_at indices d).mbs) address

-- It is this for macroblock `address`, wherever the frames stand, which are numbered from 0 in
-- decoding order.
abbrev pub HasFilterInfo : {PAD : ℕ} → (address : ℕ) → MbInfo → Decoding PAD → Type 0
HasFilterInfo address f d =
    (indices : List ℕ) (names : Names) → CanStandAt indices d → AreNames indices names →
    let c = coded_of (start_at indices d) (progress_at indices d) in
    HasInfo c (motion_before c (length c.mbs)) names address f

-- The numbers of an inter macroblock's reference pictures are places among the frames.
abbrev pub NamesPlaces : {PAD : ℕ} → MbInfo → Decoding PAD → Type 0
NamesPlaces f d =
    f.is_intra ≡ false → (quarter : ℕ) → quarter < 4 →
    slice_index f.pictures quarter < length d.frames
