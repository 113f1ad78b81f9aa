-- Which container or picture a file is, by its first bytes.
use Rattle.std.specs.Prelude.{ℕ, Bool, ◌&&◌, if◌then◌else◌, List, [], ◌∷◌, ◌++◌, Option, Some, None}
use Rattle.std.specs.Prelude.{codes, drop, nat_eq}
use Rattle.std.specs.List.{starts_with}
use Rattle.avc_container.specs.declared.container.Container.{Container}
use Rattle.avc_container.specs.declared.container.Container.TheVariants.{Avi, Flv, Ivf, Jpeg}
use Rattle.avc_container.specs.declared.container.Container.TheVariants.{Matroska, MpegTs, Mp4, Png}
use Rattle.avc_container.specs.declared.container.Container.TheVariants.{Y4m}

-- how many first bytes are looked at: one more than a packet of a transport stream has (H.222.0,
-- 2.4.3.2)
abbrev pub first_count : ℕ
first_count = 189

-- the bytes stand at this place
abbrev pub has_at : (first : List ℕ) → (place : ℕ) → (bytes : List ℕ) → Bool
has_at first place bytes = starts_with nat_eq (drop place first) bytes

-- How each begins: the first box of MP4 is a file type box (ISO/IEC 14496-12, 4.3), Matroska and
-- WebM have an EBML header (RFC 8794,
-- 11.2.1), packets of a transport stream a sync_byte (H.222.0, 2.4.3.2), AVI is a RIFF file of this
-- form; JPEG begins with SOI and a further marker (T.81, B.2.1), PNG with its signature (ISO/IEC
-- 15948, 5.2).
abbrev pub has_signature : Container → (first : List ℕ) → Bool
has_signature Mp4 first = has_at first 4 (codes "ftyp")
has_signature Matroska first = has_at first 0 (26 ∷ 69 ∷ 223 ∷ 163 ∷ [])
has_signature MpegTs first = has_at first 0 (71 ∷ []) && has_at first 188 (71 ∷ [])
has_signature Flv first = has_at first 0 (codes "FLV")
has_signature Avi first = has_at first 0 (codes "RIFF") && has_at first 8 (codes "AVI ")
has_signature Ivf first = has_at first 0 (codes "DKIF")
has_signature Y4m first = has_at first 0 (codes "YUV4MPEG2")
has_signature Jpeg first = has_at first 0 (255 ∷ 216 ∷ 255 ∷ [])
has_signature Png first = has_at first 0 (137 ∷ codes "PNG" ++ 13 ∷ 10 ∷ 26 ∷ 10 ∷ [])

-- the first of these that it begins as
abbrev pub first_of : List Container → (first : List ℕ) → Option Container
first_of [] first = None
first_of (container ∷ others) first =
    if has_signature container first then Some container else first_of others first

-- which of them it begins as
abbrev pub container_of : (first : List ℕ) → Option Container
container_of = first_of (Mp4 ∷ Matroska ∷ MpegTs ∷ Flv ∷ Avi ∷ Ivf ∷ Y4m ∷ Jpeg ∷ Png ∷ [])
