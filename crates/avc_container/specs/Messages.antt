-- What is told of a stream in which no picture was found, by its first bytes.
use Rattle.std.specs.Prelude.{ℕ, Bool, ◌||◌, if◌then◌else◌, List, [], ◌∷◌, ◌++◌, Option, Some, None}
use Rattle.std.specs.Prelude.{codes}
use Rattle.avc_container.specs.Containers.{container_of, has_at}
use Rattle.avc_container.specs.declared.container.Container.{Container}
use Rattle.avc_container.specs.declared.container.Container.TheVariants.{Avi, Flv, Ivf, Jpeg}
use Rattle.avc_container.specs.declared.container.Container.TheVariants.{Matroska, MpegTs, Mp4, Png}
use Rattle.avc_container.specs.declared.container.Container.TheVariants.{Y4m}

-- what each is called
abbrev pub name_of : Container → List ℕ
name_of Mp4 = codes "an MP4 file"
name_of Matroska = codes "a Matroska or WebM file"
name_of MpegTs = codes "an MPEG transport stream"
name_of Flv = codes "an FLV file"
name_of Avi = codes "an AVI file"
name_of Ivf = codes "an IVF file"
name_of Y4m = codes "a YUV4MPEG2 file"
name_of Jpeg = codes "a JPEG picture"
name_of Png = codes "a PNG picture"

-- what makes a byte stream of the H.264 that a container holds
abbrev pub pipe : List ℕ
pipe = codes "; a byte stream of its H.264: ffmpeg -i FILE -c:v copy -bsf:v h264_mp4toannexb -f h264 - | avcdec decode -"

-- pictures that are in no container
abbrev pub none_inside : List ℕ
none_inside = codes ", which holds no H.264"

-- what can be done with each
abbrev pub advice_of : Container → List ℕ
advice_of Mp4 = pipe
advice_of Matroska = pipe
advice_of MpegTs = pipe
advice_of Flv = pipe
advice_of Avi = pipe
advice_of Ivf = pipe
advice_of Y4m = none_inside
advice_of Jpeg = none_inside
advice_of Png = none_inside

-- a start code, or zero bytes in front of one (B.1.1)
abbrev pub has_start_code : (first : List ℕ) → Bool
has_start_code first = has_at first 0 (0 ∷ 0 ∷ 1 ∷ []) || has_at first 0 (0 ∷ 0 ∷ 0 ∷ [])

-- where it is none of these
abbrev pub other_text : (first : List ℕ) → List ℕ
other_text [] = codes "there is nothing to read"
other_text (byte ∷ bytes) =
    if has_start_code (byte ∷ bytes) then codes "the first bytes are those of a byte stream"
    else codes "the first bytes are of no known file; a byte stream begins with 00 00 01 or 00 00 00 01"

-- which it is
abbrev pub container_text : Container → List ℕ
container_text container =
    codes "the first bytes are those of " ++ (name_of container ++ advice_of container)

-- what the first bytes are
abbrev pub beginning_text : Option Container → (first : List ℕ) → List ℕ
beginning_text None first = other_text first
beginning_text (Some container) first = container_text container

-- the end of a line
abbrev newline : List ℕ
newline = 10 ∷ []

-- where no picture was found
abbrev pub no_picture_line : (first : List ℕ) → List ℕ
no_picture_line first =
    codes "avcdec: no picture was found; " ++ beginning_text (container_of first) first ++ newline

-- of a container or picture, whatever was found
abbrev pub container_line : Container → List ℕ
container_line container = codes "avcdec: " ++ container_text container ++ newline
