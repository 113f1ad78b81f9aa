-- The MD5 of each picture in a line of its own, behind a head that says how pictures are shown, as
-- ffmpeg's framemd5 writes it.
use Rattle.std.specs.Prelude.{ℕ, ◌-◌, ◌==◌, if◌then◌else◌, List, ◌++◌, length, replicate, codes}
use Rattle.std.specs.Fmt.{decimal}
use Rattle.md5.specs.Md5.{md5}
use Rattle.hex.specs.Hex.{encode_lower}
use Rattle.avc_types.specs.declared.picture.Picture.{Picture}
use Rattle.avc_yuv.specs.I420.{i420}
use Rattle.avc_formats.specs.Text.{newline}
use Rattle.avc_presentation.specs.declared.presentation.Presentation.{Presentation}
use Rattle.avc_presentation.specs.declared.ratio.Ratio.{Ratio}

-- ---- the head

-- n/d
abbrev pub fraction : (n d : ℕ) → List ℕ
fraction n d = decimal n ++ codes "/" ++ decimal d

-- what the lines of pictures are
abbrev pub format_lines : List ℕ
format_lines =
    codes "#format: frame checksums" ++ newline ++ codes "#version: 2" ++ newline
    ++ codes "#hash: MD5" ++ newline

-- The unit of times: how many seconds a frame takes.
abbrev pub time_base_line : (frame_rate : Ratio) → List ℕ
time_base_line r = codes "#tb 0: " ++ fraction r.denominator r.numerator ++ newline

-- samples as they are
abbrev pub codec_lines : List ℕ
codec_lines = codes "#media_type 0: video" ++ newline ++ codes "#codec_id 0: rawvideo" ++ newline

-- width and height
abbrev pub dimensions_line : Presentation → List ℕ
dimensions_line s =
    codes "#dimensions 0: " ++ decimal s.width ++ codes "x" ++ decimal s.height ++ newline

-- the shape of a sample: 0/1 where it is not given
abbrev pub aspect_line : (sample_aspect : Ratio) → List ℕ
aspect_line r =
    codes "#sar 0: "
    ++ (if r.denominator == 0 then codes "0/1" else fraction r.numerator r.denominator) ++ newline

-- what stands in the columns
abbrev pub columns_line : List ℕ
columns_line = codes "#stream#, dts,        pts, duration,     size, hash" ++ newline

abbrev pub framemd5_head : Presentation → List ℕ
framemd5_head s =
    format_lines ++ time_base_line s.frame_rate ++ codec_lines ++ dimensions_line s
    ++ aspect_line s.sample_aspect ++ columns_line

-- ---- a picture

-- a number to the right in a column of so many characters
abbrev pub column : (width n : ℕ) → List ℕ
column width n = replicate (width - length (decimal n)) 32 ++ decimal n

-- the stream, and when the picture is decoded and shown, in units: its number in output order
abbrev pub times_text : (number : ℕ) → List ℕ
times_text number = codes "0, " ++ column 10 number ++ codes ", " ++ column 10 number

-- that it is shown for one unit, and how many bytes it has
abbrev pub size_text : (size : ℕ) → List ℕ
size_text size = codes ", " ++ column 8 1 ++ codes ", " ++ column 8 size

-- the line of a picture of this number, with so many bytes, of which this is the MD5 (RFC 1321)
abbrev pub checksum_line : (number size : ℕ) (digest : List ℕ) → List ℕ
checksum_line number size digest =
    times_text number ++ size_text size ++ codes ", " ++ encode_lower digest ++ newline

-- of a picture as I420
abbrev pub framemd5_line : (number : ℕ) → Picture → List ℕ
framemd5_line number p = checksum_line number (length (i420 p)) (md5 (i420 p))
