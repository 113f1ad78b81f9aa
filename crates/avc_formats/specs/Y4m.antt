-- YUV4MPEG2: a line that says how pictures are shown, and then each picture behind a line of its
-- own, as ffmpeg's yuv4mpegpipe writes it.
use Rattle.std.specs.Prelude.{ℕ, Bool, true, false, List, [], ◌++◌, Option, Some, None, codes}
use Rattle.std.specs.Fmt.{decimal}
use Rattle.avc_types.specs.declared.picture.Picture.{Picture}
use Rattle.avc_yuv.specs.I420.{i420}
use Rattle.avc_formats.specs.Text.{newline}
use Rattle.avc_presentation.specs.Ratios.{ratio_word}
use Rattle.avc_presentation.specs.declared.presentation.ChromaSite.{ChromaSite}
use Rattle.avc_presentation.specs.declared.presentation.ChromaSite.TheVariants.{Left, Centre}
use Rattle.avc_presentation.specs.declared.presentation.ChromaSite.TheVariants.{TopLeft}
use Rattle.avc_presentation.specs.declared.presentation.Presentation.{Presentation}

-- 4:2:0, and where chroma samples lie
abbrev pub chroma_words : ChromaSite → List ℕ
chroma_words Left = codes " C420mpeg2 XYSCSS=420MPEG2"
chroma_words Centre = codes " C420jpeg XYSCSS=420JPEG"
chroma_words TopLeft = codes " C420paldv XYSCSS=420PALDV"

-- nothing where the range is not given
abbrev pub range_words : (full_range : Option Bool) → List ℕ
range_words (Some true) = codes " XCOLORRANGE=FULL"
range_words (Some false) = codes " XCOLORRANGE=LIMITED"
range_words None = []

-- width, height, frames in a second, frames and no fields, and the shape of a sample
abbrev pub shape_words : Presentation → List ℕ
shape_words s =
    codes "YUV4MPEG2 W" ++ decimal s.width ++ codes " H" ++ decimal s.height ++ codes " F"
    ++ ratio_word s.frame_rate
    ++ codes " Ip A" ++ ratio_word s.sample_aspect

-- the first line, which is the head
abbrev pub y4m_header : Presentation → List ℕ
y4m_header s = shape_words s ++ chroma_words s.chroma_site ++ range_words s.full_range ++ newline

-- a picture behind a line of its own
abbrev pub y4m_frame : Picture → List ℕ
y4m_frame p = codes "FRAME" ++ newline ++ i420 p
