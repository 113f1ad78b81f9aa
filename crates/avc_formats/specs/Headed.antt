-- Formats with a head in front of the first picture, or of each. It says how pictures are shown, as
-- their sequence parameter set says.
use Rattle.std.specs.Prelude.{ℕ, Bool, true, false, ◌==◌, ◌&&◌, if◌then◌else◌, List, [], ◌++◌}
use Rattle.avc_types.specs.declared.picture.Picture.{Picture}
use Rattle.avc_yuv.specs.I420.{shown_height, shown_width}
use Rattle.avc_formats.specs.Formats.{Format}
use Rattle.avc_formats.specs.FrameMd5.{framemd5_head, framemd5_line}
use Rattle.avc_formats.specs.Y4m.{y4m_frame, y4m_header}
use Rattle.avc_formats.specs.declared.headed.HeadedFormat.{HeadedFormat}
use Rattle.avc_formats.specs.declared.headed.HeadedFormat.TheVariants.{FrameMd5, Y4m, Y4mEach}
use Rattle.avc_presentation.specs.declared.presentation.Presentation.{Presentation}

-- the head
abbrev pub head_of : HeadedFormat → Presentation → List ℕ
head_of Y4m s = y4m_header s
head_of Y4mEach s = y4m_header s
head_of FrameMd5 s = framemd5_head s

-- it stands in front of the picture of this number
abbrev pub has_head : HeadedFormat → (number : ℕ) → Bool
has_head Y4m number = number == 0
has_head Y4mEach number = true
has_head FrameMd5 number = number == 0

-- there
abbrev pub head_before : HeadedFormat → Presentation → (number : ℕ) → List ℕ
head_before format s number = if has_head format number then head_of format s else []

-- a picture
abbrev pub picture_text : HeadedFormat → (number : ℕ) → Picture → List ℕ
picture_text Y4m number p = y4m_frame p
picture_text Y4mEach number p = y4m_frame p
picture_text FrameMd5 number p = framemd5_line number p

-- the picture has this size
abbrev pub has_size : Presentation → Picture → Bool
has_size s p = shown_width p == s.width && shown_height p == s.height

-- All pictures have the size that the head says.
abbrev pub headed : HeadedFormat → Presentation → Format
headed format s = record {
  text = λ number p. head_before format s number ++ picture_text format number p;
  fits = λ number p. has_size s p;
  enough = λ pictures. false;
}
