-- The text that tells people how a stream's pictures are coded and shown, and how many bits and
-- seconds they take.
use Rattle.std.specs.Prelude.{ℕ, Bool, true, false, List, [], ◌++◌, Option, Some, None, codes}
use Rattle.std.specs.Fmt.{decimal}
use Rattle.avc_presentation.specs.Ratios.{ratio_word}
use Rattle.avc_presentation.specs.declared.ratio.Ratio.{Ratio}
use Rattle.avc_params.specs.declared.vui.Colour.{Colour}
use Rattle.avc_params.specs.declared.vui.Timing.{Timing}
use Rattle.avc_sequence.specs.Rates.{bit_rate, duration}
use Rattle.avc_info.specs.Sizes.{sizes_line}
use Rattle.avc_info.specs.Text.{if_given, newline, sequence_of, stream_text, thousandths_if_given}
use Rattle.avc_sequence.specs.declared.sequence_facts.Crop.{Crop}
use Rattle.avc_sequence.specs.declared.sequence_facts.SequenceFacts.{SequenceFacts}
use Rattle.avc_sequence.specs.declared.sequence_facts.Size.{Size}
use Rattle.avc_info.specs.declared.stream_facts.StreamFacts.{StreamFacts}

-- ---- how pictures are coded

-- the size before cropping
abbrev pub coded_text : Size → List ℕ
coded_text s = codes "coded " ++ decimal s.width ++ codes "x" ++ decimal s.height

-- what is cropped at each side
abbrev pub crop_text : Crop → List ℕ
crop_text c =
    codes ", crop left " ++ decimal c.left ++ codes ", right " ++ decimal c.right ++ codes ", top "
    ++ decimal c.top ++ codes ", bottom " ++ decimal c.bottom

-- both
abbrev pub coded_line : SequenceFacts → List ℕ
coded_line s = coded_text s.coded ++ crop_text s.crop ++ newline

-- ---- how they are shown (E.2.1)

-- the shape of a sample, its width to its height (Table E-1)
abbrev pub aspect_text : Option Ratio → List ℕ
aspect_text None = codes "sample aspect ratio not given"
aspect_text (Some r) = codes "sample aspect ratio " ++ ratio_word r

-- video_full_range_flag
abbrev pub range_text : Option Bool → List ℕ
range_text None = codes ", range not given"
range_text (Some true) = codes ", range full"
range_text (Some false) = codes ", range limited"

-- the shape of samples, their range, and chroma_sample_loc_type_top_field
abbrev pub samples_line : SequenceFacts → List ℕ
samples_line s =
    aspect_text s.sample_aspect ++ range_text s.full_range
    ++ if_given (codes ", chroma place") s.chroma_place ++ newline

-- colour_primaries, transfer_characteristics and matrix_coefficients
abbrev pub colour_text : Option Colour → List ℕ
colour_text None = codes "colour primaries not given, transfer not given, matrix not given"
colour_text (Some c) =
    codes "colour primaries " ++ decimal c.colour_primaries ++ codes ", transfer "
    ++ decimal c.transfer_characteristics ++ codes ", matrix " ++ decimal c.matrix_coefficients

-- the same as a line
abbrev pub colour_line : SequenceFacts → List ℕ
colour_line s = colour_text s.colour ++ newline

-- ---- what they take

-- bits in a second, and seconds
abbrev pub rates_line : Option Timing → (bytes pictures : ℕ) → List ℕ
rates_line t bytes pictures =
    if_given (codes "bit rate") (bit_rate t bytes pictures)
    ++ thousandths_if_given (codes ", duration") (duration t pictures) ++ newline

-- ---- of a stream with a picture

-- four lines, where it has so many bytes and pictures
abbrev pub picture_text : (bytes pictures : ℕ) → Option SequenceFacts → List ℕ
picture_text bytes pictures None = []
picture_text bytes pictures (Some s) =
    coded_line s ++ samples_line s ++ colour_line s ++ rates_line s.timing bytes pictures

-- all that is told of a stream of so many bytes
abbrev pub info_text : StreamFacts → (bytes : ℕ) → List ℕ
info_text f bytes =
    stream_text f ++ picture_text bytes f.counts.pictures (sequence_of f) ++ sizes_line f.sizes
