-- What a refusal means, for people.
use Rattle.std.specs.Prelude.{ℕ, List, ◌∷◌, ◌++◌, [], Option, Some, None, codes}
use Rattle.std.specs.Fmt.{decimal}
use Rattle.avc_types.specs.declared.fault.Fault.{Fault}
use Rattle.avc_types.specs.Faults.{number_of, name_of}
use Rattle.avc_types.specs.declared.fault.Fault.TheVariants as faults

-- the end of a line
abbrev newline : List ℕ
newline = 10 ∷ []

-- when each fault is there, and the clause of the standard (docs/behaviour.md has the same words)
abbrev pub meaning_of : Fault → List ℕ
meaning_of faults.Truncated = codes "an element reaches the stop bit, or there is none (7.2)"
meaning_of faults.CodeTooLong = codes "32 or more zeros in front of an Exp-Golomb code (9.1)"
meaning_of faults.OutOfRange = codes "a value is outside the range that its semantics give (7.4)"
meaning_of faults.ForbiddenBit = codes "forbidden_zero_bit is 1; nothing else changes (7.4.1)"
meaning_of faults.NalTooLong = codes "a unit is longer than the limit (own rule)"
meaning_of faults.Profile = codes "profile_idc is not 66, 77 or 88 (A.2)"
meaning_of faults.Level = codes "level_idc is not in Table A-1 (A.3)"
meaning_of faults.PictureSize =
    codes "a side or the number of macroblocks is past the limit (own rule) (7.4.2.1.1)"
meaning_of faults.Interlaced = codes "frame_mbs_only_flag is 0 (7.4.2.1.1)"
meaning_of faults.Cabac = codes "entropy_coding_mode_flag is 1 (7.4.2.2)"
meaning_of faults.SliceGroups = codes "num_slice_groups_minus1 is not 0 (7.4.2.2)"
meaning_of faults.WeightedPrediction = codes "never: weighted prediction is taken (7.4.2.2)"
meaning_of faults.PpsExtension = codes "more data behind redundant_pic_cnt_present_flag (7.3.2.2)"
meaning_of faults.DataPartition = codes "a unit of types 2 to 4 while decoding runs (7.4.1)"
meaning_of faults.SliceType = codes "a slice that is neither P nor I (7.4.3)"
meaning_of faults.RedundantSlice = codes "redundant_pic_cnt is above 0 (7.4.3)"
meaning_of faults.ArbitrarySliceOrder =
    codes "a slice begins before the macroblock that is expected (7.4.3)"
meaning_of faults.MissingMacroblocks =
    codes "a slice begins behind the macroblock that is expected, or a picture is closed before it is full (7.4.3)"
meaning_of faults.NoParameterSet =
    codes "the picture parameter set, or its sequence parameter set, is not in force (7.4.1.2.1)"
meaning_of faults.ParameterSetChanged =
    codes "another sequence parameter set before the next IDR picture (7.4.1.2.1)"
meaning_of faults.FrameNumGap = codes "a gap in frame_num where gaps are not allowed (7.4.3)"
meaning_of faults.FrameNumRepeated =
    codes "a reference picture repeats the frame_num of the one before (own rule) (7.4.3)"
meaning_of faults.BadIdr =
    codes "an IDR slice with nal_ref_idc 0, of type P, or with a frame_num other than 0 (7.4.1.2.4, 7.4.3)"
meaning_of faults.PocRange = codes "an order count outside 32 signed bits (own rule) (8.2.1)"
meaning_of faults.BadRefList =
    codes "a list entry names no frame or a non-existing one, or more names than entries (8.2.4.3)"
meaning_of faults.BadMarking =
    codes "a marking operation that can't be carried out, or more than 64 (8.2.5.4)"
meaning_of faults.TooManyReferences =
    codes "more reference frames than max_num_ref_frames, at least 1 (8.2.5)"
meaning_of faults.BadCode = codes "bits that begin with no codeword of a table (9.1.2, 9.2)"
meaning_of faults.TooManyCoefficients =
    codes "total_coeff, or it with total_zeros, is past the block (9.2)"
meaning_of faults.TooManyMacroblocks =
    codes "a skip run, or more data, past the last macroblock (7.3.4)"
meaning_of faults.IntraUnavailable =
    codes "an intra prediction needs a side that is not available (8.3)"
meaning_of faults.VectorRange =
    codes "a component of a motion vector leaves 16 bits (own rule) (8.4.1)"
meaning_of faults.RefMissing =
    codes "a prediction from an empty list entry or a non-existing frame (8.4.2.1)"
meaning_of faults.NotYet = codes "nothing: the number stays taken"

-- of the unit at this place among the stream's units, which has this fault
abbrev pub explained_line : ℕ × Fault → List ℕ
explained_line (unit, fault) =
    codes "unit " ++ decimal unit ++ codes ": " ++ decimal (number_of fault) ++ codes " "
    ++ name_of fault
    ++ codes ": " ++ meaning_of fault ++ newline

-- that decoding waits, behind the refusal of this unit with its picture
abbrev pub waits_line : (unit : ℕ) → List ℕ
waits_line unit =
    codes "waits for an IDR picture from unit " ++ decimal unit ++ codes " on" ++ newline

-- how many pictures went out, how many refusals there are, and how many slices were passed over,
-- where that is known
abbrev pub counts_line : (pictures refused : ℕ) → (passed : Option ℕ) → List ℕ
counts_line pictures refused None =
    decimal pictures ++ codes " pictures, " ++ decimal refused ++ codes " refusals" ++ newline
counts_line pictures refused (Some passed) =
    decimal pictures ++ codes " pictures, " ++ decimal refused ++ codes " refusals, "
    ++ decimal passed ++ codes " slices passed over" ++ newline
