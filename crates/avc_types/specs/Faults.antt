-- The numbers and the printed names of the faults.
use Rattle.std.specs.Prelude.{ℕ, List, codes}
use Rattle.avc_types.specs.declared.fault.Fault.{Fault}
use Rattle.avc_types.specs.declared.fault.Fault.TheVariants as faults

-- the number that a refusal is told by (this decoder's rule)
abbrev pub number_of : Fault → ℕ
number_of faults.Truncated = 1
number_of faults.CodeTooLong = 2
number_of faults.OutOfRange = 3
number_of faults.ForbiddenBit = 4
number_of faults.NalTooLong = 5
number_of faults.Profile = 10
number_of faults.Level = 11
number_of faults.PictureSize = 12
number_of faults.Interlaced = 13
number_of faults.Cabac = 14
number_of faults.SliceGroups = 15
number_of faults.WeightedPrediction = 16
number_of faults.PpsExtension = 17
number_of faults.DataPartition = 18
number_of faults.SliceType = 19
number_of faults.RedundantSlice = 20
number_of faults.ArbitrarySliceOrder = 21
number_of faults.MissingMacroblocks = 22
number_of faults.NoParameterSet = 30
number_of faults.ParameterSetChanged = 31
number_of faults.FrameNumGap = 32
number_of faults.FrameNumRepeated = 33
number_of faults.BadIdr = 34
number_of faults.PocRange = 35
number_of faults.BadRefList = 36
number_of faults.BadMarking = 37
number_of faults.TooManyReferences = 38
number_of faults.BadCode = 40
number_of faults.TooManyCoefficients = 41
number_of faults.TooManyMacroblocks = 42
number_of faults.IntraUnavailable = 43
number_of faults.VectorRange = 44
number_of faults.RefMissing = 45
number_of faults.NotYet = 46

-- the name that is printed for it (this decoder's rule)
abbrev pub name_of : Fault → List ℕ
name_of faults.Truncated = codes "Truncated"
name_of faults.CodeTooLong = codes "CodeTooLong"
name_of faults.OutOfRange = codes "OutOfRange"
name_of faults.ForbiddenBit = codes "ForbiddenBit"
name_of faults.NalTooLong = codes "NalTooLong"
name_of faults.Profile = codes "Profile"
name_of faults.Level = codes "Level"
name_of faults.PictureSize = codes "PictureSize"
name_of faults.Interlaced = codes "Interlaced"
name_of faults.Cabac = codes "Cabac"
name_of faults.SliceGroups = codes "SliceGroups"
name_of faults.WeightedPrediction = codes "WeightedPrediction"
name_of faults.PpsExtension = codes "PpsExtension"
name_of faults.DataPartition = codes "DataPartition"
name_of faults.SliceType = codes "SliceType"
name_of faults.RedundantSlice = codes "RedundantSlice"
name_of faults.ArbitrarySliceOrder = codes "ArbitrarySliceOrder"
name_of faults.MissingMacroblocks = codes "MissingMacroblocks"
name_of faults.NoParameterSet = codes "NoParameterSet"
name_of faults.ParameterSetChanged = codes "ParameterSetChanged"
name_of faults.FrameNumGap = codes "FrameNumGap"
name_of faults.FrameNumRepeated = codes "FrameNumRepeated"
name_of faults.BadIdr = codes "BadIdr"
name_of faults.PocRange = codes "PocRange"
name_of faults.BadRefList = codes "BadRefList"
name_of faults.BadMarking = codes "BadMarking"
name_of faults.TooManyReferences = codes "TooManyReferences"
name_of faults.BadCode = codes "BadCode"
name_of faults.TooManyCoefficients = codes "TooManyCoefficients"
name_of faults.TooManyMacroblocks = codes "TooManyMacroblocks"
name_of faults.IntraUnavailable = codes "IntraUnavailable"
name_of faults.VectorRange = codes "VectorRange"
name_of faults.RefMissing = codes "RefMissing"
name_of faults.NotYet = codes "NotYet"
