-- The numbers of all faults are below the length of a list of kinds.
use Rattle.std.proofs.Common.{◌<◌, arith}
use Rattle.avc_types.specs.Faults.{number_of}
use Rattle.avc_types.specs.declared.fault.Fault.{Fault}
use Rattle.avc_types.specs.declared.fault.Fault.TheVariants as faults
use Rattle.avc_info.specs.Refusals.{most_kinds}

pub number_below : (f : Fault) → number_of f < most_kinds
number_below faults.Truncated = omega arith
number_below faults.CodeTooLong = omega arith
number_below faults.OutOfRange = omega arith
number_below faults.ForbiddenBit = omega arith
number_below faults.NalTooLong = omega arith
number_below faults.Profile = omega arith
number_below faults.Level = omega arith
number_below faults.PictureSize = omega arith
number_below faults.Interlaced = omega arith
number_below faults.Cabac = omega arith
number_below faults.SliceGroups = omega arith
number_below faults.WeightedPrediction = omega arith
number_below faults.PpsExtension = omega arith
number_below faults.DataPartition = omega arith
number_below faults.SliceType = omega arith
number_below faults.RedundantSlice = omega arith
number_below faults.ArbitrarySliceOrder = omega arith
number_below faults.MissingMacroblocks = omega arith
number_below faults.NoParameterSet = omega arith
number_below faults.ParameterSetChanged = omega arith
number_below faults.FrameNumGap = omega arith
number_below faults.FrameNumRepeated = omega arith
number_below faults.BadIdr = omega arith
number_below faults.PocRange = omega arith
number_below faults.BadRefList = omega arith
number_below faults.BadMarking = omega arith
number_below faults.TooManyReferences = omega arith
number_below faults.BadCode = omega arith
number_below faults.TooManyCoefficients = omega arith
number_below faults.TooManyMacroblocks = omega arith
number_below faults.IntraUnavailable = omega arith
number_below faults.VectorRange = omega arith
number_below faults.RefMissing = omega arith
number_below faults.NotYet = omega arith
