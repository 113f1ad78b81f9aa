-- How far the data of a slice has been read.
use Rattle.std.specs.Prelude.{Bool, true, false}
use Rattle.avc_mbsyntax.specs.declared.stage.Stage.{Stage}
use Rattle.avc_mbsyntax.specs.declared.stage.Stage.TheVariants.{Next, Ended}

-- after a macroblock that is coded, where there is more data or none
abbrev pub stage_after : (more : Bool) → Stage
stage_after true = Next
stage_after false = Ended
