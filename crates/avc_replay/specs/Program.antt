-- What is told of the macroblock at which a difference may begin.
use Rattle.std.specs.Prelude.{ℕ, List, Option, Some, Ok}
use Rattle.std.specs.Io.KnownBytes.{Appends}
use Rattle.avc_difference.specs.declared.origin.SamplePair.{SamplePair}
use Rattle.avc_macroblocks.specs.Program.{ListsNear}
use Rattle.avc_reading.specs.declared.position.MacroblockPosition.{MacroblockPosition}
use Rattle.avc_replay.specs.Replaying.{IsExplainedBy}
use Rattle.avc_stages.specs.Text.{explained_text}
use Rattle.avc_stages.specs.declared.text.Explained.{Explained}

-- The lines of a macroblock and its neighbours were written as one reader had them, and then what
-- is told of it as another had it.
pub record TellsMacroblock (unit : ℕ) (pairs : List SamplePair)
    (unread_lines left_lines unread left held holds : Option (List ℕ)) : Type 0 where
  pub address : ℕ
  pub at : MacroblockPosition
  pub wrote : Option (List ℕ)
  pub explained : Explained
  pub listed : ListsNear (record { unit = unit; address = address }) unread_lines left_lines held
      wrote (Ok (Some at))
  pub is_explained : IsExplainedBy at address pairs unread left explained
  pub told : Appends wrote holds (explained_text explained)
