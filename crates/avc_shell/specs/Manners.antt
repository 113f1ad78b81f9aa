-- What is told beside what a command does.
use Rattle.std.specs.Prelude.{Bool, true, false, not, ◌&&◌, ◌||◌}
use Rattle.avc_request.specs.declared.request.Manner.{Manner}
use Rattle.avc_request.specs.declared.request.Telling.{Telling}
use Rattle.avc_request.specs.declared.request.Telling.TheVariants.{Always, Never, ToTerminals}

-- more than the lines that scripts read may be told, where the standard error is a terminal or not
abbrev pub is_more_told : Manner → (to_terminal : Bool) → Bool
is_more_told manner to_terminal = manner.is_explained || (not manner.is_quiet && to_terminal)

-- a line says how far decoding is, where the standard error is a terminal or not
abbrev pub is_line_wanted : Telling → (to_terminal : Bool) → Bool
is_line_wanted Always to_terminal = true
is_line_wanted ToTerminals to_terminal = to_terminal
is_line_wanted Never to_terminal = false
