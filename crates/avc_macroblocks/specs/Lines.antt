-- The line of a macroblock for people.
use Rattle.std.specs.Prelude.{ℕ, Bool, if◌then◌else◌, List, [], ◌++◌, codes}
use Rattle.std.specs.Fmt.{decimal}
use Rattle.avc_types.specs.declared.fault.Fault.{Fault}
use Rattle.avc_types.specs.Faults.{number_of, name_of}
use Rattle.avc_types.specs.Macroblock.{MbSyntax, Mb}
use Rattle.avc_tools.specs.Lines.{and_number, newline, refused_text}
use Rattle.avc_selection.specs.Forms.{Form}
use Rattle.avc_selection.specs.declared.derived.Derived.{Derived}
use Rattle.avc_selection.specs.declared.place.MacroblockPlace.{MacroblockPlace}
use Rattle.avc_elements.specs.Names.{type_name}
use Rattle.avc_elements.specs.Vectors.{vectors_of}
use Rattle.avc_elements.specs.Words.{coefficients_text, elements_text}

-- where they are asked for
abbrev pub coefficients_if : (has_coefficients : Bool) → MbSyntax → List ℕ
coefficients_if has_coefficients syntax = if has_coefficients then coefficients_text syntax else []

-- the unit, the number of the slice in its picture, and the address
abbrev pub place_text : MacroblockPlace → List ℕ
place_text place =
    decimal place.unit ++ codes " slice" ++ and_number place.slice ++ codes " mb"
    ++ and_number place.address

-- mb_type
abbrev pub type_text : MbSyntax → List ℕ
type_text syntax = codes " " ++ type_name syntax

-- QP_Y
abbrev pub quantiser_text : ℕ → List ℕ
quantiser_text qp = codes " qp" ++ and_number qp

-- a macroblock at this place
abbrev pub macroblock_line : (has_coefficients : Bool) → MacroblockPlace → Mb → Derived → List ℕ
macroblock_line has_coefficients place mb d =
    place_text place ++ type_text mb.syntax ++ quantiser_text mb.qp
    ++ elements_text mb.syntax d.modes (vectors_of mb.syntax d.motion)
    ++ coefficients_if has_coefficients mb.syntax ++ newline

-- the unit, and the number of the slice in its picture
abbrev pub slice_text : MacroblockPlace → List ℕ
slice_text place = decimal place.unit ++ codes " slice" ++ and_number place.slice

-- the number and the name of a fault
abbrev pub fault_text : Fault → List ℕ
fault_text f = codes " fault" ++ and_number (number_of f) ++ codes " " ++ name_of f

-- where it is
abbrev pub stop_text : MacroblockPlace → List ℕ
stop_text place = codes " at macroblock" ++ and_number place.address

-- a fault in a slice, at the macroblock that comes then
abbrev pub fault_line : MacroblockPlace → Fault → List ℕ
fault_line place f = slice_text place ++ fault_text f ++ stop_text place ++ newline

-- a refusal, in the words of `headers`
abbrev pub refusal_line : (unit : ℕ) → Fault → List ℕ
refusal_line unit f = decimal unit ++ refused_text f ++ newline

-- the form for people
abbrev pub for_people : (has_coefficients : Bool) → Form
for_people has_coefficients = record {
  of_macroblock = macroblock_line has_coefficients;
  of_fault = fault_line;
  of_refusal = refusal_line;
}
