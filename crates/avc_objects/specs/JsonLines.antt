-- What lines of JSON (RFC 8259) have in common.
use Rattle.std.specs.Prelude.{ℕ, List, ◌++◌, Option, Some, None, codes}
use Rattle.serde_json.specs.Data.{Data, member, no_members, null, number, object, string, unsigned}
use Rattle.serde_json.specs.Written.{compact_text}
use Rattle.avc_types.specs.declared.fault.Fault.{Fault}
use Rattle.avc_types.specs.Faults.{number_of, name_of}
use Rattle.avc_tools.specs.Lines.{newline}

-- a number
abbrev pub count : ℕ → Data
count n = number (unsigned n)

-- where it is given
abbrev pub count_if_given : Option ℕ → Data
count_if_given None = null
count_if_given (Some n) = count n

-- a value in a line of its own
abbrev pub line_of_data : Data → List ℕ
line_of_data value = compact_text value ++ newline

-- of a unit that is refused
abbrev pub refused_data : (unit : ℕ) → Fault → Data
refused_data unit fault =
    object (member (codes "kind") (string (codes "refused"))
    (member (codes "name") (string (name_of fault))
    (member (codes "number") (count (number_of fault))
    (member (codes "unit") (count unit) no_members))))
