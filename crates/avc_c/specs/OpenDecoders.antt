-- Whether there is a decoder.
use Rattle.std.specs.Prelude.{◌≡◌, Bool, true, false, Option, Some, None}
use Rattle.avc_c.specs.declared.address.OpenDecoder.{OpenDecoder}

-- there is one
abbrev pub IsOpen : Option OpenDecoder → Type 0
IsOpen (Some d) = Unit {0}
IsOpen None = ⊥

-- whether there is one
abbrev pub is_open : Option OpenDecoder → Bool
is_open (Some d) = true
is_open None = false

-- the flag says whether there is one
abbrev pub IsMarked : Bool → Option OpenDecoder → Type 0
IsMarked flag decoder = flag ≡ is_open decoder
