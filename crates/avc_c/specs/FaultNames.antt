-- The name of a fault in C's memory.
use Rattle.std.specs.Prelude.{◌≡◌, ℕ, ◌+◌, ◌<◌, ◌≤◌, List, ◌∷◌, ◌++◌, length, drop, Option, Some}
use Rattle.std.specs.Prelude.{None}
use Rattle.avc_types.specs.Faults.{name_of, number_of}
use Rattle.avc_types.specs.declared.fault.Fault.{Fault}
use Rattle.avc_c_picture.specs.Statuses.{number_of as status_number}
use Rattle.avc_c_picture.specs.declared.status.Status.TheVariants.{Ok, NoFault, NoRoom}

-- the fault with this number, or there is none
abbrev pub IsNumbered : (number : ℕ) → Option Fault → Type 0
IsNumbered number (Some f) = number_of f ≡ number
IsNumbered number None = (f : Fault) → number_of f ≡ number → ⊥

-- Text and a 0 behind it stand at the front, and what is behind stays; or there was no room and
-- nothing changed.
pub record IsTextWritten (text old : List ℕ) (status : ℕ) (new : List ℕ) : Type 0 where
  pub enough : length text < length old → (status ≡ status_number Ok) ×
      (new ≡ text ++ 0 ∷ drop (length text + 1) old)
  pub short : length old ≤ length text → (status ≡ status_number NoRoom) × (new ≡ old)

-- the name of the fault with this number is copied, if there is one
abbrev pub IsNamed : (number : ℕ) → (old : List ℕ) → (status : ℕ) → (new : List ℕ) → Type 0
IsNamed number old status new = (fault : Option Fault) × IsNumbered number fault × elim fault [
  | None ↦ (status ≡ status_number NoFault) × (new ≡ old)
  | Some f ↦ IsTextWritten (name_of f) old status new
]
