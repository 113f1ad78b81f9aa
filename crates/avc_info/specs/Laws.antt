-- A law of a stream's facts.
use Rattle.std.specs.Prelude.{◌≡◌, ℕ, Bool, List}
use Rattle.avc_sequence.specs.Finding.{first_sequence}
use Rattle.avc_info.specs.Info.{facts_so_far}

-- What they say of the sequence is what the search for the first slice's set finds.
abbrev pub SequenceIsFirst : Type 0
SequenceIsFirst =
    (bytes : List ℕ) (ended : Bool)
    → (facts_so_far bytes ended).sequence ≡ first_sequence bytes ended
