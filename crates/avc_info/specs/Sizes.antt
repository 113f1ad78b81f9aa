-- The sizes of a stream's pictures, after cropping, and the line that tells people of them.
use Rattle.std.specs.Prelude.{ℕ, Bool, true, false, ◌==◌, ◌&&◌, if◌then◌else◌, nat_lt, List, []}
use Rattle.std.specs.Prelude.{◌∷◌, ◌++◌, length, Option, Some, None, codes}
use Rattle.std.specs.Fmt.{decimal}
use Rattle.std.specs.List.{flat_map, list_any}
use Rattle.avc_params.specs.declared.sps.Sps.{Sps}
use Rattle.avc_tools.specs.Lines.{shown_height, shown_width}
use Rattle.avc_info.specs.Text.{newline}
use Rattle.avc_sequence.specs.declared.sequence_facts.Size.{Size}
use Rattle.avc_info.specs.declared.sizes.Sizes.{Sizes}

-- how many sizes are told, at most
abbrev pub most_sizes : ℕ
most_sizes = 8

-- of no picture
abbrev pub no_sizes : Sizes
no_sizes = record { first = []; others = false }

-- the size after cropping
abbrev pub shown_size : Sps → Size
shown_size s = record { width = shown_width s; height = shown_height s }

-- the size is one of these
abbrev pub has_size : Size → List Size → Bool
has_size s sizes = list_any (λ other. other.width == s.width && other.height == s.height) sizes

-- With a size more: each stands once, in the order of their first coming; of those behind the
-- eighth it is said only that they came.
abbrev pub with_size : Sizes → Size → Sizes
with_size s size =
    if has_size size s.first then s
    else (if nat_lt (length s.first) most_sizes then record s { first = s.first ++ size ∷ [] }
    else record s { others = true })

-- where there is one
abbrev pub with_size_if : Sizes → Option Size → Sizes
with_size_if s None = s
with_size_if s (Some size) = with_size s size

-- one of them
abbrev pub size_word : Size → List ℕ
size_word s = codes " " ++ decimal s.width ++ codes "x" ++ decimal s.height

-- whether there are others
abbrev pub others_text : Bool → List ℕ
others_text others = if others then codes " and others" else []

-- a line, where there are more than one
abbrev pub sizes_line : Sizes → List ℕ
sizes_line s =
    if nat_lt (length s.first) 2 then []
    else codes "sizes" ++ flat_map size_word s.first ++ others_text s.others ++ newline
