-- No number that is told is a float.
use Rattle.std.proofs.Common.{◌≡◌, ℕ, List, [], ◌∷◌, Bool, false, ◌||◌, Option, Some, None, ap, refl}
use Rattle.serde_json.specs.Written.{has_float}
use Rattle.avc_presentation.specs.declared.ratio.Ratio.{Ratio}
use Rattle.avc_params.specs.declared.vui.Colour.{Colour}
use Rattle.avc_info.specs.Json.{clock_of, colour_data, count_if_given, facts_data, flag_data, kinds_data, ratio_data, refusal_data, sequence_if_given, set_head_data, size_if_given, sizes_data}
use Rattle.avc_sequence.specs.Rates.{bit_rate, duration, rate_ratio}
use Rattle.avc_info.specs.Refusals.{kinds_of}
use Rattle.avc_sequence.specs.declared.sequence_facts.SequenceFacts.{SequenceFacts}
use Rattle.avc_sequence.specs.declared.sequence_facts.Size.{Size}
use Rattle.avc_info.specs.declared.refusals.Refusal.{Refusal}
use Rattle.avc_info.specs.declared.refusals.RefusalKind.{RefusalKind}
use Rattle.avc_info.specs.Text.{sequence_of}
use Rattle.avc_info.specs.declared.stream_facts.SetHead.{SetHead}
use Rattle.avc_info.specs.declared.stream_facts.StreamFacts.{StreamFacts}

in_count : (n : Option ℕ) → has_float (count_if_given n) ≡ false
in_count None = refl
in_count (Some n) = refl

in_ratio : (r : Option Ratio) → has_float (ratio_data r) ≡ false
in_ratio None = refl
in_ratio (Some r) = refl

in_flag : (b : Option Bool) → has_float (flag_data b) ≡ false
in_flag None = refl
in_flag (Some b) = refl

in_colour : (c : Option Colour) → has_float (colour_data c) ≡ false
in_colour None = refl
in_colour (Some c) = refl

in_refusal : (r : Option Refusal) → has_float (refusal_data r) ≡ false
in_refusal None = refl
in_refusal (Some r) = refl

in_kinds : (kinds : List RefusalKind) → has_float (kinds_data kinds) ≡ false
in_kinds [] = refl
in_kinds (k ∷ kinds) = in_kinds kinds

in_size : (s : Option Size) → has_float (size_if_given s) ≡ false
in_size None = refl
in_size (Some s) = refl

in_set_head : (h : Option SetHead) → has_float (set_head_data h) ≡ false
in_set_head None = refl
in_set_head (Some h) = ap (λ b. b || false) (in_size h.coded)

none_of_six : (a b c d e f : Bool) → a ≡ false → b ≡ false → c ≡ false → d ≡ false → e ≡ false → f ≡ false → (a || (b || (c || (d || (e || (f || false)))))) ≡ false
none_of_six a b c d e f is_a is_b is_c is_d is_e is_f = rw (is_a, is_b, is_c, is_d, is_e, is_f) refl

none_of_seven : (a b c d e f g : Bool) → a ≡ false → b ≡ false → c ≡ false → d ≡ false → e ≡ false → f ≡ false → g ≡ false
    → (a || (b || (c || (d || (e || (f || (g || false))))))) ≡ false
none_of_seven a b c d e f g is_a is_b is_c is_d is_e is_f is_g = rw (is_a, is_b, is_c, is_d, is_e, is_f, is_g) refl

in_sizes : (sizes : List Size) → has_float (sizes_data sizes) ≡ false
in_sizes [] = refl
in_sizes (s ∷ sizes) = in_sizes sizes

in_sequence : (s : Option SequenceFacts) → has_float (sequence_if_given s) ≡ false
in_sequence None = refl
in_sequence (Some s) =
    none_of_six (has_float (count_if_given s.chroma_place)) (has_float (colour_data s.colour)) (has_float (ratio_data (rate_ratio s.timing)))
    (has_float (count_if_given s.max_num_reorder_frames)) (has_float (ratio_data s.sample_aspect)) (has_float (flag_data s.full_range))
    (in_count s.chroma_place) (in_colour s.colour) (in_ratio (rate_ratio s.timing)) (in_count s.max_num_reorder_frames) (in_ratio s.sample_aspect)
    (in_flag s.full_range)

pub none_is_float : (f : StreamFacts) (bytes : ℕ) → has_float (facts_data f bytes) ≡ false
none_is_float f bytes =
    let said = sequence_of f in
    let bits = bit_rate (clock_of said) bytes f.counts.pictures in
    let lasts = duration (clock_of said) f.counts.pictures in
    let kinds = kinds_of f.refusals in
    none_of_seven (has_float (count_if_given bits)) (has_float (count_if_given lasts)) (has_float (refusal_data f.first_refusal))
    (has_float (kinds_data kinds)) (has_float (set_head_data f.refused_set)) (has_float (sequence_if_given said)) (has_float (sizes_data f.sizes.first))
    (in_count bits) (in_count lasts) (in_refusal f.first_refusal) (in_kinds kinds) (in_set_head f.refused_set) (in_sequence said) (in_sizes f.sizes.first)
