-- No number of a macroblock's JSON is a float.
use Rattle.std.proofs.Common.{◌≡◌, ℕ, ℤ, pos, negsuc, Bool, true, false, ◌||◌, List, [], ◌∷◌, map, Option, Some, None, refl}
use Rattle.serde_json.proofs.OnLiterals.{serde_json_on_literals}
use Rattle.serde_json.specs.Data.{Data, array, null}
use Rattle.serde_json.specs.Find.{is_float, of_integer}
use Rattle.serde_json.specs.View.{items_of}
use Rattle.serde_json.specs.Written.{has_float}
use Rattle.avc_types.specs.declared.macroblock.Mvd.{Mvd}
use Rattle.avc_types.specs.declared.macroblock.SubMbType.{SubMbType}
use Rattle.avc_types.specs.Macroblock.{Residual, MbSyntax, p_skip, i_pcm, i_nxn, i_16x16, p_inter, Mb}
use Rattle.avc_neigh.specs.declared.neighbour_info.Motion.{Motion}
use Rattle.avc_neigh.specs.declared.neighbour_info.Motion.TheVariants.{Absent as absent, Intra as intra, Inter as inter}
use Rattle.avc_neigh.specs.declared.neighbour_info.NearMode.{NearMode}
use Rattle.avc_neigh.specs.declared.neighbour_info.NearMode.TheVariants.{Absent as no_mode, Inter as inter_mode, Mode as mode_is}
use Rattle.avc_objects.specs.JsonLines.{count, count_if_given}
use Rattle.avc_objects.specs.Json.{derived_mode_data, derived_modes_data, motion_data, vectors_data}
use Rattle.avc_elements.specs.Vectors.{vectors_of}
use Rattle.avc_selection.specs.declared.derived.Derived.{Derived}
use Rattle.avc_objects.specs.Json.{all_blocks_data, block_data, chroma_mode_data, blocks_data, difference_data, level_data, macroblock_data, modes_data, mvd_data, pattern_data, ref_idx_data}
use Rattle.avc_objects.specs.Json.{residual_data, sub_data, subs_data, subs_of}
use Rattle.avc_elements.specs.Levels.{up_to_last}
use Rattle.avc_elements.specs.declared.block_facts.BlockFacts.{BlockFacts}
use Rattle.avc_elements.specs.declared.block_facts.BlockFacts.TheVariants.{TotalCoeff, CoeffLevel}
use Rattle.avc_selection.specs.declared.place.MacroblockPlace.{MacroblockPlace}

in_integer : (z : ℤ) → is_float (of_integer z) ≡ false
in_integer (pos n) = refl
in_integer (negsuc n) = refl

in_numbers : (ns : List ℕ) → has_float (array (items_of (map count ns))) ≡ false
in_numbers [] = refl
in_numbers (n ∷ ns) = in_numbers ns

in_given : (ns : List (Option ℕ)) → has_float (array (items_of (map count_if_given ns))) ≡ false
in_given [] = refl
in_given (None ∷ ns) = in_given ns
in_given (Some n ∷ ns) = in_given ns

none_of_two : (a b : Bool) → a ≡ false → b ≡ false → (a || (b || false)) ≡ false
none_of_two a b is_a is_b = rw (is_a, is_b) refl

none_of_both : (a b : Bool) → a ≡ false → b ≡ false → (a || b) ≡ false
none_of_both a b is_a is_b = rw (is_a, is_b) refl

in_differences : (ms : List Mvd) → has_float (array (items_of (map difference_data ms))) ≡ false
in_differences [] = refl
in_differences (m ∷ ms) =
    none_of_both (has_float (difference_data m)) (has_float (array (items_of (map difference_data ms))))
    (none_of_two (is_float (of_integer m.x)) (is_float (of_integer m.y)) (in_integer m.x) (in_integer m.y)) (in_differences ms)

in_names : (subs : List SubMbType) → has_float (array (items_of (map sub_data subs))) ≡ false
in_names [] = refl
in_names (s ∷ subs) = in_names subs

in_levels : (levels : List ℤ) → has_float (array (items_of (map level_data levels))) ≡ false
in_levels [] = refl
in_levels (level ∷ levels) = none_of_both (is_float (of_integer level)) (has_float (array (items_of (map level_data levels)))) (in_integer level) (in_levels levels)

in_block : (facts : BlockFacts) (levels : List ℤ) → has_float (block_data facts levels) ≡ false
in_block TotalCoeff levels = refl
in_block CoeffLevel levels = in_levels (up_to_last levels)

in_blocks : (facts : BlockFacts) (blocks : List (List ℤ)) → has_float (blocks_data facts blocks) ≡ false
in_blocks facts [] = refl
in_blocks facts (b ∷ blocks) = none_of_both (has_float (block_data facts b)) (has_float (blocks_data facts blocks)) (in_block facts b) (in_blocks facts blocks)

none_of_six : (a b c d e f : Bool) → a ≡ false → b ≡ false → c ≡ false → d ≡ false → e ≡ false → f ≡ false → (a || (b || (c || (d || (e || (f || false)))))) ≡ false
none_of_six a b c d e f is_a is_b is_c is_d is_e is_f = rw (is_a, is_b, is_c, is_d, is_e, is_f) refl

in_all : (facts : BlockFacts) (luma_dc : Data) (r : Residual) → has_float luma_dc ≡ false → has_float (all_blocks_data facts luma_dc r) ≡ false
in_all facts luma_dc r none =
    none_of_six (has_float (blocks_data facts r.cb_ac)) (has_float (block_data facts r.cb_dc)) (has_float (blocks_data facts r.cr_ac)) (has_float (block_data facts r.cr_dc))
    (has_float (blocks_data facts r.luma)) (has_float luma_dc)
    (in_blocks facts r.cb_ac) (in_block facts r.cb_dc) (in_blocks facts r.cr_ac) (in_block facts r.cr_dc) (in_blocks facts r.luma) none

in_residual : (facts : BlockFacts) (s : MbSyntax) → has_float (residual_data facts s) ≡ false
in_residual facts p_skip = refl
in_residual facts (i_pcm luma cb cr) = refl
in_residual facts (i_nxn modes chroma_mode r) = in_all facts null r refl
in_residual facts (i_16x16 mode chroma_mode r) = in_all facts (block_data facts r.luma_dc) r (in_block facts r.luma_dc)
in_residual facts (p_inter mb_type ref_idx mvd r) = in_all facts null r refl

in_pattern : (s : MbSyntax) → has_float (pattern_data s) ≡ false
in_pattern p_skip = refl
in_pattern (i_pcm luma cb cr) = refl
in_pattern (i_nxn modes chroma_mode r) = refl
in_pattern (i_16x16 mode chroma_mode r) = refl
in_pattern (p_inter mb_type ref_idx mvd r) = refl

in_chroma_mode : (s : MbSyntax) → has_float (chroma_mode_data s) ≡ false
in_chroma_mode p_skip = refl
in_chroma_mode (i_pcm luma cb cr) = refl
in_chroma_mode (i_nxn modes chroma_mode r) = refl
in_chroma_mode (i_16x16 mode chroma_mode r) = refl
in_chroma_mode (p_inter mb_type ref_idx mvd r) = refl

in_modes : (s : MbSyntax) → has_float (modes_data s) ≡ false
in_modes (i_nxn modes chroma_mode r) = in_given modes
in_modes p_skip = refl
in_modes (i_pcm luma cb cr) = refl
in_modes (i_16x16 mode chroma_mode r) = refl
in_modes (p_inter mb_type ref_idx mvd r) = refl

in_mvd : (s : MbSyntax) → has_float (mvd_data s) ≡ false
in_mvd (p_inter mb_type ref_idx mvd r) = in_differences mvd
in_mvd p_skip = refl
in_mvd (i_pcm luma cb cr) = refl
in_mvd (i_nxn modes chroma_mode r) = refl
in_mvd (i_16x16 mode chroma_mode r) = refl

in_ref_idx : (s : MbSyntax) → has_float (ref_idx_data s) ≡ false
in_ref_idx (p_inter mb_type ref_idx mvd r) = in_numbers ref_idx
in_ref_idx p_skip = refl
in_ref_idx (i_pcm luma cb cr) = refl
in_ref_idx (i_nxn modes chroma_mode r) = refl
in_ref_idx (i_16x16 mode chroma_mode r) = refl

in_subs : (s : MbSyntax) → has_float (subs_data s) ≡ false
in_subs (p_inter mb_type ref_idx mvd r) = in_names (subs_of mb_type)
in_subs p_skip = refl
in_subs (i_pcm luma cb cr) = refl
in_subs (i_nxn modes chroma_mode r) = refl
in_subs (i_16x16 mode chroma_mode r) = refl

in_derived_modes : (modes : List NearMode) → has_float (array (items_of (map derived_mode_data modes))) ≡ false
in_derived_modes [] = refl
in_derived_modes (no_mode ∷ modes) = in_derived_modes modes
in_derived_modes (inter_mode ∷ modes) = in_derived_modes modes
in_derived_modes (mode_is m ∷ modes) = in_derived_modes modes

in_derived : (s : MbSyntax) (modes : List NearMode) → has_float (derived_modes_data s modes) ≡ false
in_derived (i_nxn coded chroma_mode r) modes = in_derived_modes modes
in_derived p_skip modes = refl
in_derived (i_pcm luma cb cr) modes = refl
in_derived (i_16x16 mode chroma_mode r) modes = refl
in_derived (p_inter mb_type ref_idx mvd r) modes = refl

in_motion : (m : Motion) → has_float (motion_data m) ≡ false
in_motion absent = refl
in_motion intra = refl
in_motion (inter r v) = none_of_two (is_float (of_integer v.x)) (is_float (of_integer v.y)) (in_integer v.x) (in_integer v.y)

in_vectors : (vectors : List Motion) → has_float (vectors_data vectors) ≡ false
in_vectors [] = refl
in_vectors (m ∷ vectors) = none_of_both (has_float (motion_data m)) (has_float (vectors_data vectors)) (in_motion m) (in_vectors vectors)

none_of_nine : (a b c d e f g h i : Bool) → a ≡ false → b ≡ false → c ≡ false → d ≡ false → e ≡ false → f ≡ false → g ≡ false → h ≡ false → i ≡ false
    → (a || (b || (c || (d || (e || (f || (g || (h || (i || false))))))))) ≡ false
none_of_nine a b c d e f g h i is_a is_b is_c is_d is_e is_f is_g is_h is_i = rw (is_a, is_b, is_c, is_d, is_e, is_f, is_g, is_h, is_i) refl

none_of_ten : (a b c d e f g h i j : Bool) → a ≡ false → b ≡ false → c ≡ false → d ≡ false → e ≡ false → f ≡ false → g ≡ false → h ≡ false → i ≡ false → j ≡ false
    → (a || (b || (c || (d || (e || (f || (g || (h || (i || (j || false)))))))))) ≡ false
none_of_ten a b c d e f g h i j is_a is_b is_c is_d is_e is_f is_g is_h is_i is_j = rw (is_a, is_b, is_c, is_d, is_e, is_f, is_g, is_h, is_i, is_j) refl

pub macroblock_has_none : (has_coefficients : Bool) (place : MacroblockPlace) (mb : Mb) (d : Derived) → has_float (macroblock_data has_coefficients place mb d) ≡ false
unfolding serde_json_on_literals
macroblock_has_none false place mb d =
    let s = mb.syntax in
    let vectors = vectors_of s d.motion in
    none_of_nine (has_float (derived_modes_data s d.modes)) (has_float (pattern_data s)) (has_float (chroma_mode_data s)) (has_float (vectors_data vectors)) (has_float (mvd_data s)) (has_float (ref_idx_data s)) (has_float (modes_data s))
    (has_float (subs_data s)) (has_float (residual_data TotalCoeff s)) (in_derived s d.modes) (in_pattern s) (in_chroma_mode s) (in_vectors vectors) (in_mvd s) (in_ref_idx s) (in_modes s) (in_subs s) (in_residual TotalCoeff s)
macroblock_has_none true place mb d =
    let s = mb.syntax in
    let vectors = vectors_of s d.motion in
    none_of_ten (has_float (derived_modes_data s d.modes)) (has_float (pattern_data s)) (has_float (residual_data CoeffLevel s)) (has_float (chroma_mode_data s)) (has_float (vectors_data vectors)) (has_float (mvd_data s)) (has_float (ref_idx_data s)) (has_float (modes_data s))
    (has_float (subs_data s)) (has_float (residual_data TotalCoeff s)) (in_derived s d.modes) (in_pattern s) (in_residual CoeffLevel s) (in_chroma_mode s) (in_vectors vectors) (in_mvd s) (in_ref_idx s) (in_modes s) (in_subs s) (in_residual TotalCoeff s)
