-- The JSON of macroblocks: an object in one line (RFC 8259) for each. The members stand in the
-- order of their names.
use Rattle.std.specs.Prelude.{ℤ, Bool, if◌then◌else◌, List, [], ◌∷◌, map, codes}
use Rattle.serde_json.specs.Data.{Data, Members, array, member, put, no_members, null, number}
use Rattle.serde_json.specs.Data.{object, string}
use Rattle.serde_json.specs.Find.{of_integer}
use Rattle.serde_json.specs.View.{items_of}
use Rattle.avc_types.specs.declared.fault.Fault.{Fault}
use Rattle.avc_types.specs.declared.macroblock.Mvd.{Mvd}
use Rattle.avc_types.specs.declared.vector.Mv.{Mv}
use Rattle.avc_types.specs.declared.macroblock.PMbType.{PMbType}
use Rattle.avc_types.specs.declared.macroblock.PMbType.TheVariants.{P8x8, P8x8Ref0}
use Rattle.avc_types.specs.declared.macroblock.SubMbType.{SubMbType}
use Rattle.avc_types.specs.Faults.{number_of, name_of}
use Rattle.avc_types.specs.Macroblock.{total_coeff, Residual, MbSyntax, p_skip, i_pcm, i_nxn}
use Rattle.avc_types.specs.Macroblock.{i_16x16, p_inter, Mb}
use Rattle.avc_neigh.specs.declared.neighbour_info.Motion.{Motion}
use Rattle.avc_neigh.specs.declared.neighbour_info.Motion.TheVariants.{Absent as absent}
use Rattle.avc_neigh.specs.declared.neighbour_info.Motion.TheVariants.{Intra as intra}
use Rattle.avc_neigh.specs.declared.neighbour_info.Motion.TheVariants.{Inter as inter}
use Rattle.avc_neigh.specs.declared.neighbour_info.NearMode.{NearMode}
use Rattle.avc_neigh.specs.declared.neighbour_info.NearMode.TheVariants.{Absent as no_mode}
use Rattle.avc_neigh.specs.declared.neighbour_info.NearMode.TheVariants.{Inter as inter_mode}
use Rattle.avc_neigh.specs.declared.neighbour_info.NearMode.TheVariants.{Mode as mode_is}
use Rattle.avc_selection.specs.Forms.{Form}
use Rattle.avc_objects.specs.JsonLines.{count, count_if_given, line_of_data, refused_data}
use Rattle.avc_elements.specs.Levels.{up_to_last}
use Rattle.avc_elements.specs.Vectors.{vectors_of}
use Rattle.avc_elements.specs.Names.{sub_name, type_name}
use Rattle.avc_elements.specs.Words.{pattern_of}
use Rattle.avc_elements.specs.declared.block_facts.BlockFacts.{BlockFacts}
use Rattle.avc_elements.specs.declared.block_facts.BlockFacts.TheVariants.{TotalCoeff, CoeffLevel}
use Rattle.avc_selection.specs.declared.derived.Derived.{Derived}
use Rattle.avc_selection.specs.declared.place.MacroblockPlace.{MacroblockPlace}

-- ---- elements, which are null or empty where a macroblock has them not

-- coded_block_pattern (7.4.5)
abbrev pub pattern_data : MbSyntax → Data
pattern_data p_skip = null
pattern_data (i_pcm luma cb cr) = null
pattern_data (i_nxn modes chroma_mode r) = count (pattern_of r)
pattern_data (i_16x16 mode chroma_mode r) = count (pattern_of r)
pattern_data (p_inter mb_type ref_idx mvd r) = count (pattern_of r)

-- intra_chroma_pred_mode (7.3.5.1)
abbrev pub chroma_mode_data : MbSyntax → Data
chroma_mode_data (i_nxn modes chroma_mode r) = count chroma_mode
chroma_mode_data (i_16x16 mode chroma_mode r) = count chroma_mode
chroma_mode_data p_skip = null
chroma_mode_data (i_pcm luma cb cr) = null
chroma_mode_data (p_inter mb_type ref_idx mvd r) = null

-- null where prev_intra4x4_pred_mode_flag is 1, else rem_intra4x4_pred_mode (7.3.5.1)
abbrev pub modes_data : MbSyntax → Data
modes_data (i_nxn modes chroma_mode r) = array (items_of (map count_if_given modes))
modes_data _ = array (items_of [])

-- its horizontal and its vertical component (7.3.5.1)
abbrev pub difference_data : Mvd → Data
difference_data m = array (items_of (number (of_integer m.x) ∷ number (of_integer m.y) ∷ []))

-- mvd_l0 of each part
abbrev pub mvd_data : MbSyntax → Data
mvd_data (p_inter mb_type ref_idx mvd r) = array (items_of (map difference_data mvd))
mvd_data _ = array (items_of [])

-- Intra4x4PredMode of a block (8.3.1.1)
abbrev pub derived_mode_data : NearMode → Data
derived_mode_data (mode_is m) = count m
derived_mode_data no_mode = null
derived_mode_data inter_mode = null

-- of each block of a macroblock that has some
abbrev pub derived_modes_data : MbSyntax → (modes : List NearMode) → Data
derived_modes_data (i_nxn coded chroma_mode r) modes =
    array (items_of (map derived_mode_data modes))
derived_modes_data _ modes = array (items_of [])

-- a vector: its horizontal and its vertical component
abbrev pub vector_data : Mv → Data
vector_data v = array (items_of (number (of_integer v.x) ∷ number (of_integer v.y) ∷ []))

-- mv_l0 of a part (8.4.1)
abbrev pub motion_data : Motion → Data
motion_data absent = null
motion_data intra = null
motion_data (inter r v) = vector_data v

-- of each part
abbrev pub vectors_data : List Motion → Data
vectors_data vectors = array (items_of (map motion_data vectors))

-- ref_idx_l0 of each partition
abbrev pub ref_idx_data : MbSyntax → Data
ref_idx_data (p_inter mb_type ref_idx mvd r) = array (items_of (map count ref_idx))
ref_idx_data _ = array (items_of [])

-- the name of sub_mb_type (Table 7-17)
abbrev pub sub_data : SubMbType → Data
sub_data s = string (sub_name s)

-- the four of a macroblock that has them (7.3.5.2)
abbrev pub subs_of : PMbType → List SubMbType
subs_of (P8x8 subs) = subs
subs_of (P8x8Ref0 subs) = subs
subs_of _ = []

-- of the four quarters
abbrev pub subs_data : MbSyntax → Data
subs_data (p_inter mb_type ref_idx mvd r) = array (items_of (map sub_data (subs_of mb_type)))
subs_data _ = array (items_of [])

-- a level
abbrev pub level_data : ℤ → Data
level_data level = number (of_integer level)

-- total_coeff of a block (9.2.1), or coeffLevel up to the last that is not 0 (7.3.5.3.2)
abbrev pub block_data : BlockFacts → List ℤ → Data
block_data TotalCoeff levels = count (total_coeff levels)
block_data CoeffLevel levels = array (items_of (map level_data (up_to_last levels)))

-- of the blocks of a component
abbrev pub blocks_data : BlockFacts → List (List ℤ) → Data
blocks_data facts blocks = array (items_of (map (block_data facts) blocks))

-- of all blocks, where that of the DC levels of luma is this
abbrev pub all_blocks_data : BlockFacts → (luma_dc : Data) → Residual → Data
all_blocks_data facts luma_dc r =
    object (member (codes "cb") (blocks_data facts r.cb_ac)
    (member (codes "cb_dc") (block_data facts r.cb_dc)
    (member (codes "cr") (blocks_data facts r.cr_ac)
    (member (codes "cr_dc") (block_data facts r.cr_dc)
    (member (codes "luma") (blocks_data facts r.luma)
    (member (codes "luma_dc") luma_dc no_members))))))

-- of a macroblock that has some
abbrev pub residual_data : BlockFacts → MbSyntax → Data
residual_data facts p_skip = null
residual_data facts (i_pcm luma cb cr) = null
residual_data facts (i_nxn modes chroma_mode r) = all_blocks_data facts null r
residual_data facts (i_16x16 mode chroma_mode r) =
    all_blocks_data facts (block_data facts r.luma_dc) r
residual_data facts (p_inter mb_type ref_idx mvd r) = all_blocks_data facts null r

-- ---- lines

-- with the levels of all blocks, where they are asked for
abbrev pub with_coefficients : (has_coefficients : Bool) → MbSyntax → Members → Members
with_coefficients has_coefficients syntax members =
    if has_coefficients then put (codes "coeffLevel") (residual_data CoeffLevel syntax) members
    else members

-- a macroblock at this place: mbAddr is its address, slice the number of its slice in its picture,
-- QPY is QP_Y
abbrev pub macroblock_data : (has_coefficients : Bool) → MacroblockPlace → Mb → Derived → Data
macroblock_data has_coefficients place mb d =
    object (with_coefficients has_coefficients mb.syntax
    (member (codes "Intra4x4PredMode") (derived_modes_data mb.syntax d.modes)
    (member (codes "QPY") (count mb.qp)
    (member (codes "coded_block_pattern") (pattern_data mb.syntax)
    (member (codes "intra_chroma_pred_mode") (chroma_mode_data mb.syntax)
    (member (codes "kind") (string (codes "macroblock"))
    (member (codes "mbAddr") (count place.address)
    (member (codes "mb_type") (string (type_name mb.syntax))
    (member (codes "mv_l0") (vectors_data (vectors_of mb.syntax d.motion))
    (member (codes "mvd_l0") (mvd_data mb.syntax)
    (member (codes "ref_idx_l0") (ref_idx_data mb.syntax)
    (member (codes "rem_intra4x4_pred_mode") (modes_data mb.syntax)
    (member (codes "slice") (count place.slice)
    (member (codes "sub_mb_type") (subs_data mb.syntax)
    (member (codes "total_coeff") (residual_data TotalCoeff mb.syntax)
    (member (codes "unit") (count place.unit) no_members))))))))))))))))

-- a fault in a slice, at the macroblock that comes then
abbrev pub fault_data : MacroblockPlace → Fault → Data
fault_data place f =
    object (member (codes "kind") (string (codes "fault"))
    (member (codes "mbAddr") (count place.address)
    (member (codes "name") (string (name_of f))
    (member (codes "number") (count (number_of f))
    (member (codes "slice") (count place.slice)
    (member (codes "unit") (count place.unit) no_members))))))

-- the form for programs; a refusal as `headers` tells it
abbrev pub for_programs : (has_coefficients : Bool) → Form
for_programs has_coefficients = record {
  of_macroblock = λ place mb d. line_of_data (macroblock_data has_coefficients place mb d);
  of_fault = λ place f. line_of_data (fault_data place f);
  of_refusal = λ unit f. line_of_data (refused_data unit f);
}
