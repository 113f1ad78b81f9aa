-- What the functions of this crate put into an object, whatever it has already.
use Rattle.std.specs.Prelude.{ℕ, Bool, List, codes}
use Rattle.serde_json.specs.Data.{Members, put, string}
use Rattle.avc_types.specs.declared.fault.Fault.{Fault}
use Rattle.avc_types.specs.Faults.{number_of, name_of}
use Rattle.avc_types.specs.Macroblock.{MbSyntax, Mb, Residual}
use Rattle.avc_neigh.specs.declared.neighbour_info.Motion.{Motion}
use Rattle.avc_neigh.specs.declared.neighbour_info.NearMode.{NearMode}
use Rattle.avc_selection.specs.declared.derived.Derived.{Derived}
use Rattle.avc_selection.specs.declared.place.MacroblockPlace.{MacroblockPlace}
use Rattle.avc_elements.specs.Names.{type_name}
use Rattle.avc_elements.specs.Vectors.{vectors_of}
use Rattle.avc_elements.specs.declared.block_facts.BlockFacts.{BlockFacts}
use Rattle.avc_elements.specs.declared.block_facts.BlockFacts.TheVariants.{TotalCoeff}
use Rattle.avc_objects.specs.Json.{block_data, blocks_data, chroma_mode_data, derived_modes_data}
use Rattle.avc_objects.specs.Json.{modes_data, mvd_data, pattern_data, ref_idx_data}
use Rattle.avc_objects.specs.Json.{residual_data, subs_data, vectors_data, with_coefficients}
use Rattle.avc_objects.specs.JsonLines.{count}

-- the blocks of a residual but that of the DC levels of luma
abbrev pub with_blocks : BlockFacts → Residual → Members → Members
with_blocks facts r members =
    put (codes "luma") (blocks_data facts r.luma)
    (put (codes "cr_dc") (block_data facts r.cr_dc)
    (put (codes "cr") (blocks_data facts r.cr_ac)
    (put (codes "cb_dc") (block_data facts r.cb_dc)
    (put (codes "cb") (blocks_data facts r.cb_ac) members))))

-- the type of a macroblock, what is coded of it beside its prediction, and QP_Y
abbrev pub with_type : (qp : ℕ) → MbSyntax → Members → Members
with_type qp syntax members =
    put (codes "sub_mb_type") (subs_data syntax)
    (put (codes "mb_type") (string (type_name syntax))
    (put (codes "intra_chroma_pred_mode") (chroma_mode_data syntax)
    (put (codes "coded_block_pattern") (pattern_data syntax)
    (put (codes "QPY") (count qp) members))))

-- its prediction modes, as they are coded and as they follow
abbrev pub with_modes : MbSyntax → (derived : List NearMode) → Members → Members
with_modes syntax derived members =
    put (codes "rem_intra4x4_pred_mode") (modes_data syntax)
    (put (codes "Intra4x4PredMode") (derived_modes_data syntax derived) members)

-- its reference indices and vectors
abbrev pub with_motion : MbSyntax → List Motion → Members → Members
with_motion syntax motion members =
    put (codes "ref_idx_l0") (ref_idx_data syntax)
    (put (codes "mvd_l0") (mvd_data syntax)
    (put (codes "mv_l0") (vectors_data (vectors_of syntax motion)) members))

-- what stands at a place in a slice, and where
abbrev pub with_place : (kind : List ℕ) → MacroblockPlace → Members → Members
with_place kind place members =
    put (codes "unit") (count place.unit)
    (put (codes "slice") (count place.slice)
    (put (codes "mbAddr") (count place.address)
    (put (codes "kind") (string kind) members)))

-- the name and the number of a fault
abbrev pub with_fault : Fault → Members → Members
with_fault fault members =
    put (codes "number") (count (number_of fault))
    (put (codes "name") (string (name_of fault)) members)

-- that a unit is refused, and why
abbrev pub with_refused : (unit : ℕ) → Fault → Members → Members
with_refused unit fault members =
    with_fault fault
    (put (codes "unit") (count unit) (put (codes "kind") (string (codes "refused")) members))

-- all of a macroblock
abbrev pub with_macroblock : (has_coefficients : Bool) → MacroblockPlace → Mb → Derived → Members →
    Members
with_macroblock has_coefficients place mb d members =
    with_coefficients has_coefficients mb.syntax
    (put (codes "total_coeff") (residual_data TotalCoeff mb.syntax)
    (with_place (codes "macroblock") place
    (with_motion mb.syntax d.motion
    (with_modes mb.syntax d.modes (with_type mb.qp mb.syntax members)))))
