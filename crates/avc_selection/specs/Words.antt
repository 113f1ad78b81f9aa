-- The vectors of a macroblock, in words.
use Rattle.std.specs.Prelude.{ℕ, List, ◌++◌, codes}
use Rattle.std.specs.Fmt.{signed_decimal}
use Rattle.std.specs.List.{flat_map}
use Rattle.avc_types.specs.declared.vector.Mv.{Mv}
use Rattle.avc_neigh.specs.declared.neighbour_info.Motion.{Motion}
use Rattle.avc_neigh.specs.declared.neighbour_info.Motion.TheVariants.{Absent as absent}
use Rattle.avc_neigh.specs.declared.neighbour_info.Motion.TheVariants.{Intra as intra}
use Rattle.avc_neigh.specs.declared.neighbour_info.Motion.TheVariants.{Inter as inter}

-- a vector: its horizontal and its vertical component
abbrev pub and_vector : Mv → List ℕ
and_vector v = codes " " ++ signed_decimal v.x ++ codes "," ++ signed_decimal v.y

-- mv_l0 of a part (8.4.1), or a hyphen where there is none
abbrev pub and_motion : Motion → List ℕ
and_motion absent = codes " -"
and_motion intra = codes " -"
and_motion (inter r v) = and_vector v

-- of each part
abbrev pub vectors_text : List Motion → List ℕ
vectors_text vectors = codes " mv" ++ flat_map and_motion vectors
