-- The vectors of a macroblock that are told.
use Rattle.std.specs.Prelude.{List, [], ◌∷◌, map, slice_index_or}
use Rattle.avc_types.specs.Macroblock.{MbSyntax, p_skip, i_pcm, i_nxn, i_16x16, p_inter, parts_of}
use Rattle.avc_types.specs.declared.macroblock.Part.{Part}
use Rattle.avc_neigh.specs.Blocks.{block_at}
use Rattle.avc_neigh.specs.declared.neighbour_info.Motion.{Motion}
use Rattle.avc_neigh.specs.declared.neighbour_info.Motion.TheVariants.{Absent as absent}

-- what the block has that covers the upper left sample of a part (6.4.13.1)
abbrev pub motion_at : (motion : List Motion) → Part → Motion
motion_at motion part = slice_index_or motion (block_at part.x part.y) absent

-- of each part in decoding order (6.4.2), of a skipped macroblock of the whole
abbrev pub vectors_of : MbSyntax → (motion : List Motion) → List Motion
vectors_of p_skip motion = slice_index_or motion 0 absent ∷ []
vectors_of (p_inter mb_type ref_idx mvd r) motion = map (motion_at motion) (parts_of mb_type)
vectors_of (i_pcm luma cb cr) motion = []
vectors_of (i_nxn modes chroma_mode r) motion = []
vectors_of (i_16x16 mode chroma_mode r) motion = []
