-- The table of explicit weights as bits (7.3.3.2): the elements in their order.
use Rattle.std.specs.Prelude.{Bool, List, [], ◌∷◌}
use Rattle.std.specs.List.{flat_map}
use Rattle.avc_rbsp.specs.Words.{joined, se_word, ue_word}
use Rattle.avc_make_headers.specs.VuiWriting.{optional_bits}
use Rattle.avc_slice.specs.declared.weights.ChromaWeights.{ChromaWeights}
use Rattle.avc_slice.specs.declared.weights.CodedWeight.{CodedWeight}
use Rattle.avc_slice.specs.declared.weights.EntryWeights.{EntryWeights}
use Rattle.avc_slice.specs.declared.weights.PredWeightTable.{PredWeightTable}

-- a weight and its offset
abbrev pub coded_weight_bits : CodedWeight → List Bool
coded_weight_bits c = joined (se_word c.weight ∷ se_word c.offset ∷ [])

-- those of Cb, and then those of Cr
abbrev pub chroma_weights_bits : ChromaWeights → List Bool
chroma_weights_bits c = joined (coded_weight_bits c.cb ∷ coded_weight_bits c.cr ∷ [])

-- of one reference index
abbrev pub entry_weights_bits : EntryWeights → List Bool
entry_weights_bits e =
    joined (optional_bits coded_weight_bits e.luma ∷ optional_bits chroma_weights_bits e.chroma ∷
    [])

-- the denominators, and then each entry's weights
abbrev pub pred_weight_table_bits : PredWeightTable → List Bool
pred_weight_table_bits t =
    joined (ue_word t.luma_log2_weight_denom ∷ ue_word t.chroma_log2_weight_denom ∷ flat_map
    entry_weights_bits t.entries ∷ [])
