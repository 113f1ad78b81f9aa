-- The table of explicit weights from its bits (7.3.3.2): the elements in their order.
use Rattle.std.specs.Prelude.{ℕ, pos, negsuc}
use Rattle.avc_bits.specs.Bits.{Read, ◌>>=◌, give, times}
use Rattle.avc_bits.specs.Codes.{ue_to, se_within}
use Rattle.avc_params.specs.Parsing.{optional}
use Rattle.avc_slice.specs.declared.weights.ChromaWeights.{ChromaWeights}
use Rattle.avc_slice.specs.declared.weights.CodedWeight.{CodedWeight}
use Rattle.avc_slice.specs.declared.weights.EntryWeights.{EntryWeights}
use Rattle.avc_slice.specs.declared.weights.PredWeightTable.{PredWeightTable}

-- the weight and the offset of one component, each -128 to 127 (7.3.3.2, 7.4.3.2)
abbrev pub coded_weight : Read CodedWeight
coded_weight = do
  weight ← se_within (negsuc 127) (pos 127)
  offset ← se_within (negsuc 127) (pos 127)
  give (record { weight = weight; offset = offset })

-- chroma_weight_l0 and chroma_offset_l0 of Cb, then of Cr (7.3.3.2)
abbrev pub chroma_weights : Read ChromaWeights
chroma_weights = do
  cb ← coded_weight
  cr ← coded_weight
  give (record { cb = cb; cr = cr })

-- of one reference index, where luma_weight_l0_flag and chroma_weight_l0_flag are 1 (7.3.3.2)
abbrev pub entry_weights : Read EntryWeights
entry_weights = do
  luma ← optional coded_weight
  chroma ← optional chroma_weights
  give (record { luma = luma; chroma = chroma })

-- pred_weight_table of a P slice: the denominators, 0 to 7, then each reference index (7.3.3.2,
-- 7.4.3.2)
abbrev pub pred_weight_table : (num_ref_idx_active : ℕ) → Read PredWeightTable
pred_weight_table num_ref_idx_active = do
  luma_log2_weight_denom ← ue_to 7
  chroma_log2_weight_denom ← ue_to 7
  entries ← times num_ref_idx_active entry_weights
  give (record {
    luma_log2_weight_denom = luma_log2_weight_denom;
    chroma_log2_weight_denom = chroma_log2_weight_denom;
    entries = entries;
  })
