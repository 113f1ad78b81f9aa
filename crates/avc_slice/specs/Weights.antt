-- By what the predictions of a P slice are weighted (7.4.3.2, 8.4.2.3).
use Rattle.std.specs.Prelude.{ℕ, ◌^◌, pos, List, [], map, Option, Some, None}
use Rattle.std.specs.Option.{option_map}
use Rattle.avc_types.specs.declared.weight.Weight.{Weight}
use Rattle.avc_types.specs.declared.weight.Weights.{Weights}
use Rattle.avc_slice.specs.declared.header.Header.{Header}
use Rattle.avc_slice.specs.declared.weights.CodedWeight.{CodedWeight}
use Rattle.avc_slice.specs.declared.weights.EntryWeights.{EntryWeights}
use Rattle.avc_slice.specs.declared.weights.PredWeightTable.{PredWeightTable}

-- where it is not coded, two to the power of the denominator, and no offset (7.4.3.2)
abbrev pub weight_of : (log2_denom : ℕ) → Option CodedWeight → Weight
weight_of log2_denom None = record {
  log2_denom = log2_denom;
  weight = pos (2 ^ log2_denom);
  offset = pos 0;
}
weight_of log2_denom (Some c) = record {
  log2_denom = log2_denom;
  weight = c.weight;
  offset = c.offset;
}

-- the weights of one reference index (7.4.3.2)
abbrev pub weights_of : PredWeightTable → EntryWeights → Weights
weights_of t e = record {
  luma = weight_of t.luma_log2_weight_denom e.luma;
  cb = weight_of t.chroma_log2_weight_denom (option_map (λ c. c.cb) e.chroma);
  cr = weight_of t.chroma_log2_weight_denom (option_map (λ c. c.cr) e.chroma);
}

-- those of a table, by reference index (7.4.3.2)
abbrev weights_in : Option PredWeightTable → List Weights
weights_in None = []
weights_in (Some t) = map (weights_of t) t.entries

-- by reference index; none without a table, where the prediction is the default one (8.4.2.3)
abbrev pub weights : Header → List Weights
weights h = weights_in h.pred_weight_table
