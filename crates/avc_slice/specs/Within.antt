-- What each slice header that was read keeps to.
use Rattle.std.specs.Prelude.{◌≡◌, ℕ, ◌<◌, ◌≤◌, pos, negsuc, ◌≤ℤ◌, true, false, List, length, Some}
use Rattle.std.specs.Prelude.{IfSome, is_some}
use Rattle.std.specs.List.{All}
use Rattle.avc_types.specs.declared.edges.FilteredEdges.TheVariants.{NoEdges}
use Rattle.avc_bits.specs.Bits.{bits_before_stop}
use Rattle.avc_params.specs.Limits.{size_in_mbs}
use Rattle.avc_params.specs.Tables.{Sets}
use Rattle.avc_params.specs.declared.pps.Pps.{Pps}
use Rattle.avc_params.specs.declared.sps.Sps.{Sps}
use Rattle.avc_slice.specs.Header.{is_idr, has_idr_marking, is_p, is_reference, slice_qp}
use Rattle.avc_slice.specs.declared.header.Deblocking.{Deblocking}
use Rattle.avc_slice.specs.declared.header.Header.{Header}
use Rattle.avc_slice.specs.declared.weights.ChromaWeights.{ChromaWeights}
use Rattle.avc_slice.specs.declared.weights.CodedWeight.{CodedWeight}
use Rattle.avc_slice.specs.declared.weights.EntryWeights.{EntryWeights}
use Rattle.avc_slice.specs.declared.weights.PredWeightTable.{PredWeightTable}

-- The offsets are -6 to 6 (7.4.3).
pub record IsDeblocking (d : Deblocking) : Type 0 where
  pub alpha_low : negsuc 5 ≤ℤ d.slice_alpha_c0_offset_div2
  pub alpha_high : d.slice_alpha_c0_offset_div2 ≤ℤ pos 6
  pub beta_low : negsuc 5 ≤ℤ d.slice_beta_offset_div2
  pub beta_high : d.slice_beta_offset_div2 ≤ℤ pos 6
  -- the offsets are not coded where no edge is filtered
  pub off : d.disable_deblocking_filter_idc ≡ NoEdges → d.slice_alpha_c0_offset_div2 ≡ pos 0

-- each -128 to 127 (7.4.3.2)
pub record IsCodedWeight (c : CodedWeight) : Type 0 where
  pub weight_low : negsuc 127 ≤ℤ c.weight
  pub weight_high : c.weight ≤ℤ pos 127
  pub offset_low : negsuc 127 ≤ℤ c.offset
  pub offset_high : c.offset ≤ℤ pos 127

-- the weights of both chroma components are in range
pub record IsChromaWeights (c : ChromaWeights) : Type 0 where
  pub cb : IsCodedWeight c.cb
  pub cr : IsCodedWeight c.cr

-- all weights that an entry has are in range (7.4.3.2)
pub record IsEntryWeights (e : EntryWeights) : Type 0 where
  pub luma : IfSome e.luma IsCodedWeight
  pub chroma : IfSome e.chroma IsChromaWeights

-- an entry for each reference index
pub record IsPredWeightTable (num_ref_idx_active : ℕ) (t : PredWeightTable) : Type 0 where
  pub luma_denom : t.luma_log2_weight_denom ≤ 7
  pub chroma_denom : t.chroma_log2_weight_denom ≤ 7
  pub count : length t.entries ≡ num_ref_idx_active
  pub entries : All IsEntryWeights t.entries

-- A header that was read in this RBSP under these sets.
pub record IsHeader (sps : Sps) (pps : Pps) (rbsp : List ℕ) (h : Header) : Type 0 where
  pub address : h.first_mb_in_slice < size_in_mbs sps
  -- an IDR picture has I slices alone
  pub intra : is_idr h ≡ true → is_p h ≡ false
  -- a reference picture alone has dec_ref_pic_marking (7.3.3)
  pub reference : is_some h.marking ≡ is_reference h
  -- that of an IDR picture is one of its own
  pub marking : is_idr h ≡ true → has_idr_marking h ≡ true
  pub qp_low : pos 0 ≤ℤ slice_qp pps h.slice_qp_delta
  pub qp_high : slice_qp pps h.slice_qp_delta ≤ℤ pos 51
  pub deblocking : IfSome h.deblocking IsDeblocking
  -- RefPicList0 has at most 16 entries
  pub active : h.num_ref_idx_active ≤ 16
  pub weights : IfSome h.pred_weight_table (IsPredWeightTable h.num_ref_idx_active)
  pub position : h.position ≤ length (bits_before_stop rbsp)

-- The sets that a header names, and that it was read under.
pub record IsReadUnder (sets : Sets) (rbsp : List ℕ) (h : Header) : Type 0 where
  pub pps : Pps
  pub sps : Sps
  pub pps_is : sets.pps h.pic_parameter_set_id ≡ Some pps
  pub sps_is : sets.sps pps.seq_parameter_set_id ≡ Some sps
  pub within : IsHeader sps pps rbsp h
