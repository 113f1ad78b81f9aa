-- The header of the open picture's last slice, of which few fields are kept.
use Rattle.std.specs.Prelude.{◌≡◌, pos, List, [], ◌∷◌, None}
use Rattle.avc_slice.specs.Begins.{picture_fields}
use Rattle.avc_slice.specs.declared.begins.PictureFields.{PictureFields}
use Rattle.avc_slice.specs.declared.header.CodedOrder.TheVariants.{Type2}
use Rattle.avc_slice.specs.declared.header.Header.{Header}
use Rattle.avc_slice.specs.declared.header.SliceType.TheVariants.{I}

-- a header for a list that has none, which no slice has
abbrev no_header : Header
no_header = record {
  nal_ref_idc = 0;
  first_mb_in_slice = 0;
  slice_type = I;
  pic_parameter_set_id = 0;
  frame_num = 0;
  idr_pic_id = None;
  order = Type2;
  redundant_pic_cnt = None;
  active_override = None;
  num_ref_idx_active = 0;
  modifications = None;
  pred_weight_table = None;
  marking = None;
  slice_qp_delta = pos 0;
  deblocking = None;
  position = 0;
}

-- the newest header
abbrev pub kept : List Header → Header
kept [] = no_header
kept (h ∷ _) = h

-- These are its fields.
abbrev pub HasFields : PictureFields → List Header → Type 0
HasFields fields headers = fields ≡ picture_fields (kept headers)
