-- What C is told of a picture beside its samples.
use Rattle.std.specs.Prelude.{◌≡◌, ℕ, Bool, true, false, Option, Some, None, is_some, unwrap_or}
use Rattle.avc_types.specs.declared.picture.Picture.{Picture}
use Rattle.avc_types.specs.declared.picture_info.PictureInfo.{PictureInfo}
use Rattle.avc_c_picture.specs.Statuses.{number_of}
use Rattle.avc_c_picture.specs.declared.info.InfoRecord.{InfoRecord}
use Rattle.avc_c_picture.specs.declared.status.Status.TheVariants.{Ok, NoPicture}

-- 1 where something holds, else 0
abbrev pub flag : Bool → ℕ
flag true = 1
flag false = 0

-- what is known of a picture, field by field
abbrev pub info_record : PictureInfo → InfoRecord
info_record info = record {
  unit = info.unit;
  pic_order_cnt = info.pic_order_cnt;
  is_idr = flag info.is_idr;
  frame_num = info.frame_num;
  sar_width = (info.usability).sar_width;
  sar_height = (info.usability).sar_height;
  video_full_range_flag = flag (info.usability).video_full_range_flag;
  colour_primaries = (info.usability).colour_primaries;
  transfer_characteristics = (info.usability).transfer_characteristics;
  matrix_coefficients = (info.usability).matrix_coefficients;
  chroma_sample_loc_type = (info.usability).chroma_sample_loc_type;
  num_units_in_tick = (info.usability).num_units_in_tick;
  time_scale = (info.usability).time_scale;
  has_max_num_reorder_frames = flag (is_some (info.usability).max_num_reorder_frames);
  max_num_reorder_frames = unwrap_or (info.usability).max_num_reorder_frames 0;
}

-- that of the picture that was taken last is told, if there is one
abbrev pub IsInfoTold : Option Picture → (old : InfoRecord) → (status : ℕ) → (new : InfoRecord) →
    Type 0
IsInfoTold None old status new = (status ≡ number_of NoPicture) × (new ≡ old)
IsInfoTold (Some p) old status new = (status ≡ number_of Ok) × (new ≡ info_record p.info)
