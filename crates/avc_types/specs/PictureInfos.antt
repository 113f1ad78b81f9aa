-- What is known of a picture where nothing is given (E.2.1).
use Rattle.std.specs.Prelude.{pos, false, None}
use Rattle.avc_types.specs.declared.picture_info.PictureInfo.{PictureInfo}
use Rattle.avc_types.specs.declared.picture_info.VideoUsability.{VideoUsability}

-- no VUI parameters: colours are unspecified, which is 2 (Tables E-3 to E-5)
abbrev pub unspecified : VideoUsability
unspecified = record {
  sar_width = 0;
  sar_height = 0;
  video_full_range_flag = false;
  colour_primaries = 2;
  transfer_characteristics = 2;
  matrix_coefficients = 2;
  chroma_sample_loc_type = 0;
  num_units_in_tick = 0;
  time_scale = 0;
  max_num_reorder_frames = None;
}

-- that of a frame that is no picture
abbrev pub no_picture_info : PictureInfo
no_picture_info = record {
  unit = 0;
  is_idr = false;
  frame_num = 0;
  pic_order_cnt = pos 0;
  usability = unspecified;
}
