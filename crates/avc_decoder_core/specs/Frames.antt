-- The frames of a history as the buffer stores them, with their marks.
use Rattle.std.specs.Prelude.{ℕ, ◌==◌, List, Option, Some, None}
use Rattle.std.specs.Option.{option_map}
use Rattle.std.specs.List.{find}
use Rattle.avc_types.specs.declared.references.Mark.{Mark}
use Rattle.avc_types.specs.PictureInfos.{no_picture_info}
use Rattle.avc_types.specs.References.{Reference}
use Rattle.avc_types.specs.declared.picture_info.PictureInfo.{PictureInfo}
use Rattle.avc_plane.specs.Planes.{Planes}
use Rattle.avc_plane.specs.declared.frame.Frame.{Frame}
use Rattle.avc_params.specs.declared.sps.Sps.{Sps}
use Rattle.avc_marking.specs.Marks.{frame_num_after_marking}
use Rattle.avc_decoder_core.specs.History.{Entry, decoded_picture, missing_frame, History, entry_at}
use Rattle.avc_decoder_core.specs.History.{picture_entry}
use Rattle.avc_decoder_core.specs.Pictures.{crop_of}

-- how the frame with this decoding index is marked, where these are the reference frames (8.2.5)
abbrev pub mark_in : List Reference → (index : ℕ) → Option Mark
mark_in references index =
    option_map (λ r. r.mark) (find (λ r. r.decoding_index == index) references)

-- a frame with the cropping that its parameter set gives
abbrev pub coded_frame : Sps → PictureInfo → Option Planes → (frame_num : ℕ) → Option Mark →
    Frame 16
coded_frame sps info planes frame_num mark = record {
  planes = planes;
  frame_num = frame_num;
  mark = mark;
  crop = crop_of sps.frame_cropping;
  info = info;
}

-- the frame of an entry, with this mark; a missing number's has no planes (8.2.5.2)
abbrev pub frame_of : Option Entry → Option Mark → Frame 16
frame_of (Some (decoded_picture sps h info planes)) mark =
    coded_frame sps info (Some planes) (frame_num_after_marking (picture_entry sps h)) mark
frame_of (Some (missing_frame sps frame_num)) mark =
    coded_frame sps no_picture_info None frame_num mark
frame_of None mark = record {
  planes = None;
  frame_num = 0;
  mark = mark;
  crop = crop_of None;
  info = no_picture_info;
}

-- the frame of the entry with this decoding index, where these are the reference frames
abbrev pub frame_at : History → List Reference → (index : ℕ) → Frame 16
frame_at history references index = frame_of (entry_at history index) (mark_in references index)
