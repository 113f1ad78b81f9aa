-- The pictures of a history as they are handed out (7.4.2.1.1, C.4).
use Rattle.std.specs.Prelude.{ℕ, ◌*◌, Bool, true, false, if◌then◌else◌, List, [], ◌∷◌, ◌++◌, Option}
use Rattle.std.specs.Prelude.{Some, None}
use Rattle.std.specs.List.{flat_map}
use Rattle.avc_types.specs.declared.picture.Crop.{Crop}
use Rattle.avc_types.specs.declared.picture.Picture.{Picture}
use Rattle.avc_types.specs.declared.picture_info.PictureInfo.{PictureInfo}
use Rattle.avc_types.specs.declared.references.Marking.{Marking}
use Rattle.avc_types.specs.declared.references.Marking.TheVariants.{Idr}
use Rattle.avc_dpb.specs.declared.output.Output.{Output}
use Rattle.avc_plane.specs.Shown.{picture_of as cropped_picture}
use Rattle.avc_plane.specs.Planes.{Planes}
use Rattle.avc_params.specs.declared.sps.Cropping.{Cropping}
use Rattle.avc_params.specs.declared.sps.Sps.{Sps}
use Rattle.avc_slice.specs.Header.{is_idr}
use Rattle.avc_slice.specs.declared.header.Header.{Header}
use Rattle.avc_decoder_core.specs.History.{Entry, decoded_picture, missing_frame, History}
use Rattle.avc_decoder_core.specs.History.{earlier_in_sequence, entry_at, new_output, all_held}

-- the cropping rectangle in luma samples (7.4.2.1.1): a unit of the offsets is two of them at 4:2:0
abbrev pub crop_of : Option Cropping → Crop
crop_of None = record { left = 0; right = 0; top = 0; bottom = 0 }
crop_of (Some c) = record {
  left = 2 * c.frame_crop_left_offset;
  right = 2 * c.frame_crop_right_offset;
  top = 2 * c.frame_crop_top_offset;
  bottom = 2 * c.frame_crop_bottom_offset;
}

-- the picture as it is handed out: coded size, cropping rectangle and planes (6.2, 7.4.2.1.1), and
-- what is known of it
abbrev pub picture_of : Sps → PictureInfo → Planes → Picture
picture_of sps info planes = cropped_picture planes (crop_of sps.frame_cropping) info

-- the entry's picture; none where a number is missing (C.4.2)
abbrev pub entry_pictures : Option Entry → List Picture
entry_pictures (Some (decoded_picture sps h info planes)) = picture_of sps info planes ∷ []
entry_pictures (Some (missing_frame sps frame_num)) = []
entry_pictures None = []

-- the pictures with these decoding indices of the history
abbrev pub pictures_at : History → List ℕ → List Picture
pictures_at h indices = flat_map (λ index. entry_pictures (entry_at h index)) indices

-- what goes out where `old` has become `new` (C.4.5.3)
abbrev pub output_pictures : Output → (old new : History) → List Picture
output_pictures output old new = pictures_at new (new_output output old new)

-- all pictures needed for output, in the order in which they go out (C.4.5.3)
abbrev pub held_pictures : Output → History → List Picture
held_pictures output h = pictures_at h (all_held output h)

-- ---- where a picture is closed (C.4.4)

-- no_output_of_prior_pics_flag (7.4.3.3); that it is never inferred is this decoder's rule
abbrev pub no_output_of_prior_pics : Option Marking → Bool
no_output_of_prior_pics (Some (Idr no_output long_term)) = no_output
no_output_of_prior_pics _ = false

-- what goes out of the sequence before where a picture with this header is closed: before an IDR
-- picture all that is needed for output, or nothing by no_output_of_prior_pics_flag (C.4.4)
abbrev pub prior_output : Output → Header → (before : History) → List Picture
prior_output output h before =
    elim (is_idr h) [
      | true ↦ (if no_output_of_prior_pics h.marking then [] else held_pictures output before)
      | false ↦ []
    ]

-- what goes out where a picture with this header is closed on the history `before`, which then is
-- `after` (C.4.4, C.4.5)
abbrev pub output_at_closing : Output → Header → (before after : History) → List Picture
output_at_closing output h before after =
    prior_output output h before ++ output_pictures output (earlier_in_sequence h before) after
