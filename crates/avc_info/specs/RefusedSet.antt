-- The size that a sequence parameter set of any profile says (7.3.2.1.1).
use Rattle.std.specs.Prelude.{ℕ, zero, suc, ◌+◌, ◌*◌, ◌%◌, pos, negsuc, ℤ, ◌+ℤ◌, nat_abs, Bool}
use Rattle.std.specs.Prelude.{true, false, not, ◌==◌, ◌||◌, if◌then◌else◌, List, Option}
use Rattle.avc_bits.specs.Bits.{Read, ◌>>=◌, ◌>>◌, give, start, where_set}
use Rattle.avc_bits.specs.Codes.{u, flag, ue, ue_to, se_within}
use Rattle.avc_params.specs.Reading.{read_value}
use Rattle.avc_params.specs.SpsReading.{order_count}
use Rattle.avc_sequence.specs.declared.sequence_facts.Size.{Size}

-- a part whose value says nothing of the size, where it is present (7.1)
abbrev pub if_present : Bool → Read (Unit {0}) → Read (Unit {0})
if_present true part = part
if_present false part = give tt

-- nextScale behind lastScale (7.3.2.1.1.1)
abbrev pub next_scale : (last_scale : ℕ) → (delta_scale : ℤ) → ℕ
next_scale last_scale delta_scale = nat_abs (pos (last_scale + 256) +ℤ delta_scale) % 256

-- scaling_list, from an entry on: so many entries are left, and lastScale is that of the one
-- before. delta_scale is -128 to 127; none is coded behind nextScale 0 (7.3.2.1.1.1, 7.4.2.1.1.1).
unfoldable pub scaling_list : (entries last_scale : ℕ) → Read (Unit {0})
scaling_list zero last_scale = give tt
scaling_list (suc n) last_scale = do
  delta_scale ← se_within (negsuc 127) (pos 127)
  if_present (not (next_scale last_scale delta_scale == 0))
      (scaling_list n (next_scale last_scale delta_scale))

-- seq_scaling_list_present_flag and the list, so many times (7.3.2.1.1)
unfoldable pub scaling_lists : (count entries : ℕ) → Read (Unit {0})
scaling_lists zero entries = give tt
scaling_lists (suc n) entries = do
  seq_scaling_list_present_flag ← flag
  list ← if_present seq_scaling_list_present_flag (scaling_list entries 8)
  scaling_lists n entries

-- how many of 8x8 blocks there may be, of which 4:4:4 has more (7.3.2.1.1)
abbrev pub lists_8x8 : (chroma_format_idc : ℕ) → ℕ
lists_8x8 chroma_format_idc = if chroma_format_idc == 3 then 6 else 2

-- those of 4x4 blocks, and of 8x8 blocks (7.3.2.1.1)
abbrev pub scaling_matrix : (chroma_format_idc : ℕ) → Read (Unit {0})
scaling_matrix chroma_format_idc =
    scaling_lists 6 16 >> scaling_lists (lists_8x8 chroma_format_idc) 64

-- profile_idc of those whose sets say a chroma format (7.3.2.1.1)
abbrev pub has_chroma_format : ℕ → Bool
has_chroma_format p =
    p == 100 || p == 110 || p == 122 || p == 244 || p == 44 || p == 83 || p == 86 || p == 118
    || p == 128 || p == 138 || p == 139 || p == 134 || p == 135

-- chroma_format_idc, 0 to 3, up to the scaling lists (7.3.2.1.1, 7.4.2.1.1)
abbrev pub chroma_format : Read (Unit {0})
chroma_format = do
  chroma_format_idc ← ue_to 3
  separate_colour_plane_flag ← where_set (chroma_format_idc == 3) flag
  bit_depth_luma_minus8 ← ue
  bit_depth_chroma_minus8 ← ue
  qpprime_y_zero_transform_bypass_flag ← flag
  seq_scaling_matrix_present_flag ← flag
  if_present seq_scaling_matrix_present_flag (scaling_matrix chroma_format_idc)

-- profile_idc to max_num_ref_frames and the flag behind it (7.3.2.1.1)
abbrev pub before_size : Read (Unit {0})
before_size = do
  profile_idc ← u 8
  constraint_flags ← u 8
  level_idc ← u 8
  seq_parameter_set_id ← ue
  format ← if_present (has_chroma_format profile_idc) chroma_format
  log2_max_frame_num_minus4 ← ue
  order ← order_count
  max_num_ref_frames ← ue
  gaps_in_frame_num_value_allowed_flag ← flag
  give tt

-- the size before cropping, in luma samples; a map unit is two macroblocks high where there are
-- fields (7.4.2.1.1)
abbrev pub size_of : (pic_width_in_mbs_minus1 pic_height_in_map_units_minus1 : ℕ)
    → (frame_mbs_only_flag : Bool) → Size
size_of pic_width_in_mbs_minus1 pic_height_in_map_units_minus1 frame_mbs_only_flag = record {
  width = 16 * (pic_width_in_mbs_minus1 + 1);
  height = 16 * (pic_height_in_map_units_minus1 + 1) * (if frame_mbs_only_flag then 1 else 2);
}

-- a sequence parameter set as far as its size (7.3.2.1.1)
abbrev pub any_size : Read Size
any_size = do
  before ← before_size
  pic_width_in_mbs_minus1 ← ue
  pic_height_in_map_units_minus1 ← ue
  frame_mbs_only_flag ← flag
  give (size_of pic_width_in_mbs_minus1 pic_height_in_map_units_minus1 frame_mbs_only_flag)

-- the same, of an RBSP; none where it can't be read so far
abbrev pub size_in : (rbsp : List ℕ) → Option Size
size_in rbsp = read_value any_size (start rbsp)
