-- Worked streams: what is handed out of bytes, by computing both sides.
use Rattle.std.proofs.Common.{arith}
use Rattle.std.specs.List.{range_with_len}
use Rattle.std.specs.Prelude.{◌≡◌, refl, ℕ, zero, suc, Bool, true, false, All, List, [], ◌∷◌, ◌++◌, length, map, take, replicate, slice_index, Some, pos}
use Rattle.avc_types.specs.PictureInfos.{unspecified}
use Rattle.avc_types.specs.declared.fault.Fault.{Fault}
use Rattle.avc_types.specs.declared.fault.Fault.TheVariants as faults
use Rattle.avc_types.specs.declared.picture_info.PictureInfo.{PictureInfo}
use Rattle.avc_annexb.specs.Units.{units}
use Rattle.avc_dpb.specs.declared.output.Output.{Output}
use Rattle.avc_dpb.specs.declared.output.Output.TheVariants.{Early, Full}
use Rattle.avc_units.specs.Resuming.{resumed, sets_in_force}
use Rattle.avc_decoder.specs.Events.{events, pictures_in, turns}
use Rattle.avc_decoder.specs.SeenEvents.{Event}
use Rattle.avc_decoder.specs.declared.event.Event.TheVariants.{Picture, Refused}
use Rattle.avc_laws.specs.EarlyOutput.{EndedSequence, IsNotDropped, IsReorderedWithin, sequences}
use Rattle.avc_laws.specs.Laws.{renumbered}

-- ---- worked examples of whole streams

abbrev max : ℕ
max = 134217728

-- 16x16 luma samples, order count type 2, one reference frame
abbrev sps_small : List ℕ
sps_small = 0 ∷ 0 ∷ 0 ∷ 1 ∷ 0x67 ∷ 0x42 ∷ 0xC0 ∷ 0x0A ∷ 0xDA ∷ 0x71 ∷ []

-- the same 32 samples wide
abbrev sps_wide : List ℕ
sps_wide = 0 ∷ 0 ∷ 0 ∷ 1 ∷ 0x67 ∷ 0x42 ∷ 0xC0 ∷ 0x0A ∷ 0xDA ∷ 0x2C ∷ 0x40 ∷ []

-- that of sps_small with bitstream_restriction: max_num_reorder_frames 0, max_dec_frame_buffering 1
abbrev sps_in_order : List ℕ
sps_in_order = 0 ∷ 0 ∷ 0 ∷ 1 ∷ 0x67 ∷ 0x42 ∷ 0xC0 ∷ 0x0A ∷ 0xDA ∷ 0x72 ∷ 0x01 ∷ 0xFD ∷ 0x40 ∷ []

-- no deblocking fields in slices
abbrev pps_plain : List ℕ
pps_plain = 0 ∷ 0 ∷ 0 ∷ 1 ∷ 0x68 ∷ 0xCE ∷ 0x38 ∷ 0x80 ∷ []

abbrev sets : List ℕ
sets = sps_small ++ pps_plain

-- an IDR slice of one Intra 16x16 macroblock without levels
abbrev idr : List ℕ
idr = 0 ∷ 0 ∷ 1 ∷ 0x65 ∷ 0x88 ∷ 0x84 ∷ 0x93 ∷ 0xC0 ∷ []

-- a P slice of one skipped macroblock, frame_num 1
abbrev skipping : List ℕ
skipping = 0 ∷ 0 ∷ 1 ∷ 0x41 ∷ 0x9A ∷ 0x22 ∷ 0xA0 ∷ []

-- the same with frame_num 2
abbrev skipping_later : List ℕ
skipping_later = 0 ∷ 0 ∷ 1 ∷ 0x41 ∷ 0x9A ∷ 0x42 ∷ 0xA0 ∷ []

-- an IDR slice of one I_PCM macroblock: what stands before its samples, and these
abbrev pcm : (front samples : List ℕ) → List ℕ
pcm front samples = (0 ∷ 0 ∷ 1 ∷ 0x65 ∷ []) ++ front ++ samples ++ 0x80 ∷ []

-- first_mb_in_slice 0; idr_pic_id 0, 1, and 1 with no_output_of_prior_pics_flag 1
abbrev first_mb : List ℕ
first_mb = 0x88 ∷ 0x84 ∷ 0x86 ∷ 0x80 ∷ []

abbrev next_picture : List ℕ
next_picture = 0x88 ∷ 0x82 ∷ 0x21 ∷ 0xA0 ∷ []

abbrev dropping_picture : List ℕ
dropping_picture = 0x88 ∷ 0x82 ∷ 0xA1 ∷ 0xA0 ∷ []

-- first_mb_in_slice 1
abbrev second_mb : List ℕ
second_mb = 0x42 ∷ 0x21 ∷ 0x21 ∷ 0xA0 ∷ []

abbrev of_one : ℕ → List ℕ
of_one sample = replicate 384 sample

-- with no reordering: a picture, and the access unit delimiter that closes it
abbrev picture_in_order : List ℕ
picture_in_order = sps_in_order ++ pps_plain ++ pcm first_mb (of_one 64) ++ 0 ∷ 0 ∷ 1 ∷ 0x09 ∷ 0x10 ∷ []

-- a refusal, or a picture by its first luma sample and the number of its luma samples
data Seen : Type 0 where
  refusal : ℕ → Fault → Seen
  shown : (first count : ℕ) → Seen

abbrev seen : Event → Seen
seen (Picture p) = shown (slice_index p.luma 0) (length p.luma)
seen (Refused unit f) = refusal unit f

abbrev seen_under : Output → List ℕ → Bool → List Seen
seen_under output bytes ended = map seen (events output max bytes ended)

abbrev seen_all : List ℕ → Bool → List Seen
seen_all bytes ended = seen_under Full bytes ended

-- ---- units and parameter sets

-- a set that is refused, and then no set for the slice
cabac : seen_all (sps_small ++ (0 ∷ 0 ∷ 0 ∷ 1 ∷ 0x68 ∷ 0xEE ∷ 0x38 ∷ 0x80 ∷ []) ++ idr) true ≡ refusal 1 faults.Cabac ∷ refusal 2 faults.NoParameterSet ∷ []
cabac = refl

slice_groups : seen_all (sps_small ++ (0 ∷ 0 ∷ 0 ∷ 1 ∷ 0x68 ∷ 0xC5 ∷ 0x80 ∷ []) ++ idr) true ≡ refusal 1 faults.SliceGroups ∷ refusal 2 faults.NoParameterSet ∷ []
slice_groups = refl

forbidden : seen_all (0 ∷ 0 ∷ 1 ∷ 0xE7 ∷ 0x42 ∷ []) true ≡ refusal 0 faults.ForbiddenBit ∷ []
forbidden = refl

profile : seen_all (0 ∷ 0 ∷ 0 ∷ 1 ∷ 0x67 ∷ 0x64 ∷ 0x00 ∷ 0x0A ∷ 0xDA ∷ 0x71 ∷ []) true ≡ refusal 0 faults.Profile ∷ []
profile = refl

too_long : map seen (events Full 5 (sets ++ idr) true) ≡ refusal 0 faults.NalTooLong ∷ refusal 2 faults.NoParameterSet ∷ []
too_long = refl

-- ---- pictures

rising : events Full max (sets ++ pcm first_mb (range_with_len 0 256 ++ replicate 64 0x40 ++ replicate 64 0xC0)) true
    ≡ Picture (record {
      width = 16;
      height = 16;
      crop = record { left = 0; right = 0; top = 0; bottom = 0 };
      info = record { unit = 2; is_idr = true; frame_num = 0; pic_order_cnt = pos 0; usability = unspecified };
      luma = range_with_len 0 256;
      cb = replicate 64 0x40;
      cr = replicate 64 0xC0;
    })
    ∷ []
rising = refl

-- the second IDR picture puts the first out, or drops it
two_pictures : seen_all (sets ++ pcm first_mb (of_one 64) ++ pcm next_picture (of_one 80)) true ≡ shown 64 256 ∷ shown 80 256 ∷ []
two_pictures = refl

dropped : seen_all (sets ++ pcm first_mb (of_one 64) ++ pcm dropping_picture (of_one 80)) true ≡ shown 80 256 ∷ []
dropped = refl

-- none goes out before the next picture or the end
held_back : seen_all (sets ++ pcm first_mb (of_one 64) ++ 0 ∷ 0 ∷ 1 ∷ []) false ≡ []
held_back = refl

-- where no picture is reordered, early output gives each picture once it is closed
early : seen_under Early (picture_in_order ++ 0 ∷ 0 ∷ 1 ∷ []) false ≡ shown 64 256 ∷ []
early = refl

early_at_end : seen_under Early picture_in_order true ≡ shown 64 256 ∷ []
early_at_end = refl

not_early : seen_under Full (picture_in_order ++ 0 ∷ 0 ∷ 1 ∷ []) false ≡ []
not_early = refl

at_end_row : seen_under Full picture_in_order true ≡ shown 64 256 ∷ []
at_end_row = refl

-- how many pictures and missing numbers the coded video sequences of a stream have
abbrev lengths : List ℕ → List ℕ
lengths bytes = map (λ (s : EndedSequence). length s.history) (sequences max bytes)

-- two pictures in order are one sequence, in which none is reordered and none dropped
one_sequence : lengths (picture_in_order ++ skipping) ≡ 2 ∷ []
one_sequence = refl

in_order : All IsReorderedWithin (sequences max (picture_in_order ++ skipping))
in_order zero d lt = (omega arith, (omega arith, tt))
in_order (suc k) d lt = absurd (omega (arith, lt))

not_dropped : All IsNotDropped (sequences max (picture_in_order ++ skipping))
not_dropped zero d lt = refl
not_dropped (suc k) d lt = absurd (omega (arith, lt))

-- a fault ends a sequence, and the next IDR picture begins another
two_sequences : lengths (sets ++ pcm first_mb (of_one 80) ++ skipping_later ++ pcm next_picture (of_one 64)) ≡ 1 ∷ 1 ∷ []
two_sequences = refl

-- so does the next IDR picture alone
next_sequence : lengths (sets ++ pcm first_mb (of_one 80) ++ skipping ++ pcm next_picture (of_one 64)) ≡ 2 ∷ 1 ∷ []
next_sequence = refl

waits : seen_all (sets ++ skipping ++ pcm first_mb (of_one 80)) true ≡ shown 80 256 ∷ []
waits = refl

-- a skipped macroblock is that of the picture before
p_picture : seen_all (sets ++ pcm first_mb (of_one 80) ++ skipping) true ≡ shown 80 256 ∷ shown 80 256 ∷ []
p_picture = refl

-- frame_num 1 is missing, and the sequence allows no gaps
gap : seen_all (sets ++ pcm first_mb (of_one 80) ++ skipping_later) true ≡ shown 80 256 ∷ refusal 3 faults.FrameNumGap ∷ []
gap = refl

-- ---- slices

two_slices : seen_all (sps_wide ++ pps_plain ++ pcm first_mb (of_one 80) ++ pcm second_mb (of_one 90)) true ≡ shown 80 512 ∷ []
two_slices = refl

incomplete : seen_all (sps_wide ++ pps_plain ++ pcm first_mb (of_one 80)) true ≡ refusal 2 faults.MissingMacroblocks ∷ []
incomplete = refl

incomplete_not_yet : seen_all (sps_wide ++ pps_plain ++ pcm first_mb (of_one 80)) false ≡ []
incomplete_not_yet = refl

out_of_order : seen_all (sps_wide ++ pps_plain ++ pcm first_mb (of_one 80) ++ pcm second_mb (of_one 80) ++ pcm second_mb (of_one 80)) true
    ≡ refusal 4 faults.ArbitrarySliceOrder ∷ []
out_of_order = refl

begun_late : seen_all (sps_wide ++ pps_plain ++ pcm second_mb (of_one 80) ++ pcm first_mb (of_one 80)) true ≡ refusal 3 faults.MissingMacroblocks ∷ []
begun_late = refl

truncated : seen_all (sets ++ pcm first_mb (replicate 300 80)) true ≡ refusal 2 faults.Truncated ∷ []
truncated = refl

-- ---- what is known of pictures

abbrev infos_of : List ℕ → List PictureInfo
infos_of bytes = map (λ p. p.info) (pictures_in (events Full max bytes true))

-- by order count type 2 PicOrderCnt is twice frame_num
infos : infos_of (sets ++ pcm first_mb (of_one 80) ++ skipping)
    ≡ record { unit = 2; is_idr = true; frame_num = 0; pic_order_cnt = pos 0; usability = unspecified }
    ∷ record { unit = 3; is_idr = false; frame_num = 1; pic_order_cnt = pos 2; usability = unspecified }
    ∷ []
infos = refl

-- of two slices the first one's unit
first_unit : map (λ i. i.unit) (infos_of (sps_wide ++ pps_plain ++ pcm first_mb (of_one 80) ++ pcm second_mb (of_one 90))) ≡ 2 ∷ []
first_unit = refl

restricted : map (λ i. i.usability) (infos_of picture_in_order) ≡ record unspecified { max_num_reorder_frames = Some 0 } ∷ []
restricted = refl

-- ---- the macroblocks that are read

one_macroblock : turns Full max (sets ++ pcm first_mb (of_one 80)) true ≡ 1
one_macroblock = refl

two_in_two_slices : turns Full max (sps_wide ++ pps_plain ++ pcm first_mb (of_one 80) ++ pcm second_mb (of_one 90)) true ≡ 2
two_in_two_slices = refl

two_pictures_of_one : turns Full max (sets ++ pcm first_mb (of_one 80) ++ skipping) true ≡ 2
two_pictures_of_one = refl

-- a slice that is refused for its address adds none
none_out_of_order : turns Full max (sps_wide ++ pps_plain ++ pcm first_mb (of_one 80) ++ pcm second_mb (of_one 80) ++ pcm second_mb (of_one 80)) true ≡ 2
none_out_of_order = refl

-- ---- where decoding starts again

-- as events of the whole stream, which begins with k units that have m parameter sets in force
abbrev seen_from : (m k : ℕ) → List ℕ → List Seen
seen_from m k bytes = map (λ e. seen (renumbered m k e)) (events Full max bytes true)

-- after a gap that is refused, with unit 4; unit 5 has first_mb_in_slice 1, where the picture has one macroblock
abbrev behind_gap : List ℕ
behind_gap = pcm next_picture (of_one 64) ++ pcm second_mb (of_one 64)

abbrev with_gap : List ℕ
with_gap = sets ++ pcm first_mb (of_one 80) ++ skipping_later ++ behind_gap

gap_and_resumed : seen_all with_gap true ≡ shown 80 256 ∷ refusal 3 faults.FrameNumGap ∷ shown 64 256 ∷ refusal 5 faults.OutOfRange ∷ []
gap_and_resumed = refl

resumed_behind_gap : resumed max with_gap 4 ≡ sets ++ 0 ∷ behind_gap
resumed_behind_gap = refl

seen_behind_gap : seen_all (sets ++ 0 ∷ behind_gap) true ≡ shown 64 256 ∷ refusal 3 faults.OutOfRange ∷ []
seen_behind_gap = refl

numbered_behind_gap : seen_from 2 4 (sets ++ 0 ∷ behind_gap) ≡ shown 64 256 ∷ refusal 5 faults.OutOfRange ∷ []
numbered_behind_gap = refl

sets_behind_gap : length (sets_in_force (take 4 (units max with_gap true))) ≡ 2
sets_behind_gap = refl

-- unit 3 closes a picture without its second macroblock, and begins one that lacks it too
abbrev two_short : List ℕ
two_short = sps_wide ++ pps_plain ++ pcm first_mb (of_one 80) ++ pcm next_picture (of_one 64)

short_and_resumed : seen_all two_short true ≡ refusal 2 faults.MissingMacroblocks ∷ refusal 3 faults.MissingMacroblocks ∷ []
short_and_resumed = refl

numbered_behind_short : seen_from 2 3 (resumed max two_short 3) ≡ refusal 3 faults.MissingMacroblocks ∷ []
numbered_behind_short = refl
