use Rattle.avc_deblock.proofs.FilteredPictures.{◌≡◌, ℕ, List, [], arith, slice_index_or, Coded, Motion, absent}
use Rattle.avc_deblock.proofs.FilteredPictures.{is_intra, Names, HasInfo, HasMotion, MbInfo, mb_at, slice_at}
use Rattle.avc_deblock.proofs.laws.info_of_first_macroblocks_stays.Goals as goal

module _ (c d : Coded) (names : Names) (a : ℕ) (f : MbInfo) (same_mb : mb_at d a ≡ mb_at c a) (same_slice : slice_at d a ≡ slice_at c a) where
  motion_stays : (k : ℕ) (m n : Motion) → n ≡ m → HasMotion c names a f k m → HasMotion d names a f k n
  motion_stays k m n same h = grind (arith)

  info_stay : (motion_c motion_d : List (List Motion)) → slice_index_or motion_d a [] ≡ slice_index_or motion_c a [] → HasInfo c motion_c names a f → HasInfo d motion_d names a f
  info_stay motion_c motion_d same h = grind (arith, is_intra, same_mb, motion_stays, absent)

pub returns : goal.returns
returns call n c d motion_c motion_d names first info agree within have k other low = grind (arith, info_stay)
