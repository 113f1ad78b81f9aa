-- Where a macroblock is predicted from, ITU-T H.264 clauses 8.3 and 8.4.
use Rattle.std.specs.Prelude.{ℤ, ◌==◌, not, if◌then◌else◌, List}
use Rattle.avc_deblock.specs.declared.mb_info.MbInfo.{MbInfo}
use Rattle.avc_stages.specs.declared.motion.Motion.{Motion}
use Rattle.avc_stages.specs.declared.motion.Motion.TheVariants.{Intra, Inter}

-- where the macroblock is predicted from of which the filter is told this, with PicOrderCnt of the
-- reference pictures of its quarters (8.2.1)
abbrev pub motion_of : MbInfo → (order_counts : List ℤ) → Motion
motion_of info order_counts =
    if info.is_intra then Intra
    else Inter (record {
      order_counts = order_counts;
      vectors = info.vectors;
      has_luma_levels = not (info.coefficients == 0);
    })
