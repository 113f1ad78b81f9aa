use Rattle.avc_yuv.proofs.Windows.{arith, length-i420}
use Rattle.avc_yuv.proofs.copy.i420_len.Goals as goal

pub returns : goal.returns
returns g c =
    let long = length-i420 (g.P.PictureRows.picture c.args.picture.now) _ _ c.window_of-luma.ensures.window c.window_of-chroma.ensures.window in
    omega (arith, long, c.area.ensures.is, c.area-2.ensures.is, c.area-3.ensures.is)
