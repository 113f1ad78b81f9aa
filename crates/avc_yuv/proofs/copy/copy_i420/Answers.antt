use Rattle.avc_yuv.proofs.Windows.{arith, all_copied, length-i420}
use Rattle.avc_yuv.proofs.copy.copy_i420.Goals as goal

pub copy_dense-cb-requires-clause-room : goal.copy_dense-cb-requires-clause-room
copy_dense-cb-requires-clause-room g c =
    omega (arith, length-i420 (g.P.PictureRows.picture c.args.picture.now) _ _ c.window_of-luma.ensures.window c.window_of-chroma.ensures.window, c.requires.room)

pub copy_dense-cr-requires-clause-room : goal.copy_dense-cr-requires-clause-room
copy_dense-cr-requires-clause-room g c =
    omega (arith, length-i420 (g.P.PictureRows.picture c.args.picture.now) _ _ c.window_of-luma.ensures.window c.window_of-chroma.ensures.window, c.requires.room, c.copy_dense-cb.ensures.place, c.copy_dense-cb.ensures.same_length)

pub copy_dense-requires-clause-room : goal.copy_dense-requires-clause-room
copy_dense-requires-clause-room g c =
    omega (arith, length-i420 (g.P.PictureRows.picture c.args.picture.now) _ _ c.window_of-luma.ensures.window c.window_of-chroma.ensures.window, c.requires.room, c.copy_dense-cb.ensures.place, c.copy_dense-cb.ensures.same_length, c.copy_dense-cr.ensures.place, c.copy_dense-cr.ensures.same_length)

pub returns : goal.returns
returns g c =
    all_copied (g.P.PictureRows.picture c.args.picture.now) c.window_of-luma.result c.window_of-chroma.result c.args.out.now _ _ _ _ _ c.window_of-luma.ensures.window c.window_of-chroma.ensures.window
    c.copy_dense-cb.ensures.place c.copy_dense-cr.ensures.place c.copy_dense-cb.ensures.samples c.copy_dense-cr.ensures.samples c.copy_dense.ensures.samples
