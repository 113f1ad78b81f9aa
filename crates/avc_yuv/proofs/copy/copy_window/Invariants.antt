use Rattle.avc_yuv.proofs.Windows.{◌≡◌, length, laid, map, range_with_len, shown_of_row, window_of}
use Rattle.avc_yuv.proofs.copy.copy_window.Given as goal

abbrev pub invariant-rows : goal.invariant-rows
invariant-rows g l =
    let p = g.P.PictureRows.picture l.picture in
    record {
      same_length : length l.out ≡ length l.initial.out;
      rows : l.out ≡ laid l.stride (map (shown_of_row p l.component) (range_with_len (window_of p l.component).top l.number)) l.initial.out;
    }
