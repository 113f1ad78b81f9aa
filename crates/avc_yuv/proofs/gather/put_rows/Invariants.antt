use Rattle.avc_yuv.proofs.Windows.{◌≡◌, ◌+◌, ◌*◌, ◌++◌, length, take, columns_of, samples_of, window}
use Rattle.avc_yuv.proofs.gather.put_rows.Given as goal

abbrev pub invariant-rows : goal.invariant-rows
invariant-rows g l =
    let p = g.P.PictureRows.picture l.picture in
    record {
      same_length : length l.room ≡ length l.initial.room;
      rows : take (l.at + l.number * (l.of).width) l.room ≡ take l.at l.initial.room ++ window (columns_of p l.component) (samples_of p l.component) (l.of).left ((l.of).top + l.first) (l.of).width l.number;
    }
