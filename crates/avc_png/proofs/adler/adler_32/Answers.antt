use Rattle.std.proofs.Common.{◌+◌, ◌%◌, refl, ap}
use Rattle.avc_png.specs.Checksums.{running_sums}
use Rattle.avc_png.proofs.Sums.{low_more, high_more}
use Rattle.avc_png.proofs.adler.adler_32.Goals as goal

pub loop-byte-init : goal.loop-byte-init
unfolding running_sums
loop-byte-init c = record { low = refl; high = refl }

pub loop-byte-preserved : goal.loop-byte-preserved
loop-byte-preserved c =
    let bytes = c.args.bytes.now in
    let low = low_more bytes c.loop-byte.byte-index c.loop-byte.low _ c.loop-byte-test.true c.loop-byte.invariant.low (ap (λ n. (c.loop-byte.low + n) % 65521) c.from.ensures) in
    record {
      low = low;
      high = high_more bytes c.loop-byte.byte-index c.loop-byte.high _ _ c.loop-byte-test.true c.loop-byte.invariant.high low refl;
    }
