use Rattle.avc_vlc.proofs.Entries.{arith, false, sym, ◌∙◌, replicate, take-append-le}
use Rattle.avc_vlc.proofs.code.Code.of.Goals as goal

pub returns : goal.returns
returns g c = λ b window. record {
  bits = c.bits.ensures.bits b window ∙ sym (take-append-le 32 b.ahead (replicate 32 false) (omega (arith, window.long)));
  below = c.bits.ensures.below;
}
