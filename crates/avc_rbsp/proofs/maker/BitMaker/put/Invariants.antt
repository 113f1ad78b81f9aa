use Rattle.avc_rbsp.proofs.Reading.{◌≡◌, ◌≤◌, ◌++◌, false, bits_of}
use Rattle.avc_rbsp.proofs.maker.BitMaker.put.Given as goal

-- what was put and the bits that are left are all
abbrev pub invariant-loop-left : goal.invariant-loop-left
invariant-loop-left l = record {
  going : l.self.failed ≡ false;
  started : l.fn.self.failed ≡ false;
  sum : l.self.bits ++ bits_of l.left l.value ≡ l.fn.self.bits ++ bits_of l.count l.value;
  few : l.left ≤ 32;
}

abbrev pub decreases-loop-left : goal.decreases-loop-left
decreases-loop-left l = l.left
