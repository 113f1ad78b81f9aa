use Rattle.avc_make_headers.proofs.Headers.{◌≡◌, ◌++◌, drop, false, flat_map, Each}
use Rattle.avc_make_headers.proofs.part.put_each.Given as goal

-- what was put and the parts that are left are all
abbrev pub invariant-loop-part : goal.invariant-loop-part
invariant-loop-part g l = record {
  going : l.maker.failed ≡ false;
  sum : l.maker.bits ++ flat_map g.T.Part.bits (drop l.part-index l.parts) ≡ l.fn.maker.bits ++ flat_map g.T.Part.bits l.parts;
  fits : Each g.T.Part.fits (drop l.part-index l.parts);
}
