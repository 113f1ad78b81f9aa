use Rattle.avc_motion.proofs.MacroblockMotion.{◌≡◌, length, take, map, vector_of}
use Rattle.avc_motion.proofs.macroblock.vectors_of.Given as goal

abbrev pub invariant-loop-k : goal.invariant-loop-k
invariant-loop-k l = record {
  long : length l.vectors ≡ 16;
  done : take l.k l.vectors ≡ map vector_of (take l.k l.motion);
}
