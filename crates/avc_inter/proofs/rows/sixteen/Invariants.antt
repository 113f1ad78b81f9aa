use Rattle.avc_inter.proofs.SixRows.{◌≡◌, ◌<◌, ◌+◌, ◌*◌, ℕ, length, slice_index, place_of}
use Rattle.avc_inter.proofs.rows.sixteen.Given as goal

abbrev pub invariant-loop-y : goal.invariant-loop-y
invariant-loop-y g l = record {
  long : length l.out ≡ 16;
  done : (k : ℕ) → k < g.row.L * l.y → slice_index l.out k ≡ slice_index l.source.samples.now (l.at + place_of g.row.L l.source.stride k);
}
