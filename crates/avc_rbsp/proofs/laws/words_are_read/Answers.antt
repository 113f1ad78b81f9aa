use Rattle.avc_rbsp.proofs.Reading.{back-flag, back-se, back-te, back-u, back-ue, reads_back}
use Rattle.avc_rbsp.proofs.laws.words_are_read.Goals as goal

pub returns : goal.returns
returns c = record {
  u = λ rest n v small. reads_back (back-u n small) rest;
  flag = λ rest b. reads_back (back-flag {b = b}) rest;
  ue = λ rest v small. reads_back (back-ue small) rest;
  se = λ rest v low high. reads_back (back-se low high) rest;
  te = λ rest range v within small. reads_back (back-te range within small) rest;
}
