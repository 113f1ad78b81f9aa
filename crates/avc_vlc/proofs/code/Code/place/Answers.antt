use Rattle.avc_vlc.proofs.Entries.{arith, and_mask, one_shl, agree_place}
use Rattle.avc_vlc.proofs.code.Code.place.Goals as goal

pub returns-clause-agrees : goal.returns-clause-agrees
returns-clause-agrees g c = λ ahead is. record {
  agrees = agree_place c.args.self.word c.args.last c.args.tail _ _ ahead c.requires.few c.requires.narrow c.min-zeros.ensures
      (rw (one_shl c.args.tail 32 (omega arith)) (and_mask _ c.args.tail)) is;
}
