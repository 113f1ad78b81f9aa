use Rattle.avc_rbsp.proofs.Reading.{append_assoc, refl, ue_put}
use Rattle.avc_rbsp.proofs.maker.BitMaker.ue.Goals as goal

pub returns : goal.returns
returns c =
    let word = ue_put c.args.value _ c.after_one-count.result refl c.after_one-count.ensures.value in
    (c.in_ok-put.ensures.0, rw (c.in_ok-put-2.ensures.1, c.in_ok-flag.ensures.1, c.in_ok-put.ensures.1, ← word) (simp append_assoc))
