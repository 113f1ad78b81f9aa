use Rattle.avc_rbsp.proofs.Reading.{ap, ◌∙◌}
use Rattle.avc_rbsp.proofs.maker.BitMaker.bytes.Goals as goal

pub returns : goal.returns
returns c =
    let going = ap (λ v. v.failed) c.self.view_is ∙ c.requires in
    (c.self.inside.free, rw (c.as_slice.ensures, ← c.self.view_is) (c.self.invariant going))
