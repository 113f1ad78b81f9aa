use Rattle.avc_picture.proofs.Slices.{◌≡◌, ℕ, List, arith, subst, samples_of, planes_so_far, CanStandAt, Decoding, covered-now, none-kept, sample-now}
use Rattle.avc_picture.proofs.decoder.PictureDecoder.sample.Goals as goal

pub sample-requires : goal.sample-requires
sample-requires g c =
    let kept = c.self.invariant in
    let asked = rw (← c.self.view_is) at c.requires in
    let none = none-kept c.self.inside.fault kept asked.fault in
    (omega arith, (rw kept.width asked.column, (rw kept.height asked.row, covered-now none kept c.args.component c.args.x c.args.y asked.read)))

pub returns : goal.returns
returns g c =
    let none = none-kept c.self.inside.fault c.self.invariant (rw (← c.self.view_is) at c.requires.fault) in
    subst (λ (v : Decoding g.row.PAD). (es : List ℕ) → CanStandAt es v → samples_of (planes_so_far es v) c.args.component c.args.x c.args.y ≡ c.sample.result) c.self.view_is
    (sample-now none c.self.invariant c.sample.result c.args.component c.args.x c.args.y c.sample.ensures)
