use Rattle.avc_decoder.proofs.Events.{None, length, refl, subst, is_err, Machine, IsOpenPictureAnswer, ended_none, lent_in, machine_of}
use Rattle.avc_decoder.proofs.decoder.Decoder.open_picture.Goals as goal

pub returns-then-self : goal.returns-then-self
returns-then-self g c =
    let d = c.self.inside in
    let m : Machine = machine_of d.output d.bytes.items d.ended (length d.taken.items) (is_err d.running) in
    subst (λ (v : Machine). IsOpenPictureAnswer g.row.MAX v None) c.self.view_is (ended_none g.row.MAX m c.if-self.true)

pub returns : goal.returns
returns g c =
    let d = c.self.inside in
    let m : Machine = machine_of d.output d.bytes.items d.ended (length d.taken.items) (is_err d.running) in
    subst (λ (v : Machine). IsOpenPictureAnswer g.row.MAX v c.lent_picture.result) c.self.view_is
    (lent_in m d.running c.lent_picture.result refl c.if-self.false c.self.invariant.parts c.lent_picture.ensures)
