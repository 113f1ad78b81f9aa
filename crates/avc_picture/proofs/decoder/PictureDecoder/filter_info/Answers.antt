use Rattle.avc_picture.proofs.Slices.{is_some, subst, IfSome, kept_info, HasFilterInfo, IsKept, NamesPlaces, Decoding, info-now, kept-now, places-now, none-kept, lent-is, lent-some}
use Rattle.avc_picture.proofs.decoder.PictureDecoder.filter_info.Goals as goal

pub returns-clause-kept : goal.returns-clause-kept
returns-clause-kept g c =
    let called = c.filter_info.ensures in
    let none = none-kept c.self.inside.fault c.self.invariant (rw (← c.self.view_is) at c.requires) in
    let m = c.self.inside.macroblocks in
    let some = is_some (kept_info m.canvas.width m.filter_info c.args.address) in
    rw (lent-some c.filter_info.result _ called.info) (subst (λ (v : Decoding g.row.PAD). IsKept c.args.address some v) c.self.view_is
    (kept-now none c.self.invariant c.args.address called.count))

pub returns-clause-info : goal.returns-clause-info
returns-clause-info g c =
    let called = c.filter_info.ensures in
    let none = none-kept c.self.inside.fault c.self.invariant (rw (← c.self.view_is) at c.requires) in
    subst (λ (v : Decoding g.row.PAD). IfSome c.filter_info.result (λ f. HasFilterInfo c.args.address f.now v)) c.self.view_is
    (lent-is _ c.filter_info.result _ called.info (info-now none c.self.invariant c.args.address called.count))

pub returns-clause-pictures : goal.returns-clause-pictures
returns-clause-pictures g c =
    let called = c.filter_info.ensures in
    let none = none-kept c.self.inside.fault c.self.invariant (rw (← c.self.view_is) at c.requires) in
    subst (λ (v : Decoding g.row.PAD). IfSome c.filter_info.result (λ f. NamesPlaces f.now v)) c.self.view_is
    (lent-is _ c.filter_info.result _ called.info (places-now none c.self.invariant c.args.address called.count))
