use Rattle.std.proofs.Common.{◌≡◌, arith, length}
use Rattle.avc_plane.specs.declared.component.Component.TheVariants.{Luma, Cb}
use Rattle.avc_yuv.specs.Copying.{shown_of}
use Rattle.avc_compare.proofs.Meetings.{cb_ends, cr_ends, meets_fault, on_err}
use Rattle.avc_compare.proofs.meeting.meet_picture.Goals as goal

pub returns-in_err-cb-clause-err : goal.returns-in_err-cb-clause-err
returns-in_err-cb-clause-err g c =
    on_err c.from_residual-in_err-cb.result (meets_fault _ c.args.left c.in_ok-luma.luma _ _ _ _ _ c.in_ok-luma.ensures.ok c.in_err-cb.ensures.err)

pub returns-then-cb-chroma-clause-ok : goal.returns-then-cb-chroma-clause-ok
returns-then-cb-chroma-clause-ok g c =
    let p = c.args.picture.now in
    let luma : c.in_ok-luma.luma ≡ length (shown_of p Luma) = omega (arith, c.in_ok-luma.ensures.ok.within, c.if-luma-samples_of.false, c.samples_of.ensures) in
    cb_ends p c.args.left c.in_ok-luma.luma c.in_ok-cb.cb _ _ _ _ _ _ luma c.in_ok-luma.ensures.ok c.in_ok-cb.ensures.ok

pub returns-in_err-cr-clause-err : goal.returns-in_err-cr-clause-err
returns-in_err-cr-clause-err g c =
    let p = c.args.picture.now in
    let luma : c.in_ok-luma.luma ≡ length (shown_of p Luma) = omega (arith, c.in_ok-luma.ensures.ok.within, c.if-luma-samples_of.false, c.samples_of.ensures) in
    let both = cb_ends p c.args.left c.in_ok-luma.luma c.in_ok-cb.cb _ _ _ _ _ _ luma c.in_ok-luma.ensures.ok c.in_ok-cb.ensures.ok in
    on_err c.from_residual-in_err-cr.result (meets_fault _ c.args.left _ _ _ _ _ _ both c.in_err-cr.ensures.err)

pub returns-clause-ok : goal.returns-clause-ok
returns-clause-ok g c =
    let p = c.args.picture.now in
    let luma : c.in_ok-luma.luma ≡ length (shown_of p Luma) = omega (arith, c.in_ok-luma.ensures.ok.within, c.if-luma-samples_of.false, c.samples_of.ensures) in
    let cb : c.in_ok-cb.cb ≡ length (shown_of p Cb) = omega (arith, c.in_ok-cb.ensures.ok.within, c.if-cb-chroma.false, c.samples_of-chroma.ensures) in
    cr_ends p c.args.left c.in_ok-luma.luma c.in_ok-cb.cb c.in_ok-cr.cr _ _ _ _ _ _ _ _ luma cb c.in_ok-luma.ensures.ok c.in_ok-cb.ensures.ok c.in_ok-cr.ensures.ok
