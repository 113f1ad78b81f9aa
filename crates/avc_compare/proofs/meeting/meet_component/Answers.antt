use Rattle.std.proofs.Common.{◌≡◌, ℕ, ◌+◌, ◌<◌, List, ap, ◌∙◌, arith, length}
use Rattle.avc_types.specs.declared.picture.Picture.{Picture as Decoded}
use Rattle.avc_plane.specs.declared.component.Component.{Component}
use Rattle.avc_yuv.specs.Copying.{shown_of_row, window_of}
use Rattle.avc_yuv.specs.declared.shown.Window.{Window}
use Rattle.avc_compare.proofs.Meetings.{meets_fault, on_err, row_ends, row_left, row_met, row_place}
use Rattle.avc_compare.proofs.meeting.meet_component.Goals as goal

-- a row of the window
shown_at : (p : Decoded) (c : Component) (of : Window) (n : ℕ) (row : List ℕ) → of ≡ window_of p c → row ≡ shown_of_row p c (of.top + n) → row ≡ shown_of_row p c ((window_of p c).top + n)
shown_at p c of n row is row_is = row_is ∙ ap (λ (w : Window). shown_of_row p c (w.top + n)) is

low_at : (p : Decoded) (c : Component) (of : Window) (n : ℕ) → of ≡ window_of p c → n < of.height → n < (window_of p c).height
low_at p c of n is low = omega (arith, low, ap (λ (w : Window). w.height) is)

pub meet_row-requires-clause-within : goal.meet_row-requires-clause-within
meet_row-requires-clause-within g c =
    let p = c.args.picture.now in
    let of = c.window_of-of.result in
    row_left p c.args.component c.args.left c.rows.met c.rows.number c.shown_row-row.result.now c.requires.within c.rows.invariant.place
    (low_at p c.args.component of c.rows.number c.window_of-of.ensures.window c.rows-test.true)
    (shown_at p c.args.component of c.rows.number _ c.window_of-of.ensures.window c.shown_row-row.ensures.row)

pub returns-in_err-more-clause-err : goal.returns-in_err-more-clause-err
returns-in_err-more-clause-err g c =
    on_err c.from_residual.result (meets_fault _ c.args.left c.rows.met _ _ _ _ _ c.rows.invariant.met c.in_err-more.ensures.err)

pub returns-then-more-row-clause-ok : goal.returns-then-more-row-clause-ok
returns-then-more-row-clause-ok g c =
    let p = c.args.picture.now in
    let low = low_at p c.args.component c.window_of-of.result c.rows.number c.window_of-of.ensures.window c.rows-test.true in
    let row = shown_at p c.args.component c.window_of-of.result c.rows.number _ c.window_of-of.ensures.window c.shown_row-row.ensures.row in
    row_ends p c.args.component c.args.left c.rows.number _ _ _ _ _ low
    (row_met p c.args.component c.args.left c.rows.number c.rows.met c.in_ok-more.more c.shown_row-row.result.now _ _ _ _ _ _ c.rows.invariant.place row c.rows.invariant.met c.in_ok-more.ensures.ok)

pub rows-preserved : goal.rows-preserved
rows-preserved g c =
    let p = c.args.picture.now in
    let row = shown_at p c.args.component c.window_of-of.result c.rows.number _ c.window_of-of.ensures.window c.shown_row-row.ensures.row in
    let whole : c.in_ok-more.more ≡ length c.shown_row-row.result.now = omega (arith, c.in_ok-more.ensures.ok.within, c.if-more-row.false) in
    record {
      place = row_place p c.args.component c.rows.number c.rows.met c.in_ok-more.more c.shown_row-row.result.now c.rows.invariant.place row whole;
      met = row_met p c.args.component c.args.left c.rows.number c.rows.met c.in_ok-more.more c.shown_row-row.result.now _ _ _ _ _ _ c.rows.invariant.place row c.rows.invariant.met c.in_ok-more.ensures.ok;
    }
