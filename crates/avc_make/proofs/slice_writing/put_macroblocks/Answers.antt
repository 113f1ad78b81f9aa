use Rattle.avc_make.proofs.Slices.{drop, refl, ap, ◌∙◌, sym, subst, drop_of_length-le, own_start, IsAt, is_at, put_end, put_next}
use Rattle.avc_make.proofs.Slices.{put_none, stands_at}
use Rattle.avc_make.proofs.slice_writing.put_macroblocks.Goals as goal

pub each-init : goal.each-init
each-init c = put_none c.args.slice.now c.args.maker.now c.args.row.now c.first_context-first.result.qp c.requires.slice c.requires.going c.requires.row c.first_context-first.ensures.qp

pub put_macroblock-requires-clause-stands : goal.put_macroblock-requires-clause-stands
put_macroblock-requires-clause-stands c =
    let here = subst (λ l. IsAt l c.each.mb-index c.mb-item.result) c.as_slice-mb-items.ensures (is_at _ c.each.mb-index _ c.each-test.true c.mb-item.is) in
    let beside = c.context_beside-context.ensures (own_start c.args.slice.now) _ c.first_context-first.ensures.own c.each.invariant.told in
    stands_at c.each.invariant here beside (ap (λ v. v.syntax) c.mb.view_is)

pub each-preserved : goal.each-preserved
each-preserved c =
    let here = subst (λ l. IsAt l c.each.mb-index c.mb-item.result) c.as_slice-mb-items.ensures (is_at _ c.each.mb-index _ c.each-test.true c.mb-item.is) in
    let beside = c.context_beside-context.ensures (own_start c.args.slice.now) _ c.first_context-first.ensures.own c.each.invariant.told in
    let syntax = ap (λ v. v.syntax) c.mb.view_is in
    let told = c.put_info.ensures (own_start c.args.slice.now) _ c.mb-item.result refl (sym syntax) c.each.invariant.told in
    put_next c.each.invariant here beside syntax c.in_ok-put_macroblock.ensures.1 told c.run_after-run.ensures.value c.run_after-run.ensures.few
    (ap (λ v. v.qp) c.mb.view_is)

pub returns : goal.returns
returns c =
    let none = ap (drop c.each.mb-index) (sym c.as_slice-mb-items.ensures) ∙ drop_of_length-le c.as_slice-mb-items.result.now c.each-test.false in
    (c.requires.going, put_end c.each.invariant none c.first_context-first.ensures.own.is_p c.in_ok-put_last_run.ensures.1)
