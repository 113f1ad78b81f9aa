use Rattle.std.proofs.Common.{ap, get_or, inl, inr, sym}
use Rattle.avc_difference.specs.Differences.{no_mark, with_component}
use Rattle.avc_difference.proofs.Counting.{mark_written}
use Rattle.avc_difference.proofs.marks.mark_place.Goals as goal

pub returns-in-Luma-clause-marks : goal.returns-in-Luma-clause-marks
returns-in-Luma-clause-marks c =
    let p = c.args.place in
    let old = get_or c.args.marks.now p.address no_mark in
    λ address inside. mark_written c.args.marks.now p _ c.if-place-marks.true (ap (λ k. with_component k old) (sym c.in-Luma.is)) address

pub returns-in-Cb-clause-marks : goal.returns-in-Cb-clause-marks
returns-in-Cb-clause-marks c =
    let p = c.args.place in
    let old = get_or c.args.marks.now p.address no_mark in
    elim c.in-Cb.is [
      | inl is ↦ λ address inside. mark_written c.args.marks.now p _ c.if-place-marks.true (ap (λ k. with_component k old) (sym is)) address
      | inr is ↦ λ address inside. mark_written c.args.marks.now p _ c.if-place-marks.true (ap (λ k. with_component k old) (sym is)) address
    ]
