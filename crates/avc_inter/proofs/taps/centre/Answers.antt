use Rattle.avc_inter.proofs.SixRows.{◌∙◌, ap, w16, ℤ, FitsSigned, to_z-of_z, ◌>>ℤ◌, clip1, by_pairs, back_pair, still_sum}
use Rattle.avc_inter.proofs.taps.centre.Goals as goal

pub pair-requires-clause-first : goal.pair-requires-clause-first
pair-requires-clause-first c = still_sum _ c.requires.e

pub pair-requires-clause-second : goal.pair-requires-clause-second
pair-requires-clause-second c = still_sum _ c.requires.j

pub pair-requires-2-clause-first : goal.pair-requires-2-clause-first
pair-requires-2-clause-first c = still_sum _ c.requires.f

pub pair-requires-2-clause-second : goal.pair-requires-2-clause-second
pair-requires-2-clause-second c = still_sum _ c.requires.i

pub pair-requires-3-clause-first : goal.pair-requires-3-clause-first
pair-requires-3-clause-first c = still_sum _ c.requires.g

pub pair-requires-3-clause-second : goal.pair-requires-3-clause-second
pair-requires-3-clause-second c = still_sum _ c.requires.h

pub returns : goal.returns
returns c =
    let same = λ (z : ℤ) (h : FitsSigned w16 z). to_z-of_z w16 z h in
    let a = c.pair.ensures in
    let b = c.pair-2.ensures in
    let d = c.pair-3.ensures in
    c.finished.ensures ∙ ap (λ z. clip1 (z >>ℤ 10)) (by_pairs c.args.e c.args.f c.args.g c.args.h c.args.i c.args.j _ _ _ _ _ _ _ _ _ _ _ _
    (same _ c.ranges.e) (same _ c.ranges.f) (same _ c.ranges.g) (same _ c.ranges.h) (same _ c.ranges.i) (same _ c.ranges.j)
    a.value b.value d.value (back_pair _ a.fits) (back_pair _ b.fits) (back_pair _ d.fits))
