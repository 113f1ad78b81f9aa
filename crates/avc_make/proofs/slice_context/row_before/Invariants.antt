use Rattle.avc_make.proofs.Slices.{replicate, own_start, AreInfoOf, skipped}
use Rattle.avc_make.proofs.slice_context.row_before.Given as goal

-- the row has as many macroblocks of slice 0 as were put
abbrev pub invariant-earlier : goal.invariant-earlier
invariant-earlier l = AreInfoOf (own_start l.slice).width (replicate l.counter (record { slice = 0; mb = skipped 0 })) l.row
