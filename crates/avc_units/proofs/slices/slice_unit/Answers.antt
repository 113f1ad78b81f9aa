use Rattle.avc_units.proofs.SetUnits.{sym, ◌∙◌, sets_after, open_picture_in, slice_or_start-read, slice_or_start-under}
use Rattle.avc_units.proofs.slices.slice_unit.Goals as goal

pub returns-then-context-starts-clause-step : goal.returns-then-context-starts-clause-step
returns-then-context-starts-clause-step c =
    c.slice_or_start.ensures
    ∙ slice_or_start-read c.args.context.running c.args.idr (open_picture_in c.args.context) (sets_after c.args.table.now) c.args.unit.now c.in-Some.rbsp c.as_slice.result.now c.can_start-starts.result c.in_ok-read-in-Some.read
    c.requires.allowed c.requires.kind (sym c.in_ok-rbsp.ensures.value ∙ c.in-Some.is) c.as_slice.ensures c.can_start-starts.ensures c.in_ok-read-in-Some.ensures.slice

pub returns-then-context-starts-clause-slice : goal.returns-then-context-starts-clause-slice
returns-then-context-starts-clause-slice c =
    slice_or_start-under c.slice_or_start.result c.args.context.running (open_picture_in c.args.context) c.can_start-starts.result c.in_ok-read-in-Some.read (sets_after c.args.table.now)
    c.slice_or_start.ensures c.in_ok-read-in-Some.ensures.kept
