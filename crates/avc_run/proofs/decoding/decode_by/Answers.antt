use Rattle.avc_run.proofs.Running.{arith, rules, EventsOnlyGrow, length-take, at_end, broken_in, broken_in_front, decodes_err, endless}
use Rattle.avc_run.proofs.Running.{enough, front_taken, lent_then, new_is_drained, one_read, told_then, unread_on}
use Rattle.avc_run.proofs.decoding.decode_by.Goals as goal

pub returns-in_err-len-clause-decodes : goal.returns-in_err-len-clause-decodes
returns-in_err-len-clause-decodes g c =
    let f = g.F.PictureFormat.format c.args.format.now in
    let fault = c.in_err-len.field-0.0 in
    let report = (g.T.Reporter.reported c.pieces.reporting.report.now).report in
    decodes_err f c.args.decoder.now.output c.args.front.now _ _ _ _ report c.from_residual-in_err-len.result fault c.from_residual-in_err-len.ensures.1
    (unread_on f c.args.front.now c.pieces._read c.args.decoder.now.output _ _ _ _ _ c.pieces.decoder report fault c.pieces.invariant.reading c.in_err-len.ensures.err c.in_err-len.ensures.fault)

pub returns-then-len-eq0-clause-decodes : goal.returns-then-len-eq0-clause-decodes
returns-then-len-eq0-clause-decodes g c =
    at_end (g.F.PictureFormat.format c.args.format.now) c.args.front.now c.events_only_grow.ensures c.pieces._read c.args.decoder.now.output _ _ _ _ _ _ c.pieces.decoder c.finish.new.decoder
    (g.T.Reporter.reported c.pieces.reporting.report.now).report (g.T.Reporter.reported c.finish.new.reporting.report.now).report c.in_ok-len.len c.read_once.new.piece c.finish.result c.pieces.invariant.reading
    (search rules) c.in_ok-len.ensures.bytes (search rules) c.finish.ensures.ok c.finish.ensures.err

pub returns-then-len-eq0-clause-told : goal.returns-then-len-eq0-clause-told
returns-then-len-eq0-clause-told g c =
    told_then _ (g.T.Reporter.reported c.pieces.reporting.report.now) (g.T.Reporter.reported c.finish.new.reporting.report.now) _ _ _ c.pieces.invariant.told c.finish.ensures.told

pub returns-in_err-take_in-2-clause-decodes : goal.returns-in_err-take_in-2-clause-decodes
returns-in_err-take_in-2-clause-decodes g c =
    let f = g.F.PictureFormat.format c.args.format.now in
    let grow : EventsOnlyGrow = c.events_only_grow.ensures in
    let fault = c.in_err-take_in-2.field-0.0 in
    let report = (g.T.Reporter.reported c.take_in-in-pieces.new.reporting.report.now).report in
    decodes_err f c.args.decoder.now.output c.args.front.now _ _ _ _ report c.from_residual-in_err-take_in-2.result fault c.from_residual-in_err-take_in-2.ensures.1
    (broken_in f c.args.front.now grow c.pieces._read c.args.decoder.now.output _ _ _ _ _ _ c.pieces.decoder (g.T.Reporter.reported c.pieces.reporting.report.now).report report _ fault
    (omega (arith, length-take c.in_ok-len.len c.read_once.new.piece, c.in_ok-len.ensures.within)) c.pieces.invariant.reading c.in_ok-len.ensures.bytes c.in_err-take_in-2.ensures.err)

pub returns-in_err-take_in-2-clause-told : goal.returns-in_err-take_in-2-clause-told
returns-in_err-take_in-2-clause-told g c =
    told_then _ (g.T.Reporter.reported c.pieces.reporting.report.now) (g.T.Reporter.reported c.take_in-in-pieces.new.reporting.report.now) _ _ _ c.pieces.invariant.told c.take_in-in-pieces.ensures.told

pub returns-then-is_enough-clause-decodes : goal.returns-then-is_enough-clause-decodes
returns-then-is_enough-clause-decodes g c =
    let f = g.F.PictureFormat.format c.args.format.now in
    let grow : EventsOnlyGrow = c.events_only_grow.ensures in
    let report = (g.T.Reporter.reported c.take_in-in-pieces.new.reporting.report.now).report in
    enough f c.args.front.now grow c.pieces._read c.args.decoder.now.output _ _ _ _ _ _ c.pieces.decoder c.take_in-in-pieces.new.decoder (g.T.Reporter.reported c.pieces.reporting.report.now).report report _
    (omega (arith, length-take c.in_ok-len.len c.read_once.new.piece, c.in_ok-len.ensures.within)) c.pieces.invariant.reading c.in_ok-len.ensures.bytes c.in_ok-take_in-2.ensures.ok (search rules)

pub returns-then-is_enough-clause-told : goal.returns-then-is_enough-clause-told
returns-then-is_enough-clause-told g c =
    told_then _ (g.T.Reporter.reported c.pieces.reporting.report.now) (g.T.Reporter.reported c.take_in-in-pieces.new.reporting.report.now) _ _ _ c.pieces.invariant.told c.take_in-in-pieces.ensures.told

pub take_in-requires : goal.take_in-requires
take_in-requires g c = new_is_drained c.args.decoder.now c.args.decoder.now.output c.requires.new

pub returns-in_err-take_in-clause-decodes : goal.returns-in_err-take_in-clause-decodes
returns-in_err-take_in-clause-decodes g c =
    let f = g.F.PictureFormat.format c.args.format.now in
    let fault = c.in_err-take_in.field-0.0 in
    let report = (g.T.Reporter.reported c.take_in.new.reporting.report.now).report in
    decodes_err f c.args.decoder.now.output c.args.front.now _ _ _ _ report c.from_residual.result fault c.from_residual.ensures.1
    (broken_in_front f c.events_only_grow.ensures c.args.decoder.now.output _ _ _ c.args.decoder.now (g.T.Reporter.reported c.args.reporting.now.report.now).report report c.args.front.now fault c.requires.new c.requires.none c.in_err-take_in.ensures.err)

pub pieces-init : goal.pieces-init
pieces-init g c = record {
  reading = front_taken (g.F.PictureFormat.format c.args.format.now) c.events_only_grow.ensures c.args.decoder.now.output _ _ _ c.args.decoder.now c.take_in.new.decoder
      (g.T.Reporter.reported c.args.reporting.now.report.now).report (g.T.Reporter.reported c.take_in.new.reporting.report.now).report c.args.front.now c.requires.new c.requires.none c.in_ok-take_in.ensures.ok;
  told = c.take_in.ensures.told;
  lent = c.take_in.ensures.lent;
}

pub pieces-preserved : goal.pieces-preserved
pieces-preserved g c = record {
  reading = one_read (g.F.PictureFormat.format c.args.format.now) c.args.front.now c.events_only_grow.ensures c.pieces._read c.args.decoder.now.output _ _ _ _ _ _ c.pieces.decoder c.take_in-in-pieces.new.decoder
      (g.T.Reporter.reported c.pieces.reporting.report.now).report (g.T.Reporter.reported c.take_in-in-pieces.new.reporting.report.now).report _ (search rules)
      c.pieces.invariant.reading c.in_ok-len.ensures.bytes c.in_ok-take_in-2.ensures.ok (search rules);
  told = told_then _ (g.T.Reporter.reported c.pieces.reporting.report.now) (g.T.Reporter.reported c.take_in-in-pieces.new.reporting.report.now) _ _ _ c.pieces.invariant.told c.take_in-in-pieces.ensures.told;
  lent = lent_then c.args.reporting.now c.pieces.reporting c.take_in-in-pieces.new.reporting c.pieces.invariant.lent c.take_in-in-pieces.ensures.lent;
}

pub returns-clause-decodes : goal.returns-clause-decodes
returns-clause-decodes g c =
    endless (g.F.PictureFormat.format c.args.format.now) c.args.front.now c.args.decoder.now.output _ _ _ _ c.pieces.decoder (g.T.Reporter.reported c.pieces.reporting.report.now).report c.pieces._read c.pieces.invariant.reading (omega (arith, c.pieces-test.false))
