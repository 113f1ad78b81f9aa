use Rattle.avc_decoder.proofs.Events.{arith, rules, subst, sym, ◌∙◌, current_in, sets_named, sets_after, base_in, failed_at, IsOpened, current_history, Stops, phase_of}
use Rattle.avc_decoder.proofs.Events.{base_here, named_first, none_open, frames_fit, first_slice_more, first_unopened, open_picture_start}
use Rattle.avc_decoder.proofs.SpareMemory.{first_stays, first_uses}
use Rattle.avc_decoder.proofs.slices.first_slice.Goals as goal

pub begin-requires : goal.begin-requires
begin-requires c =
    let t = c.args.stream.now in
    let sets = c.sets_of-sets in
    let opened = subst (IsOpened t.sequence (open_picture_start sets.result.sps.now c.args.slice.now) c.in-Ok.out.items)
    (sym c.keep_emptied.ensures.sequence) c.in-Ok.ensures.ok in
    let fit = frames_fit t.sequence c.keep_emptied.new.sequence sets.result.sps.now c.args.slice.now
    c.in-Ok.out.items c.frames_for-frames.result.now opened c.frames_for-frames.ensures.value
    c.frames_for-frames.ensures.sized in
    (omega arith, (omega arith, (omega arith, (omega arith, (sets.ensures.sps, (sets.ensures.pps, fit))))))

pub returns-in_ok-decode_slice-in-Ok-clause-state : goal.returns-in_ok-decode_slice-in-Ok-clause-state
returns-in_ok-decode_slice-in-Ok-clause-state c =
    let t = c.args.stream.now in
    let t' = c.decode_slice.new.stream in
    let slice = c.args.slice.now in
    let sets = c.sets_of-sets in
    let sps = sets.result.sps.now in
    let pps = sets.result.pps.now in
    let frames = c.frames_for-frames.result.now in
    let opened = subst (IsOpened t.sequence (open_picture_start sps slice) c.in-Ok.out.items)
    (sym c.keep_emptied.ensures.sequence) c.in-Ok.ensures.ok in
    let d = c.in_ok-decode_slice-in-Ok.ensures.state in
    first_slice_more c.missing_numbers_keep_the_order.ensures t.sequence c.keep_emptied.new.sequence t'.sequence t.queue
    c.show.new.self t'.queue t.read t'.read t.table t'.table sps pps frames slice c.in-Ok.out.items
    (base_in (phase_of t.sequence t.phase)) (record
    { decoder = c.in_ok-begin-in-Ok.field-0; last_header = c.new.result; last_unit = slice.unit }) t'.phase
    (base_here t.sequence t.phase c.requires.phase c.requires.rest)
    (sym c.get.ensures ∙ c.if-get-ne0.false) opened c.in_ok-show-in-Ok.ensures c.in_ok-begin-in-Ok.ensures.begun d.0.0
    d.0.1 d.1
    sets.ensures.named (named_first (sets_after t.table) slice sps pps frames c.requires.within sets.ensures.named)

pub returns-in_ok-fail-in-Err-Fault-clause-state : goal.returns-in_ok-fail-in-Err-Fault-clause-state
returns-in_ok-fail-in-Err-Fault-clause-state c =
    let t = c.args.stream.now in
    let t' = c.fail-in-Err-Fault.new.stream in
    let sets = c.sets_of-sets in
    let w = c.in_ok-fail-in-Err-Fault.ensures.state in
    let stops : Stops c.open.new.self.output t.queue
    (failed_at c.open.new.self.output (current_history c.open.new.self) c.args.slice.now.unit c.in-Err-Fault.fault
    0).events t'.sequence t'.phase t'.queue = search rules in
    first_unopened t t' c.open.new.self sets.result.sps.now sets.result.pps.now c.args.slice.now
    (base_in (phase_of t.sequence t.phase)) (base_here t.sequence t.phase c.requires.phase c.requires.rest)
    (none_open t.sequence t.phase c.requires.phase c.requires.rest) (sym c.get.ensures ∙ c.if-get-ne0.false)
    c.in-Err-Fault.ensures.err c.in-Err-Fault.field-0-is (stops, w.1, w.2) sets.ensures.named

pub returns-then-get-ne0-clause-memory : goal.returns-then-get-ne0-clause-memory
returns-then-get-ne0-clause-memory c =
    let t = c.args.stream.now in
    first_stays (sets_named (sets_after t.table) c.args.slice.now.header) (current_in t.phase) t.memory
    c.fail.new.stream.memory c.requires.rest c.in_ok-fail.ensures.memory

pub returns-in_ok-fail-in-Err-Fault-clause-memory : goal.returns-in_ok-fail-in-Err-Fault-clause-memory
returns-in_ok-fail-in-Err-Fault-clause-memory c =
    let t = c.args.stream.now in
    first_stays (sets_named (sets_after t.table) c.args.slice.now.header) (current_in t.phase) t.memory
    c.fail-in-Err-Fault.new.stream.memory c.requires.rest c.in_ok-fail-in-Err-Fault.ensures.memory

pub returns-in_ok-decode_slice-in-Ok-clause-memory : goal.returns-in_ok-decode_slice-in-Ok-clause-memory
returns-in_ok-decode_slice-in-Ok-clause-memory c =
    let t = c.args.stream.now in
    let sets = c.sets_of-sets in
    rw sets.ensures.named
    (first_uses sets.result.sps.now sets.result.pps.now c.frames_for-frames.result.now (record
    { decoder = c.in_ok-begin-in-Ok.field-0; last_header = c.new.result; last_unit = c.args.slice.now.unit })
    t.memory c.keep_emptied.new.memory c.begin.new.memory c.decode_slice.new.stream.memory c.keep_emptied.ensures.memory
    c.in_ok-begin-in-Ok.ensures.begun c.in_ok-begin-in-Ok.ensures.kept c.in_ok-decode_slice-in-Ok.ensures.memory)
