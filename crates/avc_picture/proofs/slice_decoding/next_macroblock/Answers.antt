use Rattle.avc_picture.proofs.Slices.{◌≡◌, rules, sym, subst, ◌∙◌, List, take, Option, Some, None, Result, Ok, Err, Fault, Mb, PicMb, SliceStart, SliceData, Follows, rest_of}
use Rattle.avc_picture.proofs.Slices.{IsHandedOut, handed_out}
use Rattle.avc_picture.proofs.slice_decoding.next_macroblock.Goals as goal

-- What is handed out behind what changes nothing in the rest is handed out.
handed-later : (s : SliceStart) (before : List PicMb) (out : Result (Option Mb) Fault) (old mid new : SliceData) → rest_of s before old ≡ rest_of s before mid
    → IsHandedOut s before out mid new → IsHandedOut s before out old new
handed-later s before (Ok (Some mb)) old mid new same handed = (same ∙ handed.0, handed.1, handed.2)
handed-later s before (Ok None) old mid new same handed = (same ∙ handed.0, handed.1, handed.2)
handed-later s before (Err f) old mid new same handed = (same ∙ handed.0, handed.1, handed.2)

pub returns-in_err-begin_run : goal.returns-in_err-begin_run
returns-in_err-begin_run g c = λ d names s holds width slice follows.
    let f = c.in_err-begin_run.field-0.0 in
    let e : c.from_residual.result ≡ Err f = search rules in
    rw e (c.in_err-begin_run.ensures s (take c.args.macroblocks.now.next d.mbs) follows)

pub returns-then-read_skipped : goal.returns-then-read_skipped
returns-then-read_skipped g c = λ d names s holds width slice follows.
    let before = take c.args.macroblocks.now.next d.mbs in
    let run = c.in_ok-begin_run.ensures s before follows in
    handed-later s before (Ok (Some c.read_skipped.new.self)) c.args.unread.now c.begin_run.new.self c.read_skipped.new.unread run.0
    (c.read_skipped.ensures.skipped c.if-read_skipped.true s before run.1)

pub returns : goal.returns
returns g c = λ d names s holds width slice follows.
    let before = take c.args.macroblocks.now.next d.mbs in
    let run = c.in_ok-begin_run.ensures s before follows in
    let same = c.read_skipped.ensures.other c.if-read_skipped.false in
    handed-later s before (handed_out c.read.result c.read.new.self) c.args.unread.now c.begin_run.new.self c.read.new.unread run.0
    (subst (λ u. IsHandedOut s before (handed_out c.read.result c.read.new.self) u c.read.new.unread) same
    (c.read.ensures s before (subst (Follows s before) (sym same) run.1) (c.left_and_above.ensures.left d names s holds width slice)
    (c.left_and_above.ensures.up d names s holds width slice)))
