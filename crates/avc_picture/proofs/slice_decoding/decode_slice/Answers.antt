use Rattle.avc_picture.proofs.Slices.{◌≡◌, ◌*◌, Err, refl, arith, rules, size_in_mbs, slice_qp, abs-within, can-have-first, refused-by-address, refused-by-list, slice-empty, slice-refused, slice-through}
use Rattle.avc_picture.proofs.slice_decoding.decode_slice.Goals as goal

pub returns-in_err-check_address-clause-state : goal.returns-in_err-check_address-clause-state
returns-in_err-check_address-clause-state g c = λ indices so_far stand well.
    let f = c.in_err-check_address.field-0.0 in
    let e : c.from_residual.result ≡ Err f = search rules in
    rw e (refused-by-address well c.args.slice.now f c.in_err-check_address.ensures)

pub returns-in_err-places-clause-state : goal.returns-in_err-places-clause-state
returns-in_err-places-clause-state g c = λ indices so_far stand well.
    let f = c.in_err-places.field-0.0 in
    let e : c.from_residual-in_err-places.result ≡ Err f = search rules in
    rw e (refused-by-list well c.args.slice.now f c.in_ok-check_address.ensures (c.in_err-places.ensures.list c.args.pps.now indices stand))

pub returns-in_err-more-clause-state : goal.returns-in_err-more-clause-state
returns-in_err-more-clause-state g c = λ indices so_far stand well.
    let f = c.in_err-more.field-0.0 in
    let e : c.from_residual-in_err-more.result ≡ Err f = search rules in
    rw e (slice-refused c.args.sps.now c.args.pps.now c.args.frames.now c.args.slice.now c.args.number c.args.read.now c.args.macroblocks.now c.slice_data-unread.result
    c.in_ok-places.places c.slice_data-unread.ensures c.in_ok-places.ensures.list c.in_ok-check_address.ensures indices so_far stand well
    f c.next_macroblock.new.unread c.in_err-more.ensures)

pub returns-then-not-more-clause-state : goal.returns-then-not-more-clause-state
returns-then-not-more-clause-state g c =
    λ indices so_far stand well. slice-empty c.args.sps.now c.args.pps.now c.args.frames.now c.args.slice.now c.args.number c.args.read.now c.args.macroblocks.now
    c.slice_data-unread.result c.in_ok-places.places c.slice_data-unread.ensures c.in_ok-places.ensures.list c.in_ok-check_address.ensures indices so_far stand well
    c.next_macroblock.new.unread (rw (c.if-not-more.true) at c.in_ok-more.ensures)

pub decode_macroblocks-requires : goal.decode_macroblocks-requires
decode_macroblocks-requires g c =
    let w = c.requires.some in
    let h = c.requires.header in
    let places = c.in_ok-places.ensures in
    let qp = abs-within 51 (slice_qp c.args.pps.now c.args.slice.now.header.slice_qp_delta) h.qp_low h.qp_high in
    let m = c.args.macroblocks.now in
    let area : m.canvas.width * m.canvas.height ≡ size_in_mbs c.args.sps.now = rw (c.requires.width, c.requires.height) refl in
    let first = can-have-first c.args.sps.now c.args.pps.now c.args.frames.now c.args.slice.now c.args.number c.args.read.now m c.slice_data-unread.result c.in_ok-places.places
    c.slice_data-unread.ensures places.list c.in_ok-check_address.ensures w.indices w.so_far w.stand w.well places.long places.within qp
    c.next_macroblock.new.current c.next_macroblock.new.unread (rw (c.if-not-more.false) at c.in_ok-more.ensures) in
    (omega arith, (omega arith, (rw (c.requires.width, c.requires.height) c.requires.frames, (places.within, (h.deblocking, (h.weights, (first, (w.well.reached, omega (arith, c.requires.sps.size)))))))))

pub returns-clause-state : goal.returns-clause-state
returns-clause-state g c = λ indices so_far stand well.
    let places = c.in_ok-places.ensures in
    let qp = abs-within 51 (slice_qp c.args.pps.now c.args.slice.now.header.slice_qp_delta) c.requires.header.qp_low c.requires.header.qp_high in
    slice-through c.args.sps.now c.args.pps.now c.args.frames.now c.args.slice.now c.args.number c.args.read.now c.args.macroblocks.now c.slice_data-unread.result
    c.in_ok-places.places c.slice_data-unread.ensures places.list c.in_ok-check_address.ensures indices so_far stand well places.long places.within qp
    c.next_macroblock.new.current c.next_macroblock.new.unread (rw (c.if-not-more.false) at c.in_ok-more.ensures)
    c.decode_macroblocks.result c.decode_macroblocks.new.read c.decode_macroblocks.new.macroblocks c.decode_macroblocks.ensures.answer
