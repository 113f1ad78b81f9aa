use Rattle.avc_make_headers.proofs.Headers.{bits_of, chroma_se, flag_bits, puts_then, same_i32, se_word, small_se}
use Rattle.avc_make_headers.proofs.pps_writing.put_quantisation.Goals as goal

pub se-requires : goal.se-requires
se-requires c =
    let is = small_se c.args.pps.now.pic_init_qp_minus26 c.requires.qp_low c.requires.qp_high in
    rw (same_i32 _ is) is.0

pub se-requires-2 : goal.se-requires-2
se-requires-2 c =
    let is = small_se c.args.pps.now.pic_init_qs_minus26 c.requires.qs_low c.requires.qs_high in
    rw (same_i32 _ is) is.0

pub se-requires-3 : goal.se-requires-3
se-requires-3 c =
    let is = chroma_se c.args.pps.now.chroma_qp_index_offset c.requires.chroma_low c.requires.chroma_high in
    rw (same_i32 _ is) is.0

pub returns : goal.returns
returns c =
    let p = c.args.pps.now in
    let qp = same_i32 p.pic_init_qp_minus26 (small_se _ c.requires.qp_low c.requires.qp_high) in
    let qs = same_i32 p.pic_init_qs_minus26 (small_se _ c.requires.qs_low c.requires.qs_high) in
    let chroma = same_i32 p.chroma_qp_index_offset (chroma_se _ c.requires.chroma_low c.requires.chroma_high) in
    puts_then c.args.maker.now _ _ (flag_bits p.weighted_pred_flag) _ c.in_ok-flag.ensures
    (puts_then _ _ _ (bits_of 2 p.weighted_bipred_idc) _ c.in_ok-put.ensures
    (puts_then _ _ _ (se_word p.pic_init_qp_minus26) _ (rw qp at c.in_ok-se.ensures)
    (puts_then _ _ _ (se_word p.pic_init_qs_minus26) _ (rw qs at c.in_ok-se-2.ensures)
    (rw chroma at c.in_ok-se-3.ensures))))
