use Rattle.avc_make_headers.proofs.Headers.{arith, flag_bits, length, puts_then, same_i32, se_word, ue_word}
use Rattle.avc_make_headers.proofs.sps_writing.put_cycle.Goals as goal

pub se-requires : goal.se-requires
se-requires c = rw (same_i32 _ c.requires.non_ref) c.requires.non_ref.0

pub se-requires-2 : goal.se-requires-2
se-requires-2 c = rw (same_i32 _ c.requires.top_to_bottom) c.requires.top_to_bottom.0

pub overflow_cast-offsets : goal.overflow_cast-offsets
overflow_cast-offsets c = rw c.as_slice-offsets.ensures (omega (arith, c.requires.few))

pub ue-requires-2 : goal.ue-requires-2
ue-requires-2 c = rw c.as_slice-offsets.ensures (omega (arith, c.requires.few))

pub put_each-requires-clause-fits : goal.put_each-requires-clause-fits
put_each-requires-clause-fits c = rw c.as_slice-offsets.ensures c.requires.offsets

pub returns : goal.returns
returns c =
    puts_then c.args.maker.now _ _ (ue_word 1) _ c.in_ok-ue.ensures
    (puts_then _ _ _ (flag_bits c.args.always_zero) _ c.in_ok-flag.ensures
    (puts_then _ _ _ (se_word c.args.non_ref) _ (rw (same_i32 _ c.requires.non_ref) at c.in_ok-se.ensures)
    (puts_then _ _ _ (se_word c.args.top_to_bottom) _ (rw (same_i32 _ c.requires.top_to_bottom) at c.in_ok-se-2.ensures)
    (puts_then _ _ _ (ue_word (length c.args.offsets.now)) _ (rw c.as_slice-offsets.ensures at c.in_ok-ue-2.ensures)
    (rw c.as_slice-offsets.ensures at c.in_ok-put_each.ensures)))))
