use Rattle.avc_inter.proofs.SixRows.{four_words, ◌+◌, slice_index, arith, ap, strided_more, strided_to, begins, line_of_four, room_of_four}
use Rattle.avc_inter.proofs.lines.copy_lines.Goals as goal

pub overflow_mul-from-in-loop-four : goal.overflow_mul-from-in-loop-four
overflow_mul-from-in-loop-four g c = omega (arith, begins _ _ _ _ _ _ c.args.lines.there c.loop-four-test.true)

pub overflow_add-from : goal.overflow_add-from
overflow_add-from g c = omega (arith, begins _ _ _ _ _ _ c.args.lines.there c.loop-four-test.true)

pub overflow_mul-target-in-loop-four : goal.overflow_mul-target-in-loop-four
overflow_mul-target-in-loop-four g c = omega (arith, begins _ _ _ _ _ _ c.requires.room c.loop-four-test.true)

pub overflow_add-target : goal.overflow_add-target
overflow_add-target g c = omega (arith, begins _ _ _ _ _ _ c.requires.room c.loop-four-test.true)

pub invariant_of-next : goal.invariant_of-next
invariant_of-next g c = record { there = room_of_four _ _ _ _ _ _ c.args.lines.there c.loop-four-test.true }

pub copy_near-requires : goal.copy_near-requires
copy_near-requires g c = (
  four_words,
  (
    omega arith,
    record {
      apart = c.requires.apart;
      room = λ y low. omega (arith, c.loop-four.invariant.long, room_of_four _ _ _ _ _ _ c.requires.room c.loop-four-test.true y low);
    },
  ),
)

pub loop-four-preserved : goal.loop-four-preserved
loop-four-preserved g c =
    strided_more _ _ _ _ _ _ _ _ _ _ c.requires.apart c.loop-four.invariant c.copy_near.ensures
    (λ r x low column. ap (λ k. slice_index c.args.lines.samples.now (k + x)) (line_of_four c.args.lines.from.first c.loop-four.four r c.args.lines.from.stride))

pub returns : goal.returns
returns g c = strided_to (omega (arith, c.if-this-ne0.false, c.loop-four-test.false, c.loop-four.auto.four-end)) c.loop-four.invariant
