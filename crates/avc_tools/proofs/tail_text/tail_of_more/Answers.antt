use Rattle.avc_tools.proofs.Taking.{ap, ◌∙◌, arith, max_unit, after_units_left}
use Rattle.avc_tools.proofs.Tails.{in_tail_again, tail_added}
use Rattle.avc_tools.proofs.tail_text.tail_of_more.Goals as goal

pub returns : goal.returns
returns c =
    let left = c.in_ok-take_more.ensures.left in
    let added = c.in_ok-added.ensures in
    record {
      taken = added.taken ∙ ap (after_units_left max_unit) c.in_ok-take_more.ensures.came;
      tail = λ number h. in_tail_again max_unit number _ _ _ _ _ c.in_ok-added.added.items h left added.taken added.tail;
      added = λ number h short. tail_added max_unit number _ _ _ _ _ c.in_ok-added.added.items h left added.taken added.tail (omega (arith, short));
    }
