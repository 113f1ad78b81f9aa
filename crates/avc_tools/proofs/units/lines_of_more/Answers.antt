use Rattle.avc_tools.proofs.Taking.{ap, ◌∙◌, after_units_left, drained, unit_lines_added}
use Rattle.avc_tools.proofs.units.lines_of_more.Goals as goal

pub returns : goal.returns
returns g c =
    let left = c.in_ok-take_more.ensures.left in
    let taken = c.in_ok-lines.ensures.taken in
    record {
      taken = taken ∙ ap (after_units_left 1) c.in_ok-take_more.ensures.came;
      drained = drained 1 _ _ _ left taken;
      added = unit_lines_added g.F.ListingForm.of_unit _ _ _ _ left taken (ap (λ v. v.items) c.into_bytes.ensures.value ∙ c.in_ok-lines.ensures.text);
    }
