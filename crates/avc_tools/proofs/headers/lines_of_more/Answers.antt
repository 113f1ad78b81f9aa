use Rattle.avc_tools.proofs.Taking.{ap, ◌∙◌, arith, max_unit, after_units_left, header_lines_added, shown_again}
use Rattle.avc_tools.proofs.headers.lines_of_more.Goals as goal

pub returns : goal.returns
returns g c =
    let left = c.in_ok-take_more.ensures.left in
    let taken = c.in_ok-lines.ensures.taken in
    record {
      taken = taken ∙ ap (after_units_left max_unit) c.in_ok-take_more.ensures.came;
      shown = shown_again max_unit _ _ _ _ _ c.requires left taken c.in_ok-lines.ensures.sets;
      added = λ short.
          header_lines_added g.F.ListingForm.of_header max_unit _ _ _ _ _ c.requires left taken
          (ap (λ v. v.items) c.into_bytes.ensures.value ∙ c.in_ok-lines.ensures.text) (omega (arith, short));
    }
