use Rattle.avc_tools.proofs.Taking.{◌≡◌, ◌∷◌, [], ◌++◌, ℕ, List, ap, ◌∙◌, sym, append-nil, flat_map, flat_map-append, Unit, line_of_unit, all_taken, one_more}
use Rattle.avc_tools.proofs.units.lines_of_units_left.Goals as goal

line_more : (line : Unit → List ℕ) (done : List Unit) (u : Unit) (old new : List ℕ) → new ≡ old ++ line u → old ≡ flat_map line done → new ≡ flat_map line (done ++ u ∷ [])
line_more line done u old new added so_far =
    added ∙ ap (λ l. l ++ line u) so_far ∙ ap (λ l. flat_map line done ++ l) (sym (append-nil (line u))) ∙ sym (flat_map-append line done (u ∷ []))

pub loop-unit-preserved-in_ok-add_line : goal.loop-unit-preserved-in_ok-add_line
loop-unit-preserved-in_ok-add_line g c = record {
  draining =
      one_more 1 _ _ _ _ c.in-Some.unit _ _ c.loop-unit.invariant.draining c.requires c.next_unit.ensures.unit c.next_unit.ensures.taken c.in-Some.is
      (λ done so_far. line_more (line_of_unit g.F.ListingForm.of_unit) done c.in-Some.unit _ _ c.in_ok-add_line.ensures so_far);
}

pub loop-unit-preserved : goal.loop-unit-preserved
loop-unit-preserved g c = record {
  draining =
      one_more 1 _ _ _ _ c.in-Some.unit _ _ c.loop-unit.invariant.draining c.requires c.next_unit.ensures.unit c.next_unit.ensures.taken c.in-Some.is
      (λ done so_far. line_more (line_of_unit g.F.ListingForm.of_unit) done c.in-Some.unit _ _ c.in_ok-add_line.ensures so_far);
}

pub returns : goal.returns
returns g c =
    let all = all_taken 1 _ _ _ _ _ c.loop-unit.invariant.draining c.requires c.next_unit.ensures.unit c.next_unit.ensures.taken c.in_default.is in
    record { text = all.0; taken = all.1 }
