-- A listing of pictures waits for no macroblock.
use Rattle.std.proofs.Common.{◌≡◌, ℕ, Bool, false, List, [], ◌∷◌, ◌++◌, length, Option, Some, None, ◌||◌, refl, ap, ◌∙◌}
use Rattle.avc_annexb.specs.Units.{units}
use Rattle.avc_annexb.specs.declared.unit.Unit.{Unit}
use Rattle.avc_params.specs.Tables.{sets_after}
use Rattle.avc_params.specs.declared.set_unit.SetUnit.{SetUnit}
use Rattle.avc_units.specs.Grouping.{set_units}
use Rattle.avc_selection.specs.Pictures.{OpenPicture}
use Rattle.avc_selection.specs.Selected.{selection_of}
use Rattle.avc_selection.specs.declared.selection.Selection.{Selection}
use Rattle.avc_reading.specs.Listing.{Brought, brought, has_met, is_met_by, is_met_under, macroblocks, nothing, picture_after, refused}

unmet : (s : Selection) → ((b : Brought) → is_met_by s b ≡ false) → (sets : List SetUnit) (p : Option OpenPicture) (us : List Unit) → is_met_under s sets p us ≡ false
unmet s none sets p [] = refl
unmet s none sets p (u ∷ us) =
    let b = brought (sets_after sets) p u in
    ap (λ x. x || is_met_under s (sets ++ set_units (u ∷ [])) (picture_after p b) us) (none b) ∙ unmet s none (sets ++ set_units (u ∷ [])) (picture_after p b) us

pub never_met : (picture : Option ℕ) (bytes : List ℕ) (ended : Bool) → has_met (selection_of picture) bytes ended ≡ false
never_met picture bytes ended = unmet (selection_of picture) (by picture) [] None (units (length bytes) bytes ended)
  where
    by : (picture : Option ℕ) (b : Brought) → is_met_by (selection_of picture) b ≡ false
    by None nothing = refl
    by None (refused f) = refl
    by None (macroblocks p ms derived) = refl
    by (Some number) nothing = refl
    by (Some number) (refused f) = refl
    by (Some number) (macroblocks p ms derived) = refl
