-- The picture of a slice, and which is listed.
use Rattle.std.proofs.Common.{◌≡◌, ◌+◌, ◌-◌, ◌==◌, ℕ, Bool, true, false, Option, Some, None, Result, Ok, Err, refl, ap, sym, ◌∙◌, subst, arith, if◌then◌else◌, nat_lt, IfOk}
use Rattle.std.proofs.lemmas.Bool.Decides.{nat_tests}
use Rattle.avc_params.specs.declared.sps.Sps.{Sps}
use Rattle.avc_slice.specs.Begins.{begins, begins_after}
use Rattle.avc_slice.specs.declared.header.Header.{Header}
use Rattle.avc_selection.specs.Followed.{IsFollowed, IsOpen, IsPicture, choice_after, choice_at, choice_later, first_choice}
use Rattle.avc_selection.specs.Pictures.{OpenPicture, new_picture, picture_of}
use Rattle.avc_selection.specs.declared.choice.Choice.{Choice}
use Rattle.avc_selection.specs.declared.choice.Choice.TheVariants.{Later, Past}
use Rattle.avc_selection.specs.declared.picture.Picture.{Picture}
use Rattle.avc_selection.specs.declared.selection.Selection.{Selection}
use Rattle.avc_selection.specs.declared.selection.Selection.TheVariants.{Whole, OfPicture, Near}

choice_next : (s : Selection) (number unit next : ℕ) → choice_after s next (choice_at s number unit) ≡ choice_at s (number + 1) next
choice_next Whole number unit next = refl
choice_next (Near m) number unit next = refl
choice_next (OfPicture asked) number unit next = by (nat_lt asked number) refl (nat_lt asked (number + 1)) refl (asked - number == 0) refl
  where
    by : (past : Bool) → nat_lt asked number ≡ past → (next : Bool) → nat_lt asked (number + 1) ≡ next → (here : Bool) → (asked - number == 0) ≡ here
        → choice_later (if past then Past else Later (asked - number)) ≡ (if next then Past else Later (asked - (number + 1)))
    by true e true f h g = refl
    by true e false f h g = absurd (grind (arith, nat_tests, e, f))
    by false e true f true g = rw g refl
    by false e true f false g = absurd (grind (arith, nat_tests, e, f, g))
    by false e false f true g = absurd (grind (arith, nat_tests, e, f, g))
    by false e false f false g = rw g (ap Later (omega arith))

choice_first : (s : Selection) (unit : ℕ) → first_choice s unit ≡ choice_at s 0 unit
choice_first Whole unit = refl
choice_first (Near m) unit = refl
choice_first (OfPicture asked) unit =
    let later : nat_lt asked 0 ≡ false = grind (arith, nat_tests) in
    sym (ap (λ (b : Bool). if b then Past else Later (asked - 0)) later ∙ ap Later (omega arith))

pub begins_stream : {E : Type 0} (asked : Selection) (unit : ℕ) (sps : Sps) (h : Header) (kept : Option Picture) (choice : Choice) (r : Result Picture E) → kept ≡ None
    → IfOk r (λ c. (number : ℕ) → IsPicture (new_picture number unit sps h) c) → IfOk r (λ c. c.unit ≡ unit) → IfOk r (λ c. c.choice ≡ choice) → choice ≡ first_choice asked unit
    → IfOk r (λ c. (p : Option OpenPicture) → IsOpen asked p kept → IsFollowed asked (picture_of p unit sps h) c)
begins_stream asked unit sps h kept choice (Err e) none read at chosen is = tt
begins_stream asked unit sps h kept choice (Ok c) none read at chosen is = λ p is_open. by p (subst (IsOpen asked p) none is_open)
  where
    by : (p : Option OpenPicture) → IsOpen asked p None → IsFollowed asked (picture_of p unit sps h) c
    by None is_open = record { last_is = (read 0).last; unit_is = at; choice_is = chosen ∙ is ∙ choice_first asked unit; listed = λ yes. read 0 }
    by (Some p) is_open = absurd is_open

pub begins_next : {E : Type 0} (asked : Selection) (unit : ℕ) (sps : Sps) (h : Header) (kept : Option Picture) (q : Picture) (choice : Choice) (r : Result Picture E) → kept ≡ Some q
    → begins_after q.last h ≡ true → IfOk r (λ c. (number : ℕ) → IsPicture (new_picture number unit sps h) c) → IfOk r (λ c. c.unit ≡ unit) → IfOk r (λ c. c.choice ≡ choice) → choice ≡ choice_after asked unit q.choice
    → IfOk r (λ c. (p : Option OpenPicture) → IsOpen asked p kept → IsFollowed asked (picture_of p unit sps h) c)
begins_next asked unit sps h kept q choice (Err e) some begun read at chosen is = tt
begins_next asked unit sps h kept q choice (Ok c) some begun read at chosen is = λ p is_open. by p (subst (IsOpen asked p) some is_open)
  where
    by : (p : Option OpenPicture) → IsOpen asked p (Some q) → IsFollowed asked (picture_of p unit sps h) c
    by None is_open = absurd is_open
    by (Some p) f =
        let here : begins p.last h ≡ true = ap (λ l. begins_after l h) (sym f.last_is) ∙ begun in
        subst (λ (b : Bool). IsFollowed asked (if b then new_picture (p.number + 1) unit sps h else record p { last = h }) c) (sym here) (record {
          last_is = (read (p.number + 1)).last;
          unit_is = at;
          choice_is = chosen ∙ is ∙ ap (choice_after asked unit) f.choice_is ∙ choice_next asked p.number p.unit unit;
          listed = λ yes. read (p.number + 1);
        })
