-- The open picture of a decoder, and what is told of it.
use Rattle.std.proofs.Common.{◌≡◌, ℕ, Bool, true, false, refl, sym, subst, ◌∙◌, List}
use Rattle.std.specs.Prelude.{Option, Some, None, IfSome}
use Rattle.avc_console.specs.Reading.{max_unit}
use Rattle.avc_dpb.specs.declared.output.Output.{Output}
use Rattle.avc_decoder.specs.FirstFault.{OpenPicture}
use Rattle.avc_decoder.specs.Machine.{Machine, open_picture}
use Rattle.avc_decoder.specs.OpenPictures.{IsDecodedBy, IsLent, IsOpenPictureAnswer}
use Rattle.avc_decoder.specs.declared.open_picture.OpenPicture.{OpenPicture as LentPicture}

pub record IsOpened (m : Machine) (lent : LentPicture) : Type 0 where
  pub picture : OpenPicture
  pub is : open_picture max_unit m ≡ Some picture
  pub decoded : IsDecodedBy picture lent.decoder.now lent.frames.now

by_lent : (o p : Option OpenPicture) (m : Machine) (lent : LentPicture) → open_picture max_unit m ≡ p → o ≡ p → IsLent o (Some lent) → IsOpened m lent
by_lent (Some o) p m lent of_m is held = record { picture = o; is = of_m ∙ sym is; decoded = held }
by_lent None p m lent of_m is held = absurd held

by_failed : (output : Output) (bytes : List ℕ) (ended : Bool) (taken : ℕ) (failed : Bool) (lent : LentPicture)
    → IsOpenPictureAnswer max_unit (record { output = output; bytes = bytes; ended = ended; taken = taken; failed = failed }) (Some lent)
    → IsOpened (record { output = output; bytes = bytes; ended = ended; taken = taken; failed = failed }) lent
by_failed output bytes ended taken true lent none = cc
by_failed output bytes ended taken false lent held =
    let m : Machine = record { output = output; bytes = bytes; ended = ended; taken = taken; failed = false } in
    by_lent (open_picture max_unit m) (open_picture max_unit m) m lent refl refl held

-- a picture is open where one is lent
pub opened : (m : Machine) (answer : Option LentPicture) (lent : LentPicture) → IsOpenPictureAnswer max_unit m answer → answer ≡ Some lent → IsOpened m lent
opened m answer lent held is = by_failed m.output m.bytes m.ended m.taken m.failed lent (subst (λ a. IsOpenPictureAnswer max_unit m a) is held)

pub if_some : {A : Type 0} (P Q : A → Type 0) (o : Option A) → ((x : A) → P x → Q x) → IfSome o P → IfSome o Q
if_some P Q None weaker held = held
if_some P Q (Some x) weaker held = weaker x held

pub some_of : {A : Type 0} (P : A → Type 0) (o : Option A) (x : A) → o ≡ Some x → IfSome o P → P x
some_of P o x is held = subst (λ o. IfSome o P) is held
