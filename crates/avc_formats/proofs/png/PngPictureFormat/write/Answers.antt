use Rattle.avc_formats.proofs.Fronts.{◌≡◌, ◌∙◌, ℕ, List, Option, Result, Ok, Err, IfErr, subst, sym, StopsPicture, WritesFirst}
use Rattle.std.specs.Prelude.{Bool}
use Rattle.avc_console.specs.declared.fault.RunFault.{RunFault}
use Rattle.avc_console.specs.declared.fault.RunFault.TheVariants.{Write}
use Rattle.avc_formats.proofs.png.PngPictureFormat.write.Goals as goal

-- a fault of writing this file
file_stopped : (r : Result (Prim.Unit {0}) RunFault) (fits : Bool) (old new : Option (List ℕ)) (written file : List ℕ) → written ≡ file
    → IfErr r (λ fault. (fault ≡ Write) × WritesFirst old new written) → IfErr r (λ fault. StopsPicture fault fits old new file)
file_stopped (Ok done) fits old new written file is h = tt
file_stopped (Err fault) fits old new written file is (by_write, first) =
    subst (λ f. StopsPicture f fits old new file) (sym by_write) (subst (WritesFirst old new) is first)

pub returns-clause-err : goal.returns-clause-err
returns-clause-err g c =
    file_stopped _ _ _ _ _ _ (c.as_slice.ensures.value ∙ c.in_ok-file.ensures) c.write_file.ensures.err
