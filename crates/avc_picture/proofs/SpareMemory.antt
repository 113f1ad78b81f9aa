-- What a picture that begins takes of the memory that is left over.
use Rattle.std.proofs.Common.{◌≡◌, ◌∙◌, ◌⊎◌, ℕ, ◌+◌, Some, Result, Ok, Err, arith, inl, inr, sym, ap}
use Rattle.std.proofs.lemmas.Bool.{false≢true}
use Rattle.std.specs.Prelude.{IsErr}
use Rattle.avc_plane.specs.Planes.{Planes}
use Rattle.avc_plane.specs.Spare.{left_over, AreHad}
use Rattle.avc_types.specs.declared.memory.OutOfMemory.{OutOfMemory}
use Rattle.avc_picture.specs.Memory.{MemoryState, AreTaken, LosesNone, TakesMemory, with_info, without_info}

none_used : (a b c : ℕ) → a ≡ b → b ≡ c → a ≡ c + 0
none_used a b c e f = omega (arith, e, f)

-- the planes that are left over are as many in all memories that differ in the info alone
same_planes : (width height : ℕ) (old mid : MemoryState) → mid ≡ without_info old → left_over width height old.planes ≡ left_over width height mid.planes
same_planes width height old mid taken = sym (ap (λ (m : MemoryState). left_over width height m.planes) taken)

-- the picture has its planes
pub has_begun : (width height : ℕ) (old mid new : MemoryState) (p : Planes) → mid ≡ without_info old → AreHad width height mid.planes new.planes p
    → new.info_width ≡ mid.info_width → AreTaken 0 width height old new ⊎ AreTaken 1 width height old new
has_begun width height old mid new p taken (inl used) info = inr (record {
  planes = same_planes width height old mid taken ∙ used;
  info = info ∙ ap (λ (m : MemoryState). m.info_width) taken;
})
has_begun width height old mid new p taken (inr stay) info = inl (record {
  planes = none_used _ _ _ (same_planes width height old mid taken) stay.0;
  info = info ∙ ap (λ (m : MemoryState). m.info_width) taken;
})

-- its info was refused
pub no_info_had : (width height : ℕ) (old new : MemoryState) → new ≡ without_info old → (old.info_width ≡ Some width → ⊥) → LosesNone width height old new
no_info_had width height old new taken none = record { planes = same_planes width height old new taken; info = λ had. absurd (none had) }

-- its planes were
pub no_planes_had : (width height : ℕ) (old mid last new : MemoryState) → mid ≡ without_info old
    → left_over width height last.planes ≡ left_over width height mid.planes → new ≡ with_info width last → LosesNone width height old new
no_planes_had width height old mid last new taken stay kept = record {
  planes = same_planes width height old mid taken ∙ sym stay ∙ sym (ap (λ (m : MemoryState). left_over width height m.planes) kept);
  info = λ had. ap (λ (m : MemoryState). m.info_width) kept;
}

-- said of the answer
pub is_refused : {P : Type 0} (width height : ℕ) (old new : MemoryState) (answer : Result P OutOfMemory) → IsErr answer → LosesNone width height old new
    → TakesMemory width height old answer new
is_refused width height old new (Ok picture) is loses = absurd (false≢true is)
is_refused width height old new (Err refusal) is loses = loses
