-- The machine values of a box that is taken apart: a struct of an address and an allocator's handle. Assumes `Logic`.
use Rattle.avc_c.proofs.Common.{◌≡◌, ℕ, List, [], ◌∷◌, ◌++◌, refl, subst, true, ◌&&◌, T, Ura, impl, tnil, dnil, bare, Val, vptr, vstruct, vcons, vnil, of_list}
use Rattle.avc_c.proofs.Common.{has_ty, WT, never, fst∗, Logic, sem, RattleType, Valss, RawPtr, lone, Ptr, block_ptr, null_ptr, ptr_val, in_a_block, nothing}
use Rattle.avc_c.proofs.Common.{layout, Laws, within, shape, Al, handle_tells, Good, box_owns, and_tt}
use types.Kit.{Item, Goal, Seq, Step, step, ‵, ◌$◌, move, drop, fsplit, fjoin, fpick, fpack, feq_i, feq_l}
use Rattle.core.specs.declared.alloc.Allocator.{Ghosts}
use Rattle.avc_c.specs.contracts.raw_box.RawBox as raw_box

-- a struct of two fields
abbrev pub two : Val → Val → Val
two first second = vstruct (vcons first (vcons second vnil))

module _ (R Z : RattleType) (L : Laws Z) (g : Ghosts Z.Denot) where
  -- the struct, as a row
  abbrev pub Apart : RattleType
  Apart = raw_box.the_row R Z g

  -- the handle as an allocator whose calls are not used
  abbrev handle : Al
  handle = record { row = Z; laws = L; g = g; d = impl [] tnil dnil; drops = impl [] tnil dnil }

  -- an address and a handle of its type are such a struct
  pub is_typed : (block offset : ℕ) (h : Val) → Good (layout Z) h → T (has_ty (layout Z) h && true) × WT (two (vptr block offset) h)
  is_typed block offset h good = (and_tt (has_ty (layout Z) h) good.0, (tt, (good.1, tt)))

  module _ {M : Type 1} {𝓤 : Ura M} {𝓛 : Logic 𝓤} {K : Type 0} {Γ : List (Item 𝓤)} {G : Goal 𝓤 𝓛.H} where
    -- it holds the value in its block with the right to free it, and the handle
    pub opened : K → (d : Apart.Denot) (vs : List Val)
        → ((block offset : ℕ) (h : Val) → d.at ≡ block_ptr block offset → vs ≡ two (vptr block offset) h ∷ [] → Good (layout Z) h
        → Seq K 𝓛 (‵ (box_owns (g.dealloc_token d.alloc) R (block_ptr block offset) d.value) ∷ ‵ (Z.own_val d.alloc (h ∷ [])) ∷ Γ) G)
        → Seq K 𝓛 (‵ (Apart.own_val d vs) ∷ Γ) G
    opened t d vs then =
        let token = g.dealloc_token d.alloc in let no_null = fst∗ 𝓤 (never 𝓤) (sem 𝓛 (token (bare (lone R.mir)) null_ptr)) in
        fsplit t $ fpick t (λ parts. fsplit t $ feq_l t (λ whole. fsplit t $ feq_l t (λ address. fsplit t $
        handle_tells handle t d.alloc parts.1.0 (λ h only good. move t (1 ∷ 2 ∷ 0 ∷ []) $ drop t $
        in_a_block t d.at (λ p. box_owns token R p d.value) no_null (λ block offset at.
        let by_address : vs ≡ vstruct (of_list (ptr_val d.at ∷ (parts.1.0 ++ []))) ∷ [] = subst (λ (ps : List Val). vs ≡ vstruct (of_list (ps ++ (parts.1.0 ++ []))) ∷ []) address whole in
        let by_handle : vs ≡ two (ptr_val d.at) h ∷ [] = subst (λ (hs : List Val). vs ≡ vstruct (of_list (ptr_val d.at ∷ (hs ++ []))) ∷ []) only by_address in
        then block offset h at (subst (λ (p : Ptr). vs ≡ two (ptr_val p) h ∷ []) at by_handle) good)))))

    -- and from these it is made
    pub closed : K → (block offset : ℕ) (h : Val) (a : Z.Denot) (x : R.Denot)
        → Step K 𝓛 (‵ (Apart.own_val (record { at = block_ptr block offset; alloc = a; value = x }) (two (vptr block offset) h ∷ [])) ∷ Γ) G
        (‵ (box_owns (g.dealloc_token a) R (block_ptr block offset) x) ∷ ‵ (Z.own_val a (h ∷ [])) ∷ Γ) G
    closed t block offset h a x = step (λ then.
        let address = vptr block offset in let whole = two address h in
        nothing t $ move t (2 ∷ 0 ∷ []) $ fjoin t $ feq_i t (List Val) (address ∷ []) (address ∷ []) refl $ fjoin t $ feq_i t (List Val) (whole ∷ []) (whole ∷ []) refl $ fjoin t $
        fpack t (Valss (RawPtr ∷ Z ∷ [])) (within (shape (raw_box.the_type R Z g)) (block_ptr block offset, (a, tt)) (whole ∷ [])) (address ∷ [], (h ∷ [], tt)) $ fjoin t $ then)
