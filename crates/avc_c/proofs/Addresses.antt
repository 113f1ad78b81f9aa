-- The machine values of a decoder's address. Assumes `Logic`.
use Rattle.avc_c.proofs.Common.{◌≡◌, ℕ, List, [], ◌∷◌, ◌++◌, refl, subst, lit<, Ura, impl, tnil, dnil, bare, T, true, ◌&&◌, Val, vptr, vnull, vstruct, of_list}
use Rattle.avc_c.proofs.Common.{has_ty, WT, never, fst∗, Logic, sem, RattleType, Valss, RawPtr, lone, Ptr, block_ptr, null_ptr, ptr_val, in_a_block, nothing}
use Rattle.avc_c.proofs.Common.{layout, within, shape, to, Option, Some, None, IsOpen, box_owns, ghosts, Al, handle_tells, Good, and_tt, OpenDecoder}
use types.Kit.{Item, Goal, Seq, Step, step, ‵, ◌$◌, move, drop, fsplit, fjoin, fpick, fpack, rewrite, feq_i, feq_l}
use Rattle.std.specs.contracts.alloc.Global as global
use Rattle.std.proofs.alloc.Global.TheLaws as global_laws
use Rattle.avc_c.proofs.RawBoxes.{two}
use Rattle.avc_c.specs.Owned.{owned}
use Rattle.avc_c.specs.contracts.address.OpenDecoder as open_decoder
use Rattle.avc_c.specs.contracts.address.DecoderAddress as decoder_address

-- the decoder, the heap and the address as rows
abbrev pub R : RattleType
R = open_decoder.the_row

abbrev pub Z : RattleType
Z = global.the_row

abbrev pub Address : RattleType
Address = decoder_address.the_row

-- the heap as an allocator whose calls are not used
abbrev pub heap : Al
heap = record { row = Z; laws = global_laws.the_row_laws; g = ghosts; d = impl [] tnil dnil; drops = impl [] tnil dnil }

pub null_typed : (h : Val) → Good (layout Z) h → T (has_ty (layout Z) h && true) × WT (two vnull h)
null_typed h good = (and_tt (has_ty (layout Z) h) good.0, (record { fits = lit< tt }, (good.1, tt)))

-- an address and the heap's handle are such a struct
pub at_typed : (p : Ptr) (h : Val) → Good (layout Z) h → Good (layout Address) (two (ptr_val p) h)
at_typed (block_ptr b o) h good = (and_tt (has_ty (layout Z) h) good.0, (tt, (good.1, tt)))
at_typed null_ptr h good = null_typed h good

-- the decoder that is there
pub decoder_in : (y : Option OpenDecoder) → IsOpen y → (x : OpenDecoder) × (y ≡ Some x)
decoder_in (Some x) open' = (x, refl)
decoder_in None open' = absurd open'

module _ {M : Type 1} {𝓤 : Ura M} {𝓛 : Logic 𝓤} {K : Type 0} {Γ : List (Item 𝓤)} {G : Goal 𝓤 𝓛.H} where
  -- the address of a decoder holds what a box with it owns, and the handle of the heap
  pub address_out : K → (d : Address.Denot) (vs : List Val) (x : OpenDecoder) → d.decoder ≡ Some x
      → ((b o : ℕ) (h : Val) → vs ≡ two (vptr b o) h ∷ [] → Good (layout Z) h
      → Seq K 𝓛 (‵ (box_owns (ghosts.dealloc_token d.alloc) R (block_ptr b o) x) ∷ ‵ (Z.own_val d.alloc (h ∷ [])) ∷ Γ) G)
      → Seq K 𝓛 (‵ (Address.own_val d vs) ∷ Γ) G
  address_out t d vs x some k =
      fsplit t $ fpick t (λ vss. fsplit t $ feq_l t (λ ev. fsplit t $ feq_l t (λ ep. fsplit t $ handle_tells heap t d.alloc vss.1.0 (λ h ea fits. move t (1 ∷ []) $ drop t $ move t (1 ∷ []) $
      rewrite t 0 (λ (y : Option OpenDecoder). ‵ (owned d.alloc d.at y)) some refl $
      in_a_block t d.at (λ p. box_owns (ghosts.dealloc_token d.alloc) R p x) (fst∗ 𝓤 (never 𝓤) (sem 𝓛 (ghosts.dealloc_token d.alloc (bare (lone R.mir)) null_ptr))) (λ b o e. k b o h
      (subst (λ (p : Ptr). vs ≡ two (ptr_val p) h ∷ []) e
      (subst (λ (ws : List Val). vs ≡ vstruct (of_list (ptr_val d.at ∷ (ws ++ []))) ∷ []) ea (subst (λ (ps : List Val). vs ≡ vstruct (of_list (ps ++ (vss.1.0 ++ []))) ∷ []) ep ev))) fits)))))

  -- the handle of the heap alone
  pub address_apart : K → (d : Address.Denot) (vs : List Val)
      → ((h : Val) → vs ≡ two (ptr_val d.at) h ∷ [] → Good (layout Z) h → Seq K 𝓛 (‵ (Z.own_val d.alloc (h ∷ [])) ∷ Γ) G)
      → Seq K 𝓛 (‵ (Address.own_val d vs) ∷ Γ) G
  address_apart t d vs k =
      fsplit t $ fpick t (λ vss. fsplit t $ feq_l t (λ ev. fsplit t $ feq_l t (λ ep. fsplit t $ handle_tells heap t d.alloc vss.1.0 (λ h ea fits. move t (1 ∷ []) $ drop t $ move t (1 ∷ []) $ drop t $
      k h
      (subst (λ (ws : List Val). vs ≡ vstruct (of_list (ptr_val d.at ∷ (ws ++ []))) ∷ []) ea (subst (λ (ps : List Val). vs ≡ vstruct (of_list (ps ++ (vss.1.0 ++ []))) ∷ []) ep ev)) fits))))

  -- an address is made of these, and one of nothing of a handle alone
  pub address_in : K → (p : Ptr) (h : Val) (a : Z.Denot) (y : Option OpenDecoder)
      → Step K 𝓛 (‵ (Address.own_val (record { at = p; alloc = a; decoder = y }) (two (ptr_val p) h ∷ [])) ∷ Γ) G (‵ (owned a p y) ∷ ‵ (Z.own_val a (h ∷ [])) ∷ Γ) G
  address_in t p h a y = step (λ s. let v : Val = two (ptr_val p) h in
      nothing t $ move t (2 ∷ 0 ∷ []) $ fjoin t $ feq_i t (List Val) (ptr_val p ∷ []) (ptr_val p ∷ []) refl $ fjoin t $ feq_i t (List Val) (v ∷ []) (v ∷ []) refl $ fjoin t $
      fpack t (Valss (RawPtr ∷ Z ∷ [])) (within (shape decoder_address.the_type) (to decoder_address.the_type (record { at = p; alloc = a; decoder = y })) (v ∷ [])) (ptr_val p ∷ [], (h ∷ [], tt)) $ fjoin t $ s)
