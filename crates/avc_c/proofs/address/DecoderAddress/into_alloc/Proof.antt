-- `into_alloc` hands on the heap's handle; an address of nothing owns nothing beside it.
use Rattle.avc_c.proofs.Common.{◌≡◌, List, [], ◌∷◌, ◌++◌, refl, sym, subst, Val, SProp, ent, id⊢, WpFn, tables}
use Rattle.avc_c.proofs.Common.{stop, fld, of_opd, returns, enter, sub, whole, owns, types_at, plain, ptr_val}
use Rattle.avc_c.proofs.Common.{nothing, heard, alive, Stays, stay_dropped, walk_of, Goes-blank, proved_at, leaves, None}
use types.Kit.{‵, raw, ◌⊛◌, ◌$◌, ◌∵◌, !, qed, by, move, keep, split, fsplit, fjoin, suffices}
use types.ByLocal.{alloc_all, pass_all, free_all, look_at, get, get_in, sets}
use Rattle.avc_c.proofs.RawBoxes.{two}
use Rattle.avc_c.proofs.Addresses.{Address, address_apart, at_typed}
use Rattle.avc_c.specs.contracts.address.DecoderAddress.into_alloc.{ended, clauses}
use Rattle.avc_c.specs.contracts.address.DecoderAddress.into_alloc.Key.{name as #self}
use Rattle.avc_c.proofs.address.DecoderAddress.into_alloc.Statement.{statement}
use Rattle.avc_c.proofs.address.DecoderAddress.into_alloc.Code as code

pub into_alloc_spec : {M : Type 1} → statement M
into_alloc_spec 𝓤 𝓛 𝓜 𝓡 wired =
    let H = 𝓛.H in let 𝓣 = tables 𝓤 H 𝓜 𝓡 𝓡.env in let c = clauses 𝓛 𝓜.mem 𝓡.returns in let fn = code.function in
    let hs : Stays ended.signature.params ended.kept = (stay_dropped (plain (λ _. Address)) ended.kept.0, tt) in
    proved_at 𝓛 ended hs c 𝓜 𝓡 (Goes-blank 𝓛 0 (plain (λ _. Address)) ended.kept.0 (λ κs x f. tt), tt) #self fn (code.unfolded 𝓤 H 𝓜 𝓡 wired) (λ z are.
    let v = z.0.3.0 in let Post : Val → SProp 𝓤 = (walk_of 𝓛 ended hs c).post z in let Run : List Val → SProp 𝓤 = λ ws. WpFn 𝓤 H 𝓣.C 𝓣.Λ fn ws Post in
    qed 𝓛 ((raw (alive 𝓛 ended.signature z.0.0 z.0.1) ⊛ ‵ (owns (types_at ended.signature.params z.0.0) z.0.3 z.0.4)) ∷ raw ((c z.0.0 z.0.3).requires z.1) ∷ []) ∵
    move ! (1 ∷ []) $ heard ! (v.decoder ≡ None) (λ none. split ! $ move ! (1 ∷ []) $ fsplit ! $ address_apart ! v z.0.4.0 (λ h ws fits.
    let w : Val = two (ptr_val v.at) h in let made = at_typed v.at h fits in
    suffices ! (Run (w ∷ [])) (subst (λ (us : List Val). ent 𝓤 (Run (w ∷ [])) (Run us)) (sym (λ i. ws i ++ [])) (id⊢ 𝓤 (Run (w ∷ [])))) $
    enter ! 𝓣.C 𝓣.Λ fn (w ∷ []) Post $ alloc_all ! (λ l. pass_all ! refl (made, tt) $
    sets ! (of_opd ! (get_in ! (fld ! refl (stop !)) (sub ! 1 refl (whole !)))) refl fits $
    sets ! (of_opd ! (get ! refl)) refl fits $
    nothing ! $ nothing ! $ nothing ! $ fjoin ! $
    returns ! (look_at ! 0 refl) $ free_all ! refl $ keep ! (4 ∷ 0 ∷ 2 ∷ 1 ∷ []) $
    by ! (leaves 𝓛 ended hs c z h v.alloc (tt, tt) (tt, tt))))))
