-- `of_raw` owns what the box owned.
use Rattle.avc_c.proofs.Common.{◌≡◌, List, [], ◌∷◌, ◌++◌, refl, sym, subst, Val, vptr, SProp, ent, id⊢, emp, ftrue, WpFn, fact, fact_i}
use Rattle.avc_c.proofs.Common.{tables, stop, fld, of_opd, no_more, and_then, returns, enter, agg, sub, whole, owns, types_at, plain}
use Rattle.avc_c.proofs.Common.{block_ptr, nothing, alive, Stays, stay_dropped, walk_of, Some, Goes-blank, proved_at, leaves, ghosts}
use types.Kit.{‵, raw, ◌⊛◌, ◌$◌, ◌∵◌, !, qed, by, move, keep, drop, split, fsplit, fjoin, suffices, use0}
use types.ByLocal.{alloc_all, pass_all, free_all, look_at, get, get_in, sets}
use Rattle.std.proofs.alloc.Global.TheLaws as global_laws
use Rattle.avc_c.proofs.RawBoxes.{two, Apart, is_typed, opened}
use Rattle.avc_c.proofs.Addresses.{R, Z, address_in}
use Rattle.avc_c.specs.contracts.address.DecoderAddress.of_raw.{ended, clauses}
use Rattle.avc_c.specs.contracts.address.DecoderAddress.of_raw.Key.{name as #self}
use Rattle.avc_c.proofs.address.DecoderAddress.of_raw.Statement.{statement}
use Rattle.avc_c.proofs.address.DecoderAddress.of_raw.Code as code

pub of_raw_spec : {M : Type 1} → statement M
of_raw_spec 𝓤 𝓛 𝓜 𝓡 wired =
    let H = 𝓛.H in let 𝓣 = tables 𝓤 H 𝓜 𝓡 𝓡.env in let c = clauses 𝓛 𝓜.mem 𝓡.returns in let fn = code.function in let L = global_laws.the_row_laws in
    let hs : Stays ended.signature.params ended.kept = (stay_dropped (plain (λ _. Apart R Z L ghosts)) ended.kept.0, tt) in
    proved_at 𝓛 ended hs c 𝓜 𝓡 (Goes-blank 𝓛 0 (plain (λ _. Apart R Z L ghosts)) ended.kept.0 (λ κs x f. tt), tt) #self fn (code.unfolded 𝓤 H 𝓜 𝓡 wired) (λ z are.
    let v = z.0.3.0 in let Post : Val → SProp 𝓤 = (walk_of 𝓛 ended hs c).post z in let Run : List Val → SProp 𝓤 = λ ws. WpFn 𝓤 H 𝓣.C 𝓣.Λ fn ws Post in
    qed 𝓛 ((raw (alive 𝓛 ended.signature z.0.0 z.0.1) ⊛ ‵ (owns (types_at ended.signature.params z.0.0) z.0.3 z.0.4)) ∷ ‵ ftrue ∷ []) ∵
    move ! (1 ∷ []) $ drop ! $ split ! $ move ! (1 ∷ []) $ fsplit ! $ opened R Z L ghosts ! v z.0.4.0 (λ b o h e ws fits.
    let w : Val = two (vptr b o) h in let made = is_typed R Z L ghosts b o h fits in
    address_in ! (block_ptr b o) h v.alloc (Some v.value) $
    suffices ! (Run (w ∷ [])) (subst (λ (us : List Val). ent 𝓤 (Run (w ∷ [])) (Run us)) (sym (λ i. ws i ++ [])) (id⊢ 𝓤 (Run (w ∷ [])))) $
    enter ! 𝓣.C 𝓣.Λ fn (w ∷ []) Post $ alloc_all ! (λ l. pass_all ! refl (made, tt) $
    sets ! (of_opd ! (get_in ! (fld ! refl (stop !)) (sub ! 0 refl (whole !)))) refl (tt, tt) $ sets ! (of_opd ! (get_in ! (fld ! refl (stop !)) (sub ! 1 refl (whole !)))) refl fits $
    sets ! (of_opd ! (get ! refl)) refl (tt, tt) $ sets ! (agg ! (and_then ! (get ! refl) (and_then ! (get ! refl) (no_more !)))) refl made $
    use0 𝓛 (raw (fact 𝓤 (Some v.value ≡ Some v.value))) (fact_i 𝓤 (Some v.value ≡ Some v.value) (emp 𝓤) refl) $ nothing ! $ nothing ! $ fjoin ! $
    returns ! (look_at ! 0 refl) $ free_all ! refl $ keep ! (4 ∷ 0 ∷ 2 ∷ 1 ∷ []) $
    by ! (leaves 𝓛 ended hs c z w (record { at = block_ptr b o; alloc = v.alloc; decoder = Some v.value }) (tt, tt) (tt, tt)))))
