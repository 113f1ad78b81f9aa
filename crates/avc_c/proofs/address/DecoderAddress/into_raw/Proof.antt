-- `into_raw` hands on what the state owns.
use Rattle.avc_c.proofs.Common.{◌≡◌, List, [], ◌∷◌, ◌++◌, refl, sym, subst, Val, vptr, SProp, ent, id⊢, emp, WpFn, fact, fact_i, tables}
use Rattle.avc_c.proofs.Common.{stop, fld, of_opd, no_more, and_then, returns, enter, agg, sub, whole, owns, types_at, plain, block_ptr}
use Rattle.avc_c.proofs.Common.{nothing, heard, alive, Stays, stay_dropped, walk_of, Goes-blank, proved_at, leaves, ghosts, Some, IsOpen}
use types.Kit.{‵, raw, ◌⊛◌, ◌$◌, ◌∵◌, !, qed, by, move, keep, split, fsplit, fjoin, suffices, use0}
use types.ByLocal.{alloc_all, pass_all, free_all, look_at, get, get_in, sets}
use Rattle.std.proofs.alloc.Global.TheLaws as global_laws
use Rattle.avc_c.proofs.RawBoxes.{two, is_typed, closed}
use Rattle.avc_c.proofs.Addresses.{R, Z, Address, decoder_in, address_out}
use Rattle.avc_c.specs.contracts.address.DecoderAddress.into_raw.{ended, clauses}
use Rattle.avc_c.specs.contracts.address.DecoderAddress.into_raw.Key.{name as #self}
use Rattle.avc_c.proofs.address.DecoderAddress.into_raw.Statement.{statement}
use Rattle.avc_c.proofs.address.DecoderAddress.into_raw.Code as code

pub into_raw_spec : {M : Type 1} → statement M
into_raw_spec 𝓤 𝓛 𝓜 𝓡 wired =
    let H = 𝓛.H in let 𝓣 = tables 𝓤 H 𝓜 𝓡 𝓡.env in let c = clauses 𝓛 𝓜.mem 𝓡.returns in let fn = code.function in
    let hs : Stays ended.signature.params ended.kept = (stay_dropped (plain (λ _. Address)) ended.kept.0, tt) in
    proved_at 𝓛 ended hs c 𝓜 𝓡 (Goes-blank 𝓛 0 (plain (λ _. Address)) ended.kept.0 (λ κs x f. tt), tt) #self fn (code.unfolded 𝓤 H 𝓜 𝓡 wired) (λ z are.
    let v = z.0.3.0 in let Post : Val → SProp 𝓤 = (walk_of 𝓛 ended hs c).post z in let Run : List Val → SProp 𝓤 = λ ws. WpFn 𝓤 H 𝓣.C 𝓣.Λ fn ws Post in
    qed 𝓛 ((raw (alive 𝓛 ended.signature z.0.0 z.0.1) ⊛ ‵ (owns (types_at ended.signature.params z.0.0) z.0.3 z.0.4)) ∷ raw ((c z.0.0 z.0.3).requires z.1) ∷ []) ∵
    move ! (1 ∷ []) $ heard ! (IsOpen v.decoder) (λ open'. let x = (decoder_in v.decoder open').0 in let some = (decoder_in v.decoder open').1 in split ! $ move ! (1 ∷ []) $ fsplit ! $ address_out ! v z.0.4.0 x some (λ b o h ws fits.
    let w : Val = two (vptr b o) h in let made = is_typed R Z global_laws.the_row_laws ghosts b o h fits in
    closed R Z global_laws.the_row_laws ghosts ! b o h v.alloc x $
    suffices ! (Run (w ∷ [])) (subst (λ (us : List Val). ent 𝓤 (Run (w ∷ [])) (Run us)) (sym (λ i. ws i ++ [])) (id⊢ 𝓤 (Run (w ∷ [])))) $
    enter ! 𝓣.C 𝓣.Λ fn (w ∷ []) Post $ alloc_all ! (λ l. pass_all ! refl (made, tt) $
    sets ! (of_opd ! (get_in ! (fld ! refl (stop !)) (sub ! 0 refl (whole !)))) refl (tt, tt) $ sets ! (of_opd ! (get_in ! (fld ! refl (stop !)) (sub ! 1 refl (whole !)))) refl fits $
    sets ! (of_opd ! (get ! refl)) refl (tt, tt) $ sets ! (agg ! (and_then ! (get ! refl) (and_then ! (get ! refl) (no_more !)))) refl made $
    use0 𝓛 (raw (fact 𝓤 (Some x ≡ v.decoder))) (fact_i 𝓤 (Some x ≡ v.decoder) (emp 𝓤) (sym some)) $ nothing ! $ nothing ! $ fjoin ! $
    returns ! (look_at ! 0 refl) $ free_all ! refl $ keep ! (4 ∷ 0 ∷ 2 ∷ 1 ∷ []) $
    by ! (leaves 𝓛 ended hs c z w (record { at = block_ptr b o; alloc = v.alloc; value = x }) (tt, tt) (tt, tt))))))
