-- `none` owns nothing.
use Rattle.avc_c.proofs.Common.{◌≡◌, List, [], ◌∷◌, ◌++◌, refl, sym, subst, Val, vnull, SProp, ent, id⊢, emp, ftrue, WpFn, fact, fact_i}
use Rattle.avc_c.proofs.Common.{tables, lit, no_more, and_then, returns, enter, agg, owns, types_at, plain, null_ptr, nothing, alive, Stays}
use Rattle.avc_c.proofs.Common.{stay_dropped, walk_of, Option, None, Goes-blank, handle_tells, proved_at, leaves, OpenDecoder}
use types.Kit.{‵, raw, ◌⊛◌, ◌$◌, ◌∵◌, !, qed, by, move, keep, drop, split, fsplit, fjoin, suffices, use0}
use types.ByLocal.{alloc_all, pass_all, free_all, look_at, get, sets}
use Rattle.avc_c.proofs.RawBoxes.{two}
use Rattle.avc_c.proofs.Addresses.{Z, heap, null_typed, address_in}
use Rattle.avc_c.specs.contracts.address.DecoderAddress.none.{ended, clauses}
use Rattle.avc_c.specs.contracts.address.DecoderAddress.none.Key.{name as #self}
use Rattle.avc_c.proofs.address.DecoderAddress.none.Statement.{statement}
use Rattle.avc_c.proofs.address.DecoderAddress.none.Code as code

abbrev none : Option OpenDecoder
none = None

pub none_spec : {M : Type 1} → statement M
none_spec 𝓤 𝓛 𝓜 𝓡 wired =
    let H = 𝓛.H in let 𝓣 = tables 𝓤 H 𝓜 𝓡 𝓡.env in let c = clauses 𝓛 𝓜.mem 𝓡.returns in let fn = code.function in
    let hs : Stays ended.signature.params ended.kept = (stay_dropped (plain (λ _. Z)) ended.kept.0, tt) in
    proved_at 𝓛 ended hs c 𝓜 𝓡 (Goes-blank 𝓛 0 (plain (λ _. Z)) ended.kept.0 (λ κs x f. tt), tt) #self fn (code.unfolded 𝓤 H 𝓜 𝓡 wired) (λ z are.
    let a = z.0.3.0 in let Post : Val → SProp 𝓤 = (walk_of 𝓛 ended hs c).post z in let Run : List Val → SProp 𝓤 = λ ws. WpFn 𝓤 H 𝓣.C 𝓣.Λ fn ws Post in
    qed 𝓛 ((raw (alive 𝓛 ended.signature z.0.0 z.0.1) ⊛ ‵ (owns (types_at ended.signature.params z.0.0) z.0.3 z.0.4)) ∷ ‵ ftrue ∷ []) ∵
    move ! (1 ∷ []) $ drop ! $ split ! $ move ! (1 ∷ []) $ fsplit ! $ handle_tells heap ! a z.0.4.0 (λ h ws fits.
    let w : Val = two vnull h in let made = null_typed h fits in
    nothing ! $ address_in ! null_ptr h a none $
    suffices ! (Run (h ∷ [])) (subst (λ (us : List Val). ent 𝓤 (Run (h ∷ [])) (Run us)) (sym (λ i. ws i ++ [])) (id⊢ 𝓤 (Run (h ∷ [])))) $
    enter ! 𝓣.C 𝓣.Λ fn (h ∷ []) Post $ alloc_all ! (λ l. pass_all ! refl (fits, tt) $
    sets ! (agg ! (and_then ! (lit ! tt) (and_then ! (get ! refl) (no_more !)))) refl made $
    use0 𝓛 (raw (fact 𝓤 (none ≡ none))) (fact_i 𝓤 (none ≡ none) (emp 𝓤) refl) $ nothing ! $ nothing ! $ fjoin ! $
    returns ! (look_at ! 0 refl) $ free_all ! refl $ keep ! (4 ∷ 0 ∷ 2 ∷ 1 ∷ []) $
    by ! (leaves 𝓛 ended hs c z w (record { at = null_ptr; alloc = a; decoder = none }) (tt, tt) (tt, tt)))))
